-- The parts that are handed over are what has to be printed.
--     text-fits      the bytes of the text stand in its space
--     parts-print    the two parts joined are what has to be printed
-- Assumes nothing.
use mathlib.Core.List.{List, ◌++◌}
use mathlib.Core.Path.{◌≡◌, ap}
use Prim.Native.Nat.{ℕ, ◌≤◌}
use native.Mathlib.Omega.{arith}
use borrow.Author.Rules.{rules}
use lib.ListN.{length, take, replicate, length-replicate}
use Rattle.meaning.specs.Text.{narrow}
use Rattle.meaning.specs.Replies.{NormalisePrints}
use Rattle.outputs.specs.Claims.{normal_limit, PrintsNormal}
use Rattle.outputs.specs.declared.Parts.{Parts}
use Rattle.outputs.proofs.Outputs.{output-fits, output-prints}

module _ (input space : List ℕ) (r : Parts) (after : List ℕ) (p : PrintsNormal input space r after) where
  pub text-fits : r.text ≤ length after
  text-fits = output-fits input space after r p

  pub parts-print : space ≡ replicate normal_limit 0 → NormalisePrints narrow input (take r.text after ++ take r.line.len r.line.bytes)
  parts-print e = output-prints input space after r (omega (arith, ap length e, length-replicate {A = ℕ} normal_limit 0)) p

pub ruleset mine = (rules, text-fits, parts-print)
