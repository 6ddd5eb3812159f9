-- A step past the space is not stored.
--     unstored
-- Assumes nothing.
use mathlib.Core.List.{List}
use mathlib.Core.Path.{◌≡◌, sym}
use Prim.Native.Nat.{ℕ, ◌≤◌}
use borrow.Author.Rules.{rules}
use lib.ListN.{length, set}
use lib.Seq.{set_out}

pub unstored : (steps : List (List ℕ)) (i : ℕ) (words : List ℕ) → length steps ≤ i → steps ≡ set steps i words
unstored steps i words h = sym (set_out steps i words h)

pub ruleset mine = (rules, unstored)
