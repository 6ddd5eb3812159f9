-- The two answers of `close`: the test of the columns says just whether they are fit.
--     columns-long     fit columns have a place for each argument
--     mine             what `close` leaves to show
-- Assumes nothing.
use mathlib.Core.Bool.{Bool, true, false}
use mathlib.Core.List.{List}
use mathlib.Core.Path.{◌≡◌}
use Prim.Native.Nat.{ℕ, ◌*◌, ◌≤◌}
use lib.ListN.{length}
use native.Mathlib.Omega.{arith}
use borrow.Author.Rules.{rules}
use Rattle.meaning.specs.Closing.{count}
use Rattle.meaning.proofs.Closes.{length-count, rep_at-count}
use Rattle.columns.specs.Fit.{Decides, Laid, FitContext}
use Rattle.columns.proofs.Deciding.{decides_not}
use Rattle.closing.specs.Claims.{Own}

module _ (symbols counts args : List ℕ) (n : ℕ) (kinds lefts rights : List ℕ) (m : ℕ) (r : Bool) (d : Decides r (FitContext symbols counts args n kinds lefts rights m)) where
  pub columns-fit : r ≡ true → FitContext symbols counts args n kinds lefts rights m
  columns-fit = d.holds

  pub columns-unfit : r ≡ false → FitContext symbols counts args n kinds lefts rights m → ⊥
  columns-unfit = decides_not d

pub columns-long : {counts args : List ℕ} {n : ℕ} {r : Bool} → (r ≡ true → Laid counts args n) → r ≡ true → n * 4 ≤ length args
columns-long laid e = (laid e).long

pub own-numbers : (t : List ℕ) → t ≡ count 255 0 → Own t
own-numbers t e = rw e (record { long = length-count 255 0; own = λ i h. omega (arith, rep_at-count 255 0 i h) })

pub ruleset mine = (rules, columns-fit, columns-unfit, own-numbers)
