-- Closings that stop too early, tried on P9: their tables do not meet the contract.
--     no-equations-once     the stated equations, each applied once at the start, and nothing more
--     no-one-round          one round of the stated equations and of the rows that agree
--     some-closed           zeros in the first six places and own numbers after them do meet it
-- Assumes nothing.
use mathlib.Core.List.{List, ◌∷◌}
use mathlib.Core.Path.{◌≡◌, refl}
use Prim.Native.Nat.{ℕ, zero, suc, ◌≤◌, ◌<◌}
use native.Mathlib.Omega.{arith}
use Rattle.meaning.specs.Context.{equations_of, equations}
use Rattle.meaning.specs.Equality.{rep_at, Promise}
use Rattle.meaning.specs.ByTable.{same_list}
use Rattle.meaning.specs.Closing.{move, count, unite, upto, stated_pass, agree, unite_if, row_pass, rows_pass, round}
use Rattle.meaning.proofs.Closes.{length-count, rep_at-count}
use Rattle.closing.specs.declared.Answer.{Answer}
use Rattle.closing.specs.declared.Answer.TheVariants.{Closed}
use Rattle.closing.proofs.Examples.{ClosesIn, p9, p9-zero, p9-says, p9-fits, p9-equal}

pub no-equations-once : (x : Answer) → ClosesIn p9 x (stated_pass (equations p9) (count 255 0)) → ⊥
unfolding stated_pass upto unite move count equations_of
no-equations-once x c =
    let e : ◌≡◌ {A = ℕ} 1 0 = (p9-zero x (stated_pass (equations p9) (count 255 0)) c).1 1 (omega arith) in
    omega arith

pub no-one-round : (x : Answer) → ClosesIn p9 x (round p9.rows (equations p9) (count 255 0)) → ⊥
unfolding round rows_pass row_pass stated_pass upto unite_if agree same_list unite move count equations_of
no-one-round x c =
    let e : ◌≡◌ {A = ℕ} 1 0 = (p9-zero x (round p9.rows (equations p9) (count 255 0)) c).1 1 (omega arith) in
    omega arith

abbrev all : List ℕ
all = 0 ∷ 0 ∷ 0 ∷ 0 ∷ 0 ∷ 0 ∷ count 249 6

all-zero : (i : ℕ) → i < 6 → rep_at all i ≡ 0
all-zero zero h = refl
all-zero (suc zero) h = refl
all-zero (suc (suc zero)) h = refl
all-zero (suc (suc (suc zero))) h = refl
all-zero (suc (suc (suc (suc zero)))) h = refl
all-zero (suc (suc (suc (suc (suc zero))))) h = refl
all-zero (suc (suc (suc (suc (suc (suc i)))))) h = absurd (omega arith)

all_own : (i : ℕ) → 6 ≤ i → i < 255 → rep_at all i ≡ i
all_own zero h k = absurd (omega arith)
all_own (suc zero) h k = absurd (omega arith)
all_own (suc (suc zero)) h k = absurd (omega arith)
all_own (suc (suc (suc zero))) h k = absurd (omega arith)
all_own (suc (suc (suc (suc zero)))) h k = absurd (omega arith)
all_own (suc (suc (suc (suc (suc zero))))) h k = absurd (omega arith)
all_own (suc (suc (suc (suc (suc (suc i)))))) h k = omega (arith, rep_at-count 249 6 i (omega arith))

pub some-closed : ClosesIn p9 Closed all
some-closed = (p9-fits, rw p9-says promise)
  where
    promise : Promise p9 255 all
    promise =
        record {
          long = omega (arith, length-count 249 6);
          rows = λ i h. rw (all-zero i h) (record { row = omega arith; equal = p9-equal i h; least = λ j k e. omega arith });
          others = all_own;
        }
