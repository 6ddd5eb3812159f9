-- Classes that no two rows of one symbol and count have at one place: their equation makes no other two classes one.
--     same-differ       two rows of one class do not differ
--     beside-differ     nor do rows of classes that are nowhere beside each other and not kept apart
-- Assumes nothing.
use mathlib.Core.Bool.{Bool, true, false}
use mathlib.Core.Path.{◌≡◌, refl, sym, ◌∙◌, subst}
use mathlib.Core.Logic.{inl, inr, ⊎_elim}
use Prim.Native.Nat.{ℕ, ◌<◌}
use native.Mathlib.Omega.{arith}
use native.Mathlib.Decide.{dec_lt}
use lib.ListN.{length}
use Rattle.meaning.specs.Context.{Context, equations, differences}
use Rattle.meaning.specs.Equality.{Consistent, Representatives}
use Rattle.meaning.specs.Formed.{Fit}
use Rattle.meaning.specs.ByTable.{apart_by}
use Rattle.meaning.specs.Closing.{move}
use Rattle.meaning.specs.Following.{differ_by}
use Rattle.meaning.proofs.Apartness.{apart_by-symmetric}
use Rattle.meaning.proofs.FollowingClosing.{with-given}
use Rattle.meaning.proofs.Logic.{false-true}
use Rattle.meaning.proofs.Progress.{move-cases}
use Rattle.search_pairs.specs.Ready.{arg_of, arg_count, Beside}
use Rattle.search_pairs.specs.Steps.{Two, SameSymbol, Way}
use Rattle.search_pairs.proofs.Ways.{way-start, way-join, way-done}

module _ (c : Context) (fit : Fit c) (free : Consistent c) (rep : ℕ → ℕ) (reps : Representatives c rep) (i j : ℕ) (hi : i < length c.rows) (hj : j < length c.rows) where
  start : Way c rep i j (λ a. a) (λ r. false)
  start = way-start c fit free rep reps i j hi hj (λ a. a) (λ r. false) (λ a h. refl)

  pub same-differ : rep i ≡ rep j → differ_by c i j ≡ false
  same-differ e = way-done c fit free rep reps i j hi hj (λ a. a) (λ r. false) start (λ r h. refl) e

  module _ (beside : ℕ → ℕ → Bool) (besides : Beside c.rows rep beside) (none : beside (rep i) (rep j) ≡ false)
      (apart : apart_by rep (differences c) (rep i) (rep j) ≡ false) where
    -- at no place of two rows of one symbol and count
    never : (r s k : ℕ) → r < length c.rows → s < length c.rows → SameSymbol c.rows r s
        → arg_count c.rows r ≡ arg_count c.rows s → k < arg_count c.rows r
        → Two (rep i) (rep j) (rep (arg_of c.rows r k)) (rep (arg_of c.rows s k)) → ⊥
    never r s k h l e f g (inl w) =
        false-true (subst (λ (x : ℕ). beside x (rep j) ≡ true) w.0 (subst (λ (x : ℕ). beside (rep (arg_of c.rows r k)) x ≡ true) w.1 (besides.each r s k h l e f g))) none
    never r s k h l e f g (inr w) =
        false-true
        (subst (λ (x : ℕ). beside x (rep j) ≡ true) w.1 (subst (λ (x : ℕ). beside (rep (arg_of c.rows s k)) x ≡ true) w.0 (besides.each s r k l h (sym e) (sym f) (omega arith))))
        none

    joined : (lo up : ℕ) → lo < up → Two lo up (rep i) (rep j) → (Two (rep i) (rep j) lo up) → differ_by c i j ≡ false
    joined lo up less two back =
        way-done c fit free rep reps i j hi hj (move lo up) (λ r. false)
        (way-join c fit free rep reps i j hi hj (λ a. a) (λ r. false) start i j hi hj (with-given c.rows (equations c) i j) lo up two less (move lo up) (λ r. false)
        (λ a h. refl)
        (λ r h e. e)
        (λ r s k h l e f g t. absurd (never r s k h l e f g (turn _ _ t)))
        (λ a b h l e f. parts a b e f))
        (λ r h. refl)
        one
      where
        turn : (x y : ℕ) → Two lo up x y → Two (rep i) (rep j) x y
        turn x y (inl w) = ⊎_elim (λ b. inl (w.0 ∙ b.0, w.1 ∙ b.1)) (λ b. inr (w.0 ∙ b.0, w.1 ∙ b.1)) back
        turn x y (inr w) = ⊎_elim (λ b. inr (w.0 ∙ b.1, w.1 ∙ b.0)) (λ b. inl (w.0 ∙ b.1, w.1 ∙ b.0)) back

        parts : (a b : ℕ) → a ≡ lo → b ≡ up → apart_by rep (differences c) a b ≡ false
        parts a b e f =
            ⊎_elim
            (λ w. rw (e ∙ w.0, f ∙ w.1) apart)
            (λ w. rw (e ∙ w.0, f ∙ w.1) (apart_by-symmetric rep (differences c) (rep j) (rep i) ∙ apart))
            back

        one : move lo up (rep i) ≡ move lo up (rep j)
        one = ⊎_elim (λ w. rw (w.0, w.1) (low ∙ sym high)) (λ w. rw (w.0, w.1) (high ∙ sym low)) two
          where
            low : move lo up lo ≡ lo
            low = ⊎_elim (λ x. x.1) (λ x. x.1) (move-cases lo up lo)

            high : move lo up up ≡ lo
            high = ⊎_elim (λ x. x.1) (λ x. absurd (x.0 refl)) (move-cases lo up up)

    pub beside-differ : differ_by c i j ≡ false
    beside-differ = go (dec_lt (rep i) (rep j)) (dec_lt (rep j) (rep i))
      where
        go : Dec (rep i < rep j) → Dec (rep j < rep i) → differ_by c i j ≡ false
        go (yes h) d = joined (rep i) (rep j) h (inl (refl, refl)) (inl (refl, refl))
        go (no h) (yes l) = joined (rep j) (rep i) l (inr (refl, refl)) (inr (refl, refl))
        go (no h) (no l) = same-differ (omega arith)
