-- What is kept apart and what clashes: both by equality alone, and as a table of representatives tells them.
--     apart-symmetric, apart-respects             apartness turns round, and goes with equality
--     apart-self, consistent-apart                a term kept apart from itself, and a clash
--     outside-apart                               a term equal to no row is kept apart from nothing
--     first-clash-one                             the first clash is one
--     clash-told, clash-first, clash-clear        what the computed clash says: of the table, and of the context
--     Meets, apart_by-true, apart_by-symmetric      what the computed apartness says of the table
--     apart-rows                                  two rows are kept apart just where their representatives are
-- Assumes nothing.
use mathlib.Core.Bool.{Bool, true, false, ◌&&◌, ◌||◌}
use mathlib.Core.List.{List, [], ◌∷◌}
use mathlib.Core.Path.{◌≡◌, refl, subst}
use mathlib.Core.Logic.{◌⊎◌, inl, inr, ⊎_elim, ◌↔◌}
use Prim.Native.Nat.{ℕ, zero, suc, ◌+◌, ◌<◌}
use native.Mathlib.Omega.{arith}
use native.Mathlib.Decide.{dec_lt}
use lib.Dec.{eqb}
use borrow.Author.Tests.{eqb-true, eqb-false, eq-eqb}
use lib.ListN.{length, get_or}
use Rattle.meaning.specs.Context.{Term, Context, term_at, differences, left_at, right_at}
use Rattle.meaning.specs.Equality.{EqualIn, ApartIn, Clash, FirstClash, Consistent, Representatives, reflexive, symmetric, transitive}
use Rattle.meaning.specs.Formed.{Fit}
use Rattle.meaning.specs.ByTable.{Clashing, first, clear, clash_from, clash_of, apart_by}
use Rattle.meaning.proofs.Logic.{and-true-left, and-true-right, and_both, or_cases, or_left, or_right, bool_same}
use Rattle.meaning.proofs.Promised.{model-rows}

-- ---- by equality alone

pub apart-symmetric : (c : Context) (s t : Term) → ApartIn c s t → ApartIn c t s
apart-symmetric c s t a = (a.0, a.1, ⊎_elim (λ w. inr w) (λ w. inl w) a.2)

pub apart-respects : (c : Context) (s s' t t' : Term) → EqualIn c s s' → EqualIn c t t' → ApartIn c s t → ApartIn c s' t'
apart-respects c s s' t t' d e a = (
  a.0,
  a.1,
  ⊎_elim
      (λ w. inl (transitive (symmetric d) w.0, transitive (symmetric e) w.1))
      (λ w. inr (transitive (symmetric e) w.0, transitive (symmetric d) w.1))
      a.2,
)

-- the difference that keeps a term apart from itself has equal sides
self-clash : (c : Context) (t : Term) → ApartIn c t t → (n : ℕ) × Clash c n
self-clash c t a =
    (a.0, (a.1, ⊎_elim (λ w. transitive (symmetric w.0) w.1) (λ w. transitive (symmetric w.0) w.1) a.2))

pub apart-self : (c : Context) → ((t : Term) × ApartIn c t t) ↔ ((n : ℕ) × Clash c n)
apart-self c = (
  λ a. self-clash c a.0 a.1,
  λ w. (term_at c.rows (left_at (differences c) w.0), (w.0, w.1.0, inl (reflexive, w.1.1))),
)

pub consistent-apart : (c : Context) → Consistent c → (t : Term) → ApartIn c t t → ⊥
consistent-apart c k t a = let w : (n : ℕ) × Clash c n = self-clash c t a in k w.0 w.1

pub outside-apart : (c : Context) → Fit c → (t : Term) → ((i : ℕ) → i < length c.rows → EqualIn c t (term_at c.rows i) → ⊥)
    → (s : Term) → (ApartIn c t s → ⊥) × (ApartIn c s t → ⊥)
outside-apart c fit t out s = (never, λ a. never (apart-symmetric c s t a))
  where
    never : ApartIn c t s → ⊥
    never a = ⊎_elim (λ w. out _ (fit.apart a.0 a.1).0 w.0) (λ w. out _ (fit.apart a.0 a.1).1 w.1) a.2

pub first-clash-one : (c : Context) (n m : ℕ) → FirstClash c n → FirstClash c m → n ≡ m
first-clash-one c n m p q = go (dec_lt n m) (dec_lt m n)
  where
    go : Dec (n < m) → Dec (m < n) → n ≡ m
    go (yes h) d = absurd (q.1 n h p.0)
    go (no h) (yes l) = absurd (p.1 m l q.0)
    go (no h) (no l) = omega arith

-- ---- the computed clash, whatever the table

-- the sides of pair n have one representative
abbrev pub Hits : (ℕ → ℕ) → List (ℕ × ℕ) → ℕ → Type 0
Hits rep ds n = (n < length ds) × (rep (left_at ds n) ≡ rep (right_at ds n))

-- the answer of a search that counts from i
abbrev pub Told : (ℕ → ℕ) → ℕ → List (ℕ × ℕ) → Clashing → Type 0
Told rep i ds (first n) = (k : ℕ) × (n ≡ i + k) × Hits rep ds k × ((m : ℕ) → m < k → Hits rep ds m → ⊥)
Told rep i ds clear = (m : ℕ) → Hits rep ds m → ⊥

told-later : (rep : ℕ → ℕ) (i : ℕ) (d : ℕ × ℕ) (ds : List (ℕ × ℕ)) → (rep d.0 ≡ rep d.1 → ⊥)
    → (r : Clashing) → Told rep (suc i) ds r → Told rep i (d ∷ ds) r
told-later rep i d ds out (first n) t = (suc t.0, omega (arith, t.1), (omega (arith, t.2.0), t.2.1), earlier)
  where
    earlier : (m : ℕ) → m < suc t.0 → Hits rep (d ∷ ds) m → ⊥
    earlier zero l h = out h.1
    earlier (suc m) l h = t.3 m (omega arith) (omega (arith, h.0), h.1)
told-later rep i d ds out clear t = never
  where
    never : (m : ℕ) → Hits rep (d ∷ ds) m → ⊥
    never zero h = out h.1
    never (suc m) h = t m (omega (arith, h.0), h.1)

told-from : (rep : ℕ → ℕ) (i : ℕ) (ds : List (ℕ × ℕ)) → Told rep i ds (clash_from rep i ds)
unfolding clash_from
told-from rep i [] = λ m h. omega (arith, h.0)
told-from rep i (d ∷ ds) = go (eqb (rep d.0) (rep d.1)) refl (told-from rep (suc i) ds)
  where
    go : (b : Bool) → eqb (rep d.0) (rep d.1) ≡ b → Told rep (suc i) ds (clash_from rep (suc i) ds) → Told rep i (d ∷ ds) (clash_from rep i (d ∷ ds))
    go true e w = rw (e, clash_from) (0, omega arith, (omega arith, eqb-true (rep d.0) (rep d.1) e), λ m h. absurd (omega arith))
    go false e w = rw (e, clash_from) (told-later rep i d ds (eqb-false (rep d.0) (rep d.1) e) (clash_from rep (suc i) ds) w)

pub clash-told : (rep : ℕ → ℕ) (ds : List (ℕ × ℕ)) → Told rep 0 ds (clash_of rep ds)
unfolding clash_of
clash-told rep ds = told-from rep 0 ds

-- ---- the computed apartness, whatever the table

-- two numbers are the representatives of a pair, in either orientation
abbrev pub Meets : (ℕ → ℕ) → ℕ → ℕ → ℕ × ℕ → Type 0
Meets rep n m d = ((n ≡ rep d.0) × (m ≡ rep d.1)) ⊎ ((m ≡ rep d.0) × (n ≡ rep d.1))

both_true : (n m p q : ℕ) → (eqb n p && eqb m q) ≡ true → (n ≡ p) × (m ≡ q)
both_true n m p q e = (eqb-true n p (and-true-left (eqb n p) (eqb m q) e), eqb-true m q (and-true-right (eqb n p) (eqb m q) e))

both-back : (n m p q : ℕ) → (n ≡ p) × (m ≡ q) → (eqb n p && eqb m q) ≡ true
both-back n m p q w = and_both (eqb n p) (eqb m q) (eq-eqb n p w.0) (eq-eqb m q w.1)

pub apart_by-true : (rep : ℕ → ℕ) (ds : List (ℕ × ℕ)) (n m : ℕ)
    → (apart_by rep ds n m ≡ true) ↔ ((k : ℕ) × (k < length ds) × Meets rep n m (get_or ds k (0, 0)))
unfolding apart_by
apart_by-true rep [] n m = (λ e. absurd (let z : ◌≡◌ {A = ℕ} 0 1 = cc in omega arith), λ w. absurd (omega (arith, w.1)))
apart_by-true rep (d ∷ ds) n m = (
  λ e. there (apart_by-true rep ds n m).0 (or_cases (a || b) (apart_by rep ds n m) e),
  λ w. back (apart_by-true rep ds n m).1 w.0 w.1 w.2,
)
  where
    a : Bool
    a = eqb n (rep d.0) && eqb m (rep d.1)

    b : Bool
    b = eqb m (rep d.0) && eqb n (rep d.1)

    Some : List (ℕ × ℕ) → Type 0
    Some l = (k : ℕ) × (k < length l) × Meets rep n m (get_or l k (0, 0))

    there : (apart_by rep ds n m ≡ true → Some ds) → ((a || b) ≡ true) ⊎ (apart_by rep ds n m ≡ true) → Some (d ∷ ds)
    there i (inl e) =
        (0, omega arith, ⊎_elim (λ x. inl (both_true n m (rep d.0) (rep d.1) x)) (λ x. inr (both_true m n (rep d.0) (rep d.1) x)) (or_cases a b e))
    there i (inr e) = let w : Some ds = i e in (suc w.0, omega (arith, w.1), w.2)

    back : (Some ds → apart_by rep ds n m ≡ true) → (k : ℕ) → k < suc (length ds) → Meets rep n m (get_or (d ∷ ds) k (0, 0))
        → ((a || b) || apart_by rep ds n m) ≡ true
    back i zero h (inl w) = or_left (a || b) (apart_by rep ds n m) (or_left a b (both-back n m (rep d.0) (rep d.1) w))
    back i zero h (inr w) = or_left (a || b) (apart_by rep ds n m) (or_right a b (both-back m n (rep d.0) (rep d.1) w))
    back i (suc k) h w = or_right (a || b) (apart_by rep ds n m) (i (k, omega arith, w))

apart_by-turn : (rep : ℕ → ℕ) (ds : List (ℕ × ℕ)) (n m : ℕ) → apart_by rep ds n m ≡ true → apart_by rep ds m n ≡ true
apart_by-turn rep ds n m e =
    let w : (k : ℕ) × (k < length ds) × Meets rep n m (get_or ds k (0, 0)) = (apart_by-true rep ds n m).0 e in
    (apart_by-true rep ds m n).1 (w.0, w.1, ⊎_elim (λ x. inr x) (λ x. inl x) w.2)

pub apart_by-symmetric : (rep : ℕ → ℕ) (ds : List (ℕ × ℕ)) (n m : ℕ) → apart_by rep ds n m ≡ apart_by rep ds m n
apart_by-symmetric rep ds n m = bool_same (apart_by rep ds n m) (apart_by rep ds m n) (apart_by-turn rep ds n m) (apart_by-turn rep ds m n)

-- ---- by a table that represents

module _ (c : Context) (fit : Fit c) (rep : ℕ → ℕ) (r : Representatives c rep) where
  abbrev row : ℕ → Term
  row i = term_at c.rows i

  abbrev left : ℕ → ℕ
  left k = left_at (differences c) k

  abbrev right : ℕ → ℕ
  right k = right_at (differences c) k

  clash-hits : (n : ℕ) → n < length (differences c) → EqualIn c (row (left n)) (row (right n)) ↔ (rep (left n) ≡ rep (right n))
  clash-hits n h = model-rows c fit rep r (left n) (right n) (fit.apart n h).0 (fit.apart n h).1

  pub clash-first : (n : ℕ) → clash_of rep (differences c) ≡ first n → FirstClash c n
  clash-first n e = subst (λ (k : ℕ). FirstClash c k) (omega (arith, t.1)) at
    where
      t : Told rep 0 (differences c) (first n)
      t = subst (Told rep 0 (differences c)) e (clash-told rep (differences c))

      at : FirstClash c t.0
      at = ((t.2.0, (clash-hits t.0 t.2.0).1 t.2.1), λ m l x. t.3 m l (x.0, (clash-hits m x.0).0 x.1))

  pub clash-clear : clash_of rep (differences c) ≡ clear → Consistent c
  clash-clear e m x = subst (Told rep 0 (differences c)) e (clash-told rep (differences c)) m (x.0, (clash-hits m x.0).0 x.1)

  pub apart-rows : (i j : ℕ) → i < length c.rows → j < length c.rows
      → ApartIn c (term_at c.rows i) (term_at c.rows j) ↔ (apart_by rep (differences c) (rep i) (rep j) ≡ true)
  apart-rows i j hi hj = (λ a. (apart_by-true rep (differences c) (rep i) (rep j)).1 (to a), λ e. back ((apart_by-true rep (differences c) (rep i) (rep j)).0 e))
    where
      Met : Type 0
      Met = (k : ℕ) × (k < length (differences c)) × Meets rep (rep i) (rep j) (get_or (differences c) k (0, 0))

      -- a row and a side of a difference
      by_left : (k p : ℕ) → k < length (differences c) → p < length c.rows → EqualIn c (row p) (row (left k)) ↔ (rep p ≡ rep (left k))
      by_left k p h hp = model-rows c fit rep r p (left k) hp (fit.apart k h).0

      by_right : (k p : ℕ) → k < length (differences c) → p < length c.rows → EqualIn c (row p) (row (right k)) ↔ (rep p ≡ rep (right k))
      by_right k p h hp = model-rows c fit rep r p (right k) hp (fit.apart k h).1

      to : ApartIn c (row i) (row j) → Met
      to a =
          let k : ℕ = a.0 in
          let h : k < length (differences c) = a.1 in
          (k, h, ⊎_elim (λ w. inl ((by_left k i h hi).0 w.0, (by_right k j h hj).0 w.1)) (λ w. inr ((by_left k j h hj).0 w.0, (by_right k i h hi).0 w.1)) a.2)

      back : Met → ApartIn c (row i) (row j)
      back a =
          let k : ℕ = a.0 in
          let h : k < length (differences c) = a.1 in
          (k, h, ⊎_elim (λ w. inl ((by_left k i h hi).1 w.0, (by_right k j h hj).1 w.1)) (λ w. inr ((by_left k j h hj).1 w.0, (by_right k i h hi).1 w.1)) a.2)
