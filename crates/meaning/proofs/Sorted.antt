-- Pairs of numbers sorted by first then second: `sorted` has exactly the members of its argument, each once and in this order.
--     in-at, in_place                a member of a list, and the place where it stands
--     Sooner, Ascending              the order; each pair stands before those that follow it
--     sorted-in, sorted-ascending    what sorting keeps, and what it makes
--     ascending-one, sorted-self     ascending lists with the same members are one list; sorting an ascending list leaves it
-- Assumes nothing.
use mathlib.Core.Bool.{Bool, true, false, ◌&&◌}
use mathlib.Core.List.{List, [], ◌∷◌, map}
use mathlib.Core.Path.{◌≡◌, refl, ap, ap₂, sym, ◌∙◌, subst}
use mathlib.Core.Logic.{◌⊎◌, inl, inr, ⊎_elim, ◌↔◌}
use Prim.Native.Nat.{ℕ, zero, suc, ◌≤◌, ◌<◌}
use native.Mathlib.Omega.{arith}
use lib.Dec.{eqb, ltb}
use borrow.Author.Tests.{eqb-true, eq-eqb, ltb-true, ltb-false, lt-ltb}
use lib.ListN.{length, get_or}
use Rattle.meaning.specs.Writing.{sooner, insert, sorted}
use Rattle.meaning.specs.Members.{In}
use Rattle.meaning.proofs.Logic.{and-true-left, and-true-right, and_both, or_cases, or_left, or_right, false-true}

-- ---- members

pub in-at : {A : Type 0} (l : List A) (k : ℕ) (d : A) → k < length l → In (get_or l k d) l
in-at [] k d h = absurd (omega arith)
in-at (x ∷ l) zero d h = inl refl
in-at (x ∷ l) (suc k) d h = inr (in-at l k d (omega arith))

pub in_place : {A : Type 0} (x : A) (l : List A) (d : A) → In x l → (k : ℕ) × (k < length l) × (get_or l k d ≡ x)
in_place x [] d m = absurd m
in_place x (y ∷ l) d (inl e) = (0, omega arith, sym e)
in_place x (y ∷ l) d (inr m) =
    let w : (k : ℕ) × (k < length l) × (get_or l k d ≡ x) = in_place x l d m in
    (suc w.0, omega (arith, w.1), w.2)

pub in_map : {A B : Type 0} (f : A → B) (x : A) (l : List A) → In x l → In (f x) (map f l)
in_map f x [] m = m
in_map f x (y ∷ l) (inl e) = inl (ap f e)
in_map f x (y ∷ l) (inr m) = inr (in_map f x l m)

pub map-in : {A B : Type 0} (f : A → B) (y : B) (l : List A) → In y (map f l) → (x : A) × In x l × (y ≡ f x)
map-in f y [] m = absurd m
map-in f y (x ∷ l) (inl e) = (x, inl refl, e)
map-in f y (x ∷ l) (inr m) =
    let w : (x : _) × In x l × (y ≡ f x) = map-in f y l m in
    (w.0, inr w.1, w.2)

-- ---- the order

abbrev pub Sooner : ℕ × ℕ → ℕ × ℕ → Type 0
Sooner p q = (p.0 < q.0) ⊎ ((p.0 ≡ q.0) × (p.1 < q.1))

pub sooner-self : (p q : ℕ × ℕ) → p ≡ q → Sooner p q → ⊥
sooner-self p q e (inl h) = let f : p.0 ≡ q.0 = ap (λ (x : ℕ × ℕ). x.0) e in omega arith
sooner-self p q e (inr h) = let f : p.1 ≡ q.1 = ap (λ (x : ℕ × ℕ). x.1) e in omega (arith, h.1)

pub sooner-once : (p q : ℕ × ℕ) → Sooner p q → Sooner q p → ⊥
sooner-once p q (inl h) (inl k) = omega arith
sooner-once p q (inl h) (inr k) = omega (arith, k.0)
sooner-once p q (inr h) (inl k) = omega (arith, h.0)
sooner-once p q (inr h) (inr k) = omega (arith, h.1, k.1)

pub sooner-then : (p q r : ℕ × ℕ) → Sooner p q → Sooner q r → Sooner p r
sooner-then p q r (inl h) (inl k) = inl (omega arith)
sooner-then p q r (inl h) (inr k) = inl (omega (arith, k.0))
sooner-then p q r (inr h) (inl k) = inl (omega (arith, h.0))
sooner-then p q r (inr h) (inr k) = inr (omega (arith, h.0, k.0), omega (arith, h.1, k.1))

sooner-true : (p q : ℕ × ℕ) → sooner p q ≡ true → Sooner p q
unfolding sooner
sooner-true p q e = ⊎_elim (λ h. inl (ltb-true _ _ h)) (λ h. inr (eqb-true _ _ (and-true-left a b h), ltb-true _ _ (and-true-right a b h))) (or_cases (ltb p.0 q.0) (a && b) e)
  where
    a : Bool
    a = eqb p.0 q.0

    b : Bool
    b = ltb p.1 q.1

true-sooner : (p q : ℕ × ℕ) → Sooner p q → sooner p q ≡ true
unfolding sooner
true-sooner p q (inl h) = or_left (ltb p.0 q.0) (eqb p.0 q.0 && ltb p.1 q.1) (lt-ltb _ _ h)
true-sooner p q (inr h) =
    or_right (ltb p.0 q.0) (eqb p.0 q.0 && ltb p.1 q.1)
    (and_both (eqb p.0 q.0) (ltb p.1 q.1) (eq-eqb _ _ h.0) (lt-ltb _ _ h.1))

false-sooner : (p q : ℕ × ℕ) → sooner p q ≡ false → Sooner p q → ⊥
false-sooner p q e h = false-true (true-sooner p q h) e

-- neither is sooner just where the two are one
pub sooner-total : (p q : ℕ × ℕ) → (Sooner p q → ⊥) → (Sooner q p → ⊥) → p ≡ q
sooner-total p q f g = go (ltb p.0 q.0) refl (ltb q.0 p.0) refl
  where
    go : (a : Bool) → ltb p.0 q.0 ≡ a → (b : Bool) → ltb q.0 p.0 ≡ b → p ≡ q
    go true d b e = absurd (f (inl (ltb-true _ _ d)))
    go false d true e = absurd (g (inl (ltb-true _ _ e)))
    go false d false e = ap₂ (λ (x y : ℕ). (x, y)) left (last (ltb p.1 q.1) refl (ltb q.1 p.1) refl)
      where
        left : p.0 ≡ q.0
        left = omega (arith, ltb-false p.0 q.0 d, ltb-false q.0 p.0 e)

        last : (a : Bool) → ltb p.1 q.1 ≡ a → (b : Bool) → ltb q.1 p.1 ≡ b → p.1 ≡ q.1
        last true i b j = absurd (f (inr (left, ltb-true _ _ i)))
        last false i true j = absurd (g (inr (sym left, ltb-true _ _ j)))
        last false i false j = omega (arith, ltb-false p.1 q.1 i, ltb-false q.1 p.1 j)

-- ---- inserting

-- what a pair that is inserted before the first pair, behind it, or in its place gives
data Insertion (p q : ℕ × ℕ) (l : List (ℕ × ℕ)) : List (ℕ × ℕ) → Type 0 where
  before : Sooner p q → Insertion p q l (p ∷ q ∷ l)
  behind : Sooner q p → Insertion p q l (q ∷ insert p l)
  there : p ≡ q → Insertion p q l (q ∷ l)

insertion : (p q : ℕ × ℕ) (l : List (ℕ × ℕ)) → Insertion p q l (insert p (q ∷ l))
unfolding insert
insertion p q l = go (sooner p q) refl (sooner q p) refl
  where
    go : (a : Bool) → sooner p q ≡ a → (b : Bool) → sooner q p ≡ b → Insertion p q l (insert p (q ∷ l))
    go true d b e = rw (d, insert) (before (sooner-true p q d))
    go false d true e = rw (d, e, insert) (behind (sooner-true q p e))
    go false d false e = rw (d, e, insert) (there (sooner-total p q (false-sooner p q d) (false-sooner q p e)))

insert-in : (x p : ℕ × ℕ) (l : List (ℕ × ℕ)) → In x (insert p l) → (x ≡ p) ⊎ In x l
unfolding insert
insert-in x p [] m = m
insert-in x p (q ∷ l) m = go (insert p (q ∷ l)) (insertion p q l) m (insert-in x p l)
  where
    go : (n : List (ℕ × ℕ)) → Insertion p q l n → In x n → (In x (insert p l) → (x ≡ p) ⊎ In x l) → (x ≡ p) ⊎ In x (q ∷ l)
    go n (before s) m ih = m
    go n (behind s) (inl e) ih = inr (inl e)
    go n (behind s) (inr m) ih = ⊎_elim (λ e. inl e) (λ h. inr (inr h)) (ih m)
    go n (there e) m ih = inr m

in_insert : (x p : ℕ × ℕ) (l : List (ℕ × ℕ)) → (x ≡ p) ⊎ In x l → In x (insert p l)
unfolding insert
in_insert x p [] m = m
in_insert x p (q ∷ l) m = go (insert p (q ∷ l)) (insertion p q l) m (in_insert x p l)
  where
    go : (n : List (ℕ × ℕ)) → Insertion p q l n → (x ≡ p) ⊎ In x (q ∷ l) → ((x ≡ p) ⊎ In x l → In x (insert p l)) → In x n
    go n (before s) m ih = m
    go n (behind s) (inl e) ih = inr (ih (inl e))
    go n (behind s) (inr (inl e)) ih = inl e
    go n (behind s) (inr (inr m)) ih = inr (ih (inr m))
    go n (there e) (inl f) ih = inl (f ∙ e)
    go n (there e) (inr m) ih = m

-- ---- ascending lists

abbrev pub Ascending : List (ℕ × ℕ) → Type 0
Ascending [] = Unit {0}
Ascending (p ∷ l) = ((q : ℕ × ℕ) → In q l → Sooner p q) × Ascending l

insert-ascending : (p : ℕ × ℕ) (l : List (ℕ × ℕ)) → Ascending l → Ascending (insert p l)
unfolding insert
insert-ascending p [] a = (λ q m. absurd m, tt)
insert-ascending p (q ∷ l) a = go (insert p (q ∷ l)) (insertion p q l) (insert-ascending p l a.1)
  where
    go : (n : List (ℕ × ℕ)) → Insertion p q l n → Ascending (insert p l) → Ascending n
    go n (before s) ih = (
      λ x m. ⊎_elim (λ e. subst (Sooner p) (sym e) s) (λ h. sooner-then p q x s (a.0 x h)) m,
      a,
    )
    go n (behind s) ih = (
      λ x m. ⊎_elim (λ e. subst (Sooner q) (sym e) s) (λ h. a.0 x h) (insert-in x p l m),
      ih,
    )
    go n (there e) ih = a

length-insert : (p : ℕ × ℕ) (l : List (ℕ × ℕ)) → length (insert p l) ≤ suc (length l)
unfolding insert
length-insert p [] = omega arith
length-insert p (q ∷ l) = go (insert p (q ∷ l)) (insertion p q l) (length-insert p l)
  where
    go : (n : List (ℕ × ℕ)) → Insertion p q l n → length (insert p l) ≤ suc (length l) → length n ≤ suc (suc (length l))
    go n (before s) ih = omega arith
    go n (behind s) ih = omega arith
    go n (there e) ih = omega arith

-- ---- sorting

pub in-sorted : (x : ℕ × ℕ) (l : List (ℕ × ℕ)) → In x l → In x (sorted l)
unfolding sorted
in-sorted x [] m = m
in-sorted x (p ∷ l) m = in_insert x p (sorted l) (⊎_elim (λ e. inl e) (λ h. inr (in-sorted x l h)) m)

pub sorted-in : (x : ℕ × ℕ) (l : List (ℕ × ℕ)) → In x (sorted l) → In x l
unfolding sorted
sorted-in x [] m = m
sorted-in x (p ∷ l) m = ⊎_elim (λ e. inl e) (λ h. inr (sorted-in x l h)) (insert-in x p (sorted l) m)

pub sorted-ascending : (l : List (ℕ × ℕ)) → Ascending (sorted l)
unfolding sorted
sorted-ascending [] = tt
sorted-ascending (p ∷ l) = insert-ascending p (sorted l) (sorted-ascending l)

pub length-sorted : (l : List (ℕ × ℕ)) → length (sorted l) ≤ length l
unfolding sorted
length-sorted [] = omega arith
length-sorted (p ∷ l) = omega (arith, length-insert p (sorted l), length-sorted l)

-- the first pairs agree, for each is in the other list
pub ascending-one : (l m : List (ℕ × ℕ)) → Ascending l → Ascending m → ((x : ℕ × ℕ) → In x l ↔ In x m) → l ≡ m
ascending-one [] [] a b f = refl
ascending-one [] (q ∷ m) a b f = absurd ((f q).1 (inl refl))
ascending-one (p ∷ l) [] a b f = absurd ((f p).0 (inl refl))
ascending-one (p ∷ l) (q ∷ m) a b f = ap₂ ◌∷◌ one (ascending-one l m a.1 b.1 rest)
  where
    one : p ≡ q
    one =
        ⊎_elim (λ e. e) (λ h. ⊎_elim (λ e. sym e) (λ k. absurd (sooner-once p q (a.0 q k) (b.0 p h))) ((f q).1 (inl refl)))
        ((f p).0 (inl refl))

    rest : (x : ℕ × ℕ) → In x l ↔ In x m
    rest x = (
      λ h. ⊎_elim (λ e. absurd (sooner-self p x (one ∙ sym e) (a.0 x h))) (λ k. k) ((f x).0 (inr h)),
      λ h. ⊎_elim (λ e. absurd (sooner-self q x (sym one ∙ sym e) (b.0 x h))) (λ k. k) ((f x).1 (inr h)),
    )

pub sorted-self : (l : List (ℕ × ℕ)) → Ascending l → sorted l ≡ l
sorted-self l a = ascending-one (sorted l) l (sorted-ascending l) a (λ x. (sorted-in x l, in-sorted x l))
