-- What a normal context states: for each row that is not its own representative an equation, and the sorted pairs of representatives.
--     Joint, joins-in, in-joins              its equations: a representative, and a row of its class
--     length-joins                           there are no more of them than rows
--     joins_of, parts_of                       its equations, and its differences
--     normal-equations, normal-differences   these are what it states
--     normal-rows                            its rows are those of the context
-- Assumes nothing.
use mathlib.Core.Bool.{Bool, true, false}
use mathlib.Core.List.{List, [], ◌∷◌, ◌++◌, map, append-nil}
use mathlib.Core.Path.{◌≡◌, refl, ap, sym, ◌∙◌, subst}
use mathlib.Core.Logic.{inl, inr}
use Prim.Native.Nat.{ℕ, zero, suc, ◌+◌, ◌≤◌, ◌<◌}
use native.Mathlib.Omega.{arith}
use lib.Dec.{eqb}
use borrow.Author.Tests.{eqb-true, eqb-false}
use lib.ListN.{length}
use Rattle.meaning.specs.Context.{Context, Statement, same, differ, equations_of, differences_of, equations, differences}
use Rattle.meaning.specs.Writing.{joins, sorted, lower_first, normal_of}
use Rattle.meaning.specs.Members.{In}
use Rattle.meaning.proofs.Taken.{equations-append, differences-append}

differ-equations : (l : List (ℕ × ℕ)) → equations_of (map (λ p. differ p.0 p.1) l) ≡ []
unfolding equations_of
differ-equations [] = refl
differ-equations (p ∷ l) = differ-equations l

differ-differences : (l : List (ℕ × ℕ)) → differences_of (map (λ p. differ p.0 p.1) l) ≡ l
unfolding differences_of
differ-differences [] = refl
differ-differences (p ∷ l) = ap (λ (x : List (ℕ × ℕ)). p ∷ x) (differ-differences l)

-- what the first of some rows adds: nothing where it is its own representative, and else an equation
data Joining (rep : ℕ → ℕ) (i n : ℕ) : List Statement → Type 0 where
  own : rep i ≡ i → Joining rep i n (joins rep (suc i) n)
  other : (rep i ≡ i → ⊥) → Joining rep i n (same (rep i) i ∷ joins rep (suc i) n)

joining : (rep : ℕ → ℕ) (i n : ℕ) → Joining rep i n (joins rep i (suc n))
unfolding joins
joining rep i n = go (eqb (rep i) i) refl
  where
    go : (b : Bool) → eqb (rep i) i ≡ b → Joining rep i n (joins rep i (suc n))
    go true e = rw (e, joins) (own (eqb-true (rep i) i e))
    go false e = rw (e, joins) (other (eqb-false (rep i) i e))

joins-differences : (rep : ℕ → ℕ) (i n : ℕ) → differences_of (joins rep i n) ≡ []
unfolding joins differences_of
joins-differences rep i zero = refl
joins-differences rep i (suc n) = go (joins rep i (suc n)) (joining rep i n) (joins-differences rep (suc i) n)
  where
    go : (l : List Statement) → Joining rep i n l → differences_of (joins rep (suc i) n) ≡ [] → differences_of l ≡ []
    go l (own e) ih = ih
    go l (other e) ih = ih

pub length-joins : (rep : ℕ → ℕ) (i n : ℕ) → length (equations_of (joins rep i n)) ≤ n
unfolding joins equations_of
length-joins rep i zero = omega arith
length-joins rep i (suc n) = go (joins rep i (suc n)) (joining rep i n) (length-joins rep (suc i) n)
  where
    go : (l : List Statement) → Joining rep i n l → length (equations_of (joins rep (suc i) n)) ≤ n → length (equations_of l) ≤ suc n
    go l (own e) ih = omega arith
    go l (other e) ih = omega arith

-- the pair (representative, row) of one of n rows from row i on that is not its own representative
abbrev pub Joint : (ℕ → ℕ) → ℕ → ℕ → ℕ × ℕ → Type 0
Joint rep i n x = (i ≤ x.1) × (x.1 < i + n) × (x.0 ≡ rep x.1) × (rep x.1 ≡ x.1 → ⊥)

pub joins-in : (rep : ℕ → ℕ) (i n : ℕ) (x : ℕ × ℕ) → In x (equations_of (joins rep i n)) → Joint rep i n x
unfolding joins equations_of
joins-in rep i zero x m = absurd m
joins-in rep i (suc n) x m = go (joins rep i (suc n)) (joining rep i n) m (joins-in rep (suc i) n x)
  where
    later : Joint rep (suc i) n x → Joint rep i (suc n) x
    later j = (omega (arith, j.0), omega (arith, j.1), j.2, j.3)

    go : (l : List Statement) → Joining rep i n l → In x (equations_of l) → (In x (equations_of (joins rep (suc i) n)) → Joint rep (suc i) n x) → Joint rep i (suc n) x
    go l (own e) m ih = later (ih m)
    go l (other e) (inl f) ih =
        let j : x.1 ≡ i = ap (λ (y : ℕ × ℕ). y.1) f in
        (omega arith, omega arith, ap (λ (y : ℕ × ℕ). y.0) f ∙ ap rep (sym j), λ g. e (ap rep (sym j) ∙ g ∙ j))
    go l (other e) (inr m) ih = later (ih m)

pub in-joins : (rep : ℕ → ℕ) (i n j : ℕ) → i ≤ j → j < i + n → (rep j ≡ j → ⊥) → In (rep j, j) (equations_of (joins rep i n))
unfolding joins equations_of
in-joins rep i zero j h k f = absurd (omega arith)
in-joins rep i (suc n) j h k f = go (joins rep i (suc n)) (joining rep i n) (eqb i j) refl (in-joins rep (suc i) n j)
  where
    go : (l : List Statement) → Joining rep i n l → (b : Bool) → eqb i j ≡ b
        → (suc i ≤ j → j < suc i + n → (rep j ≡ j → ⊥) → In (rep j, j) (equations_of (joins rep (suc i) n)))
        → In (rep j, j) (equations_of l)
    go l (own e) true d ih = absurd (f (subst (λ (x : ℕ). rep x ≡ x) (eqb-true i j d) e))
    go l (other e) true d ih = inl (ap (λ (x : ℕ). (rep x, x)) (sym (eqb-true i j d)))
    go l (own e) false d ih = ih (omega (arith, eqb-false i j d)) (omega arith) f
    go l (other e) false d ih = inr (ih (omega (arith, eqb-false i j d)) (omega arith) f)

abbrev pub joins_of : (ℕ → ℕ) → Context → List (ℕ × ℕ)
joins_of rep c = equations_of (joins rep 0 (length c.rows))

abbrev pub parts_of : (ℕ → ℕ) → Context → List (ℕ × ℕ)
parts_of rep c = sorted (map (lower_first rep) (differences c))

pub normal-equations : (rep : ℕ → ℕ) (c : Context) → equations (normal_of rep c) ≡ joins_of rep c
unfolding normal_of
normal-equations rep c =
    equations-append (joins rep 0 (length c.rows)) _
    ∙ ap (λ (l : List (ℕ × ℕ)). joins_of rep c ++ l) (differ-equations (parts_of rep c))
    ∙ append-nil (joins_of rep c)

pub normal-differences : (rep : ℕ → ℕ) (c : Context) → differences (normal_of rep c) ≡ parts_of rep c
unfolding normal_of
normal-differences rep c =
    differences-append (joins rep 0 (length c.rows)) _
    ∙ ap (λ (l : List (ℕ × ℕ)). l ++ differences_of (map (λ p. differ p.0 p.1) (parts_of rep c))) (joins-differences rep 0 (length c.rows))
    ∙ differ-differences (parts_of rep c)

pub normal-rows : (rep : ℕ → ℕ) (c : Context) → (normal_of rep c).rows ≡ c.rows
unfolding normal_of
normal-rows rep c = refl
