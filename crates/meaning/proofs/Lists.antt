-- Lists: one element more at the end, numbers that stand below a bound, and lists of numbers compared.
--     snoc-at                     what holds of each element of a list and of one more holds of each of the longer list
--     below_wider, below-append   a higher bound; two lists in a row
--     same_list                    whether two lists of numbers are the same
-- Assumes nothing.
use mathlib.Core.Bool.{Bool, true, false}
use mathlib.Core.List.{List, [], ◌∷◌, ◌++◌}
use mathlib.Core.Path.{◌≡◌, refl, ap₂}
use Prim.Native.Nat.{ℕ, zero, suc, ◌≤◌, ◌<◌}
use native.Mathlib.Omega.{arith}
use lib.Dec.{eqb}
use borrow.Author.Tests.{eqb-true, eqb-false, eq-eqb}
use lib.ListN.{length, get_or, length-append, get_or-append}
use lib.Seq.{get_or-append_seam}
use Rattle.meaning.specs.Rules.{Below}
use Rattle.meaning.specs.ByTable.{same_list}
use Rattle.meaning.proofs.Logic.{and-true-left, and-true-right}

pub length-snoc : {A : Type 0} (xs : List A) (x : A) → length (xs ++ (x ∷ [])) ≡ suc (length xs)
length-snoc xs x = omega (arith, length-append xs (x ∷ []))

pub snoc-at : {A : Type 0} (xs : List A) (x d : A) (i : ℕ) (P : ℕ → A → Type 0) → i < length (xs ++ (x ∷ [])) → (i < length xs → P i (get_or xs i d)) → P (length xs) x
    → P i (get_or (xs ++ (x ∷ [])) i d)
snoc-at {A} xs x d i P h f y = go (eqb i (length xs)) refl
  where
    go : (b : Bool) → eqb i (length xs) ≡ b → P i (get_or (xs ++ (x ∷ [])) i d)
    go true e = rw (eqb-true i (length xs) e, get_or-append_seam xs x [] d) y
    go false e =
        let l : i < length xs = omega (arith, length-append xs (x ∷ []), eqb-false i (length xs) e) in
        rw (get_or-append xs (x ∷ []) d i l) (f l)

pub below_wider : (n m : ℕ) (l : List ℕ) → n ≤ m → Below n l → Below m l
below_wider n m [] h b = tt
below_wider n m (a ∷ l) h b = (omega (arith, b.0), below_wider n m l h b.1)

pub below-append : (n : ℕ) (a b : List ℕ) → Below n a → Below n b → Below n (a ++ b)
below-append n [] b p q = q
below-append n (x ∷ a) b p q = (p.0, below-append n a b p.1 q)

pub below-first : (n : ℕ) (a b : List ℕ) → Below n (a ++ b) → Below n a
below-first n [] b p = tt
below-first n (x ∷ a) b p = (p.0, below-first n a b p.1)

pub below_last : (n : ℕ) (a b : List ℕ) → Below n (a ++ b) → Below n b
below_last n [] b p = p
below_last n (x ∷ a) b p = below_last n a b p.1

pub below_at : (n : ℕ) (a : List ℕ) → Below n a → (j : ℕ) → j < length a → get_or a j 0 < n
below_at n [] b j h = absurd (omega arith)
below_at n (x ∷ a) b zero h = b.0
below_at n (x ∷ a) b (suc j) h = below_at n a b.1 j (omega arith)

pub same_list-true : (l m : List ℕ) → same_list l m ≡ true → l ≡ m
unfolding same_list
same_list-true [] [] e = refl
same_list-true [] (b ∷ m) e = cc
same_list-true (a ∷ l) [] e = cc
same_list-true (a ∷ l) (b ∷ m) e =
    ap₂ ◌∷◌ (eqb-true a b (and-true-left (eqb a b) (same_list l m) e)) (same_list-true l m (and-true-right (eqb a b) (same_list l m) e))

pub same_list-self : (l : List ℕ) → same_list l l ≡ true
unfolding same_list
same_list-self [] = refl
same_list-self (a ∷ l) = rw (eq-eqb a a refl) (same_list-self l)
