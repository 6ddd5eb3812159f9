-- The stated equations and differences of columns.
--     pairs_from                       the pairs of the statements that are chosen
--     equations-are, differences-are  the equations and the differences are such pairs
--     pairs-place, pairs-from         a chosen statement is one of the pairs, and each pair is a chosen statement's
-- Assumes nothing.
use mathlib.Core.Bool.{Bool, true, false, not}
use mathlib.Core.List.{List, [], ◌∷◌, ◌++◌, append-nil}
use mathlib.Core.Path.{◌≡◌, refl, ap, ap₂, sym, ◌∙◌, subst}
use Prim.Native.Nat.{ℕ, zero, suc, ◌<◌}
use native.Mathlib.Omega.{arith}
use lib.Dec.{eqb}
use lib.ListN.{length, get_or, length-append, get_or-append}
use lib.Seq.{get_or-append_seam}
use borrow.Author.Tests.{eqb-true, eqb-false}
use Rattle.meaning.specs.Context.{Statement, same, differ, equations_of, differences_of}
use Rattle.meaning.specs.Columns.{statements_from, statement_of}
use Rattle.meaning.proofs.Lists.{length-snoc}

abbrev pub pair_at : List ℕ → List ℕ → ℕ → ℕ × ℕ
pair_at lefts rights k = (get_or lefts k 0, get_or rights k 0)

abbrev pub kept : Bool → ℕ × ℕ → List (ℕ × ℕ)
kept true p = p ∷ []
kept false p = []

unfoldable pub pairs_from : (ℕ → Bool) → List ℕ → List ℕ → ℕ → List (ℕ × ℕ)
pairs_from keep lefts rights zero = []
pairs_from keep lefts rights (suc m) = pairs_from keep lefts rights m ++ kept (keep m) (pair_at lefts rights m)

abbrev pub is_equation : List ℕ → ℕ → Bool
is_equation kinds k = eqb (get_or kinds k 0) 2

abbrev pub is_difference : List ℕ → ℕ → Bool
is_difference kinds k = not (eqb (get_or kinds k 0) 2)

equations-append : (a b : List Statement) → equations_of (a ++ b) ≡ equations_of a ++ equations_of b
unfolding equations_of
equations-append [] b = refl
equations-append (same p q ∷ a) b = ap ((p, q) ∷◌) (equations-append a b)
equations-append (differ p q ∷ a) b = equations-append a b

differences-append : (a b : List Statement) → differences_of (a ++ b) ≡ differences_of a ++ differences_of b
unfolding differences_of
differences-append [] b = refl
differences-append (same p q ∷ a) b = differences-append a b
differences-append (differ p q ∷ a) b = ap ((p, q) ∷◌) (differences-append a b)

pub equations-are : (kinds lefts rights : List ℕ) (m : ℕ) → equations_of (statements_from kinds lefts rights m) ≡ pairs_from (is_equation kinds) lefts rights m
unfolding statements_from pairs_from statement_of equations_of
equations-are kinds lefts rights zero = refl
equations-are kinds lefts rights (suc m) =
    equations-append (statements_from kinds lefts rights m) _ ∙ ap₂ ◌++◌ (equations-are kinds lefts rights m) (go (eqb (get_or kinds m 0) 2) refl)
  where
    go : (b : Bool) → eqb (get_or kinds m 0) 2 ≡ b
        → equations_of (statement_of (get_or kinds m 0) (get_or lefts m 0) (get_or rights m 0) ∷ []) ≡ kept (is_equation kinds m) (pair_at lefts rights m)
    go true e = rw (e, statement_of)
    go false e = rw (e, statement_of)

pub differences-are : (kinds lefts rights : List ℕ) (m : ℕ) → differences_of (statements_from kinds lefts rights m) ≡ pairs_from (is_difference kinds) lefts rights m
unfolding statements_from pairs_from statement_of differences_of
differences-are kinds lefts rights zero = refl
differences-are kinds lefts rights (suc m) =
    differences-append (statements_from kinds lefts rights m) _ ∙ ap₂ ◌++◌ (differences-are kinds lefts rights m) (go (eqb (get_or kinds m 0) 2) refl)
  where
    go : (b : Bool) → eqb (get_or kinds m 0) 2 ≡ b
        → differences_of (statement_of (get_or kinds m 0) (get_or lefts m 0) (get_or rights m 0) ∷ []) ≡ kept (is_difference kinds m) (pair_at lefts rights m)
    go true e = rw (e, statement_of)
    go false e = rw (e, statement_of)

-- ---- places

abbrev Place : (ℕ → Bool) → List ℕ → List ℕ → ℕ → ℕ → Type 0
Place keep lefts rights m k = (p : ℕ) × (p < length (pairs_from keep lefts rights m)) × (get_or (pairs_from keep lefts rights m) p (0, 0) ≡ pair_at lefts rights k)

place-on : (keep : ℕ → Bool) (lefts rights : List ℕ) (m k : ℕ) → Place keep lefts rights m k → Place keep lefts rights (suc m) k
unfolding pairs_from
place-on keep lefts rights m k (p, h, e) =
    let xs : List (ℕ × ℕ) = pairs_from keep lefts rights m in
    let ys : List (ℕ × ℕ) = kept (keep m) (pair_at lefts rights m) in
    (p, omega (arith, length-append xs ys), get_or-append xs ys (0, 0) p h ∙ e)

place-new : (keep : ℕ → Bool) (lefts rights : List ℕ) (m : ℕ) → keep m ≡ true → Place keep lefts rights (suc m) m
unfolding pairs_from
place-new keep lefts rights m e =
    let xs : List (ℕ × ℕ) = pairs_from keep lefts rights m in
    rw e
    (length xs, omega (arith, length-snoc xs (pair_at lefts rights m)), get_or-append_seam xs (pair_at lefts rights m) [] (0, 0))

pub pairs-place : (keep : ℕ → Bool) (lefts rights : List ℕ) (m k : ℕ) → k < m → keep k ≡ true → Place keep lefts rights m k
pairs-place keep lefts rights zero k h e = absurd (omega arith)
pairs-place keep lefts rights (suc m) k h e = go (eqb k m) refl (pairs-place keep lefts rights m k)
  where
    go : (b : Bool) → eqb k m ≡ b → (k < m → keep k ≡ true → Place keep lefts rights m k) → Place keep lefts rights (suc m) k
    go true q ih = subst (λ (x : ℕ). Place keep lefts rights (suc m) x) (sym (eqb-true k m q)) (place-new keep lefts rights m (ap keep (sym (eqb-true k m q)) ∙ e))
    go false q ih = place-on keep lefts rights m k (ih (omega (arith, eqb-false k m q)) e)

-- the statement of the p-th pair
abbrev Source : (ℕ → Bool) → List ℕ → List ℕ → ℕ → ℕ × ℕ → Type 0
Source keep lefts rights m d = (k : ℕ) × (k < m) × (keep k ≡ true) × (d ≡ pair_at lefts rights k)

source-on : (keep : ℕ → Bool) (lefts rights : List ℕ) (m : ℕ) (d : ℕ × ℕ) → Source keep lefts rights m d → Source keep lefts rights (suc m) d
source-on keep lefts rights m d (k, h, e, q) = (k, omega arith, e, q)

pub pairs-from : (keep : ℕ → Bool) (lefts rights : List ℕ) (m p : ℕ) → p < length (pairs_from keep lefts rights m)
    → Source keep lefts rights m (get_or (pairs_from keep lefts rights m) p (0, 0))
unfolding pairs_from
pairs-from keep lefts rights zero p h = absurd (omega arith)
pairs-from keep lefts rights (suc m) p h = go (keep m) refl (pairs-from keep lefts rights m p)
  where
    xs : List (ℕ × ℕ)
    xs = pairs_from keep lefts rights m

    d : ℕ × ℕ
    d = pair_at lefts rights m

    go : (b : Bool) → keep m ≡ b → (p < length xs → Source keep lefts rights m (get_or xs p (0, 0)))
        → Source keep lefts rights (suc m) (get_or (pairs_from keep lefts rights (suc m)) p (0, 0))
    go false e ih = rw (e, pairs_from, append-nil xs) (source-on keep lefts rights m (get_or xs p (0, 0)) (ih (omega (arith, ap (λ (b : Bool). length (xs ++ kept b d)) e, length-append xs []))))
    go true e ih = rw (e, pairs_from) (last (eqb p (length xs)) refl)
      where
        last : (b : Bool) → eqb p (length xs) ≡ b → Source keep lefts rights (suc m) (get_or (xs ++ (d ∷ [])) p (0, 0))
        last true q = (m, omega arith, e, rw (eqb-true p (length xs) q) (get_or-append_seam xs d [] (0, 0)))
        last false q =
            let k : p < length xs = omega (arith, ap (λ (b : Bool). length (xs ++ kept b d)) e, length-append xs (d ∷ []), eqb-false p (length xs) q) in
            rw (get_or-append xs (d ∷ []) (0, 0) p k) (source-on keep lefts rights m (get_or xs p (0, 0)) (ih k))
