-- The stated equations and differences of a run.
--     pairs_from                       the pairs of the statements that are chosen
--     equations-are, differences-are  the equations and the differences are such pairs
--     pairs-place, pairs-from         a chosen statement is one of the pairs, and each pair is a chosen statement's
-- Assumes nothing.
use mathlib.Core.Bool.{Bool, true, false, not}
use mathlib.Core.List.{List, [], ◌∷◌, ◌++◌, append-nil}
use mathlib.Core.Path.{◌≡◌, refl, ap, ap₂, sym, ◌∙◌, subst}
use Prim.Native.Nat.{ℕ, zero, suc, ◌<◌}
use native.Mathlib.Omega.{arith}
use lib.Dec.{eqb}
use lib.ListN.{length, get_or, length-append, get_or-append}
use lib.Seq.{get_or-append_seam}
use borrow.Author.Tests.{eqb-true, eqb-false}
use Rattle.meaning.specs.Context.{Statement, same, differ, equations_of, differences_of}
use Rattle.meaning.specs.Columns.{statement_of}
use Rattle.meaning.proofs.Lists.{length-snoc}
use Rattle.runs.specs.Runs.{each, said_count, kind_in, left_in, right_in, statement_in, statements_of}

abbrev pub pair_at : List ℕ → ℕ → ℕ × ℕ
pair_at said k = (left_in said k, right_in said k)

abbrev pub kept : Bool → ℕ × ℕ → List (ℕ × ℕ)
kept true p = p ∷ []
kept false p = []

unfoldable pub pairs_from : (ℕ → Bool) → List ℕ → ℕ → List (ℕ × ℕ)
pairs_from keep said zero = []
pairs_from keep said (suc m) = pairs_from keep said m ++ kept (keep m) (pair_at said m)

abbrev pub is_equation : List ℕ → ℕ → Bool
is_equation said k = eqb (kind_in said k) 2

abbrev pub is_difference : List ℕ → ℕ → Bool
is_difference said k = not (eqb (kind_in said k) 2)

equations-append : (a b : List Statement) → equations_of (a ++ b) ≡ equations_of a ++ equations_of b
unfolding equations_of
equations-append [] b = refl
equations-append (same p q ∷ a) b = ap ((p, q) ∷◌) (equations-append a b)
equations-append (differ p q ∷ a) b = equations-append a b

differences-append : (a b : List Statement) → differences_of (a ++ b) ≡ differences_of a ++ differences_of b
unfolding differences_of
differences-append [] b = refl
differences-append (same p q ∷ a) b = differences-append a b
differences-append (differ p q ∷ a) b = ap ((p, q) ∷◌) (differences-append a b)

equations-each : (said : List ℕ) (m : ℕ) → equations_of (each (statement_in said) m) ≡ pairs_from (is_equation said) said m
unfolding each pairs_from statement_of equations_of
equations-each said zero = refl
equations-each said (suc m) = equations-append (each (statement_in said) m) _ ∙ ap₂ ◌++◌ (equations-each said m) (go (eqb (kind_in said m) 2) refl)
  where
    go : (b : Bool) → eqb (kind_in said m) 2 ≡ b → equations_of (statement_in said m ∷ []) ≡ kept (is_equation said m) (pair_at said m)
    go true e = rw (e, statement_of)
    go false e = rw (e, statement_of)

pub equations-are : (said : List ℕ) → equations_of (statements_of said) ≡ pairs_from (is_equation said) said (said_count said)
unfolding statements_of
equations-are said = equations-each said (said_count said)

differences-each : (said : List ℕ) (m : ℕ) → differences_of (each (statement_in said) m) ≡ pairs_from (is_difference said) said m
unfolding each pairs_from statement_of differences_of
differences-each said zero = refl
differences-each said (suc m) = differences-append (each (statement_in said) m) _ ∙ ap₂ ◌++◌ (differences-each said m) (go (eqb (kind_in said m) 2) refl)
  where
    go : (b : Bool) → eqb (kind_in said m) 2 ≡ b → differences_of (statement_in said m ∷ []) ≡ kept (is_difference said m) (pair_at said m)
    go true e = rw (e, statement_of)
    go false e = rw (e, statement_of)

pub differences-are : (said : List ℕ) → differences_of (statements_of said) ≡ pairs_from (is_difference said) said (said_count said)
unfolding statements_of
differences-are said = differences-each said (said_count said)

-- ---- places

abbrev Place : (ℕ → Bool) → List ℕ → ℕ → ℕ → Type 0
Place keep said m k = (p : ℕ) × (p < length (pairs_from keep said m)) × (get_or (pairs_from keep said m) p (0, 0) ≡ pair_at said k)

place-on : (keep : ℕ → Bool) (said : List ℕ) (m k : ℕ) → Place keep said m k → Place keep said (suc m) k
unfolding pairs_from
place-on keep said m k (p, h, e) =
    let xs : List (ℕ × ℕ) = pairs_from keep said m in
    let ys : List (ℕ × ℕ) = kept (keep m) (pair_at said m) in
    (p, omega (arith, length-append xs ys), get_or-append xs ys (0, 0) p h ∙ e)

place-new : (keep : ℕ → Bool) (said : List ℕ) (m : ℕ) → keep m ≡ true → Place keep said (suc m) m
unfolding pairs_from
place-new keep said m e =
    let xs : List (ℕ × ℕ) = pairs_from keep said m in
    rw e
    (length xs, omega (arith, length-snoc xs (pair_at said m)), get_or-append_seam xs (pair_at said m) [] (0, 0))

pub pairs-place : (keep : ℕ → Bool) (said : List ℕ) (m k : ℕ) → k < m → keep k ≡ true → Place keep said m k
pairs-place keep said zero k h e = absurd (omega arith)
pairs-place keep said (suc m) k h e = go (eqb k m) refl (pairs-place keep said m k)
  where
    go : (b : Bool) → eqb k m ≡ b → (k < m → keep k ≡ true → Place keep said m k) → Place keep said (suc m) k
    go true q ih = subst (λ (x : ℕ). Place keep said (suc m) x) (sym (eqb-true k m q)) (place-new keep said m (ap keep (sym (eqb-true k m q)) ∙ e))
    go false q ih = place-on keep said m k (ih (omega (arith, eqb-false k m q)) e)

-- the statement of the p-th pair
abbrev Source : (ℕ → Bool) → List ℕ → ℕ → ℕ × ℕ → Type 0
Source keep said m d = (k : ℕ) × (k < m) × (keep k ≡ true) × (d ≡ pair_at said k)

source-on : (keep : ℕ → Bool) (said : List ℕ) (m : ℕ) (d : ℕ × ℕ) → Source keep said m d → Source keep said (suc m) d
source-on keep said m d (k, h, e, q) = (k, omega arith, e, q)

pub pairs-from : (keep : ℕ → Bool) (said : List ℕ) (m p : ℕ) → p < length (pairs_from keep said m)
    → Source keep said m (get_or (pairs_from keep said m) p (0, 0))
unfolding pairs_from
pairs-from keep said zero p h = absurd (omega arith)
pairs-from keep said (suc m) p h = go (keep m) refl (pairs-from keep said m p)
  where
    xs : List (ℕ × ℕ)
    xs = pairs_from keep said m

    d : ℕ × ℕ
    d = pair_at said m

    go : (b : Bool) → keep m ≡ b → (p < length xs → Source keep said m (get_or xs p (0, 0)))
        → Source keep said (suc m) (get_or (pairs_from keep said (suc m)) p (0, 0))
    go false e ih = rw (e, pairs_from, append-nil xs) (source-on keep said m (get_or xs p (0, 0)) (ih (omega (arith, ap (λ (b : Bool). length (xs ++ kept b d)) e, length-append xs []))))
    go true e ih = rw (e, pairs_from) (last (eqb p (length xs)) refl)
      where
        last : (b : Bool) → eqb p (length xs) ≡ b → Source keep said (suc m) (get_or (xs ++ (d ∷ [])) p (0, 0))
        last true q = (m, omega arith, e, rw (eqb-true p (length xs) q) (get_or-append_seam xs d [] (0, 0)))
        last false q =
            let k : p < length xs = omega (arith, ap (λ (b : Bool). length (xs ++ kept b d)) e, length-append xs (d ∷ []), eqb-false p (length xs) q) in
            rw (get_or-append xs (d ∷ []) (0, 0) p k) (source-on keep said m (get_or xs p (0, 0)) (ih k))
