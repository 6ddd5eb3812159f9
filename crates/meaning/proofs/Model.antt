-- A table of representatives that is closed gives a model in which two ground terms have one value just where they are equal.
-- Assumes nothing.
use mathlib.Core.Bool.{Bool, true, false, ◌&&◌}
use mathlib.Core.List.{List, [], ◌∷◌, map}
use mathlib.Core.Path.{◌≡◌}
use Prim.Native.Nat.{ℕ, suc, ◌≤◌, ◌<◌}
use lib.Dec.{eqb}
use lib.ListN.{length}
use Rattle.meaning.specs.Context.{Row, left_at, right_at, row_at, term_at, stop, more, Term, node, Terms}
use Rattle.meaning.specs.Equality.{Equal}

-- what a table of representatives has to be
pub record Closed (rows : List Row) (eqs : List (ℕ × ℕ)) (rep : ℕ → ℕ) : Type 0 where
  pub low : (i : ℕ) → i < length rows → rep i ≤ i
  pub settled : (i : ℕ) → i < length rows → rep (rep i) ≡ rep i
  pub joined : (k : ℕ) → k < length eqs → rep (left_at eqs k) ≡ rep (right_at eqs k)
  pub alike : (i j : ℕ) → i < length rows → j < length rows → (row_at rows i).symbol ≡ (row_at rows j).symbol
      → map rep (row_at rows i).args ≡ map rep (row_at rows j).args → rep i ≡ rep j
  pub sound : (i : ℕ) → i < length rows → Equal rows eqs (term_at rows i) (term_at rows (rep i))

mutual
  pub data Val : Type 0 where
    at_row : ℕ → Val
    app : ℕ → Vals → Val
    deriving Discrete as Val-discrete

  pub data Vals : Type 0 where
    vstop : Vals
    vmore : Val → Vals → Vals
    deriving Discrete as Vals-discrete

-- the values at some representatives
unfoldable pub row_vals : List ℕ → Vals
row_vals [] = vstop
row_vals (a ∷ l) = vmore (at_row a) (row_vals l)

unfoldable pub is_row : Val → ℕ → Bool
is_row (at_row a) b = eqb a b
is_row (app f vs) b = false

unfoldable pub are_rows : Vals → List ℕ → Bool
are_rows vstop [] = true
are_rows vstop (a ∷ l) = false
are_rows (vmore v vs) [] = false
are_rows (vmore v vs) (a ∷ l) = is_row v a && are_rows vs l

-- the value of a symbol over values: the representative of the first row that has them, or an application outside the table
unfoldable pub settle : (ℕ → ℕ) → ℕ → Vals → ℕ → List Row → Val
settle rep f vs i [] = app f vs
settle rep f vs i (r ∷ rs) =
    elim (eqb f r.symbol && are_rows vs (map rep r.args)) [ true ↦ at_row (rep i) | false ↦ settle rep f vs (suc i) rs ]

unfoldable mutual
  pub eval : List Row → (ℕ → ℕ) → Term → Val
  eval rows rep (node f ts) = settle rep f (evals rows rep ts) 0 rows

  pub evals : List Row → (ℕ → ℕ) → Terms → Vals
  evals rows rep stop = vstop
  evals rows rep (more t ts) = vmore (eval rows rep t) (evals rows rep ts)

unfoldable mutual
  pub reify : List Row → Val → Term
  reify rows (at_row i) = term_at rows i
  reify rows (app f vs) = node f (reifys rows vs)

  pub reifys : List Row → Vals → Terms
  reifys rows vstop = stop
  reifys rows (vmore v vs) = more (reify rows v) (reifys rows vs)
