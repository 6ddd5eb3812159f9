-- A conclusion for a literal, by closed classes and for itself alone.
--     parted, place_same   whether a stated difference has two labels; the first that has one
--     Found               that is the place
--     Said                steps, and the two numbers of a conclusion
--     said_equal, said_same two entries with one label; the first stated difference with one
--     furthered           the equation of two entries is added, and the classes closed again
--     said, said_by        for a literal; by its kind and its two entries
--     resumed             closed classes again, in a column that begins with their steps
--     owner_of             whose steps a literal's own are
-- Assumes nothing.
use Rattle.std.specs.Prelude.{Bool, true, false, not, List, ◌≡◌, ℕ, suc, ◌+◌, ◌≤◌, eqb, length, set}
use Rattle.meaning.specs.Context.{Row, left_at, right_at}
use Rattle.meaning.specs.Rules.{Literal, equal, unequal}
use Rattle.meaning.specs.Values.{number_at}
use Rattle.meaning.specs.Checking.{first_false}
use Rattle.grounds_steps.specs.Steps.{most_each}
use Rattle.grounds_laws.specs.Draft.{count_in, Written}
use Rattle.grounds_laws.specs.Classes.{State, state_of, same}
use Rattle.grounds_laws.specs.Rounds.{one_label, added_pair, rounds}

unfoldable pub parted : List ℕ → List (ℕ × ℕ) → ℕ → Bool
parted table diffs i = not (one_label table (left_at diffs i) (right_at diffs i))

unfoldable pub place_same : List ℕ → List (ℕ × ℕ) → ℕ
place_same table diffs = first_false (parted table diffs) 0 (length diffs)

-- i is that place
pub record Found (table : List ℕ) (diffs : List (ℕ × ℕ)) (i : ℕ) : Type 0 where
  pub place : i ≡ place_same table diffs
  pub most : i ≤ length diffs

pub record Said : Type 0 where
  pub cells : List ℕ
  pub first : ℕ
  pub difference : ℕ

unfoldable pub said_equal : List ℕ → List ℕ → ℕ → ℕ → Said
said_equal cells table x y =
    let w : Written = same cells table x y in record { cells = w.cells; first = w.number; difference = 0 }

-- its sides, in the stated order
unfoldable pub said_same : List ℕ → List ℕ → List (ℕ × ℕ) → Said
said_same cells table diffs =
    let i : ℕ = place_same table diffs in
    let w : Written = same cells table (left_at diffs i) (right_at diffs i) in
    record { cells = w.cells; first = w.number; difference = i + 1 }

-- of n entries, by the keys of all
unfoldable pub furthered : ℕ → List Row → ℕ → ℕ → State → State
furthered n ks x y state = rounds n ks most_each (added_pair n x y state)

unfoldable pub said_differ : ℕ → List Row → List (ℕ × ℕ) → ℕ → ℕ → State → Said
said_differ n ks diffs x y state = let after : State = furthered n ks x y state in said_same after.cells after.table diffs

unfoldable pub said_by : ℕ → List Row → List (ℕ × ℕ) → ℕ → ℕ → ℕ → State → Said
said_by n ks diffs kind x y state =
    elim (eqb kind 6) [ true ↦ said_equal state.cells state.table x y | false ↦ said_differ n ks diffs x y state ]

unfoldable pub said : ℕ → List Row → List ℕ → ℕ → List (ℕ × ℕ) → Literal → State → Said
said n ks ns rows diffs (equal p q) state = said_equal state.cells state.table (number_at ns (rows + p)) (number_at ns (rows + q))
said n ks ns rows diffs (unequal p q) state = said_differ n ks diffs (number_at ns (rows + p)) (number_at ns (rows + q)) state

-- what stands behind the steps in the column means nothing
unfoldable pub resumed : State → List ℕ → State
resumed closed cells = state_of (set cells 0 (count_in closed.cells)) closed.table

-- of literal j, counted from 0
unfoldable pub owner_of : ℕ → Literal → ℕ
owner_of j (equal p q) = 0
owner_of j (unequal p q) = suc j
