-- The closing of a table, as a function on lists: the list has each row's representative, and a round merges the rows of each stated equation and
-- each two rows that agree, till a round changes nothing.
--     Sofar                                 what holds of the representatives from the start to the end
--     move, unite, agree, unite_if, upto     one merge, and so many steps
--     stated_pass, rows_pass, round, rounds   a pass over the equations, one over the rows, both, and so often
--     count, total, close                   own numbers, the sum of the representatives, and the closing
-- Assumes nothing.
use Rattle.std.specs.Prelude.{Bool, true, false, ◌&&◌, List, [], ◌∷◌, map, ◌≡◌, ℕ, zero, suc, ◌+◌, ◌≤◌, ◌<◌, eqb, ltb, length}
use Rattle.meaning.specs.Context.{Row, row_at, term_at, left_at, right_at}
use Rattle.meaning.specs.Equality.{Equal, rep_at}
use Rattle.meaning.specs.ByTable.{same_list}

-- what holds of the representatives from the start to the end
pub record Sofar (rows : List Row) (eqs : List (ℕ × ℕ)) (rep : ℕ → ℕ) : Type 0 where
  pub low : (i : ℕ) → i < length rows → rep i ≤ i
  pub settled : (i : ℕ) → i < length rows → rep (rep i) ≡ rep i
  pub sound : (i : ℕ) → i < length rows → Equal rows eqs (term_at rows i) (term_at rows (rep i))

-- the representative `hi` gives way to `lo`
unfoldable pub move : ℕ → ℕ → ℕ → ℕ
move lo hi x = elim (eqb x hi) [ true ↦ lo | false ↦ x ]

unfoldable pub total : ℕ → (ℕ → ℕ) → ℕ
total zero rep = 0
total (suc n) rep = rep n + total n rep

-- the classes of rows i and j become one, under the lower representative
unfoldable pub unite : ℕ → ℕ → List ℕ → List ℕ
unite i j l =
    elim (ltb (rep_at l i) (rep_at l j)) [
      | true ↦ map (move (rep_at l i) (rep_at l j)) l
      | false ↦ map (move (rep_at l j) (rep_at l i)) l
    ]

-- two rows have one symbol, and arguments with the same representatives
unfoldable pub agree : List Row → List ℕ → ℕ → ℕ → Bool
agree rows l i j =
    eqb (row_at rows i).symbol (row_at rows j).symbol && same_list (map (rep_at l) (row_at rows i).args) (map (rep_at l) (row_at rows j).args)

unfoldable pub unite_if : List Row → ℕ → ℕ → List ℕ → List ℕ
unite_if rows i j l = elim (agree rows l i j) [ true ↦ unite i j l | false ↦ l ]

-- step 0, then step 1, and so on, n steps in all
unfoldable pub upto : ℕ → (ℕ → List ℕ → List ℕ) → List ℕ → List ℕ
upto zero step l = l
upto (suc n) step l = step n (upto n step l)

-- the rows of each stated equation
unfoldable pub stated_pass : List (ℕ × ℕ) → List ℕ → List ℕ
stated_pass eqs = upto (length eqs) (λ k. unite (left_at eqs k) (right_at eqs k))

-- row i, and each row before it that agrees with it
unfoldable pub row_pass : List Row → ℕ → List ℕ → List ℕ
row_pass rows i = upto i (unite_if rows i)

unfoldable pub rows_pass : List Row → List ℕ → List ℕ
rows_pass rows = upto (length rows) (row_pass rows)

unfoldable pub round : List Row → List (ℕ × ℕ) → List ℕ → List ℕ
round rows eqs l = rows_pass rows (stated_pass eqs l)

unfoldable pub rounds : List Row → List (ℕ × ℕ) → ℕ → List ℕ → List ℕ
rounds rows eqs zero l = l
rounds rows eqs (suc fuel) l =
    let next : List ℕ = round rows eqs l in
    elim (eqb (total (length rows) (rep_at next)) (total (length rows) (rep_at l))) [ true ↦ next | false ↦ rounds rows eqs fuel next ]

-- i, i + 1, and so on, n numbers
unfoldable pub count : ℕ → ℕ → List ℕ
count zero i = []
count (suc n) i = i ∷ count n (suc i)

unfoldable pub close : List Row → List (ℕ × ℕ) → List ℕ
close rows eqs =
    let start : List ℕ = count (length rows) 0 in
    rounds rows eqs (suc (total (length rows) (rep_at start))) start
