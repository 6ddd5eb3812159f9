-- Which steps of a column one step rests on.
--     kept               whether a number is marked
--     noted              one number marked, where it is not past a limit
--     mark_one, marked    what a marked step cites is marked; from the last step to the first
--     marked_for          the marks of one step and of all that it rests on
-- Assumes nothing.
use Rattle.std.specs.Prelude.{Bool, true, false, not, List, ℕ, zero, suc, ◌+◌, ◌*◌, eqb, ltb, leb, get_or, set, replicate}
use Rattle.grounds_laws.specs.Limits.{draft_size}
use Rattle.grounds_laws.specs.Draft.{count_in}

unfoldable pub kept : List ℕ → ℕ → Bool
kept marks i = not (eqb (get_or marks i 0) 0)

unfoldable pub noted : ℕ → ℕ → List ℕ → List ℕ
noted limit r marks = elim (leb r limit) [ true ↦ set marks r 1 | false ↦ marks ]

abbrev pub noted_four : ℕ → List ℕ → ℕ → List ℕ → List ℕ
noted_four limit l p marks =
    noted limit (get_or l (p + 3) 0) (noted limit (get_or l (p + 2) 0) (noted limit (get_or l (p + 1) 0) (noted limit (get_or l p 0) marks)))

-- step i, counted from 0: it cites numbers up to i; kinds 1 and 2 cite no step
unfoldable pub mark_one : List ℕ → ℕ → List ℕ → List ℕ
mark_one cells i marks =
    elim (kept marks (i + 1)) [
      | true ↦ elim (ltb 2 (get_or cells (i * draft_size + 1) 0)) [ true ↦ noted_four i cells (i * draft_size + 4) marks | false ↦ marks ]
      | false ↦ marks
    ]

unfoldable pub marked : List ℕ → ℕ → List ℕ → List ℕ
marked cells zero marks = marks
marked cells (suc n) marks = marked cells n (mark_one cells n marks)

unfoldable pub marked_for : List ℕ → ℕ → List ℕ
marked_for cells s = marked cells (count_in cells) (noted (count_in cells) s (replicate (count_in cells + 1) 0))
