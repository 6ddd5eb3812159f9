-- Steps on the way, in one column of numbers, and how one step is made of others.
--     count_in           place 0 is how many there are
--     cell_in, step_in    place j, 1 to 7, of step i: kind, left entry, right entry, four numbers; and the step
--     owner_at           the first steps are shared, and the others one owner's
--     draft             the steps that a column holds
--     Written           a column, and the number of one of its steps
--     Wrote             what a function has left
--     room_in, pushed    whether there is room for one step more; the step
--     turned, linked    y = x by x = y; x = y by x = m and m = y: a step at hand where two of the entries are one, and else a new one
-- Entries are the context's rows and then the pattern rows. Assumes nothing.
use Rattle.std.specs.Prelude.{Bool, true, false, ◌&&◌, List, [], ◌∷◌, ◌++◌, ◌≡◌, ℕ, zero, suc, ◌+◌, ◌-◌, ◌*◌, eqb, ltb, length, get_or, set}
use Rattle.meaning.specs.Grounds.{Ref, Step}
use Rattle.grounds_numbers.specs.Limits.{most_numbers}
use Rattle.grounds_laws.specs.Limits.{draft_size}

-- of so many context rows
unfoldable pub ref_of : ℕ → ℕ → Ref
ref_of rows x = elim (ltb x rows) [ true ↦ record { mark = 0; row = x } | false ↦ record { mark = 1; row = x - rows } ]

unfoldable pub step_of : ℕ → ℕ → ℕ → ℕ → ℕ → List ℕ → Step
step_of rows owner kind x y ns = record { owner = owner; kind = kind; left = ref_of rows x; right = ref_of rows y; numbers = ns }

abbrev pub count_in : List ℕ → ℕ
count_in cells = get_or cells 0 0

abbrev pub cell_in : List ℕ → ℕ → ℕ → ℕ
cell_in cells i j = get_or cells (i * draft_size + j) 0

-- of step i, where the first `from` steps are shared
unfoldable pub owner_at : ℕ → ℕ → ℕ → ℕ
owner_at from owner i = elim (ltb i from) [ true ↦ 0 | false ↦ owner ]

unfoldable pub step_in : ℕ → ℕ → ℕ → List ℕ → ℕ → Step
step_in rows from owner cells i =
    step_of rows (owner_at from owner i) (cell_in cells i 1) (cell_in cells i 2) (cell_in cells i 3)
    (cell_in cells i 4 ∷ cell_in cells i 5 ∷ cell_in cells i 6 ∷ cell_in cells i 7 ∷ [])

-- the first n
unfoldable pub draft_to : ℕ → ℕ → ℕ → List ℕ → ℕ → List Step
draft_to rows from owner cells zero = []
draft_to rows from owner cells (suc n) = draft_to rows from owner cells n ++ (step_in rows from owner cells n ∷ [])

unfoldable pub draft : ℕ → ℕ → ℕ → List ℕ → List Step
draft rows from owner cells = draft_to rows from owner cells (count_in cells)

pub record Written : Type 0 where
  pub cells : List ℕ
  pub number : ℕ

-- a column and a number are those
pub record Wrote (cells : List ℕ) (number : ℕ) (w : Written) : Type 0 where
  pub column : cells ≡ w.cells
  pub step : number ≡ w.number

abbrev pub laid : List ℕ → ℕ → ℕ → ℕ → ℕ → ℕ → ℕ → ℕ → ℕ → List ℕ
laid l p kind x y a b c d = set (set (set (set (set (set (set l (p + 1) kind) (p + 2) x) (p + 3) y) (p + 4) a) (p + 5) b) (p + 6) c) (p + 7) d

-- for one step more, in the column and among the numbers of 16 bits
unfoldable pub room_in : List ℕ → Bool
room_in cells = ltb (count_in cells + 1) most_numbers && ltb (count_in cells * draft_size + draft_size) (length cells)

-- number 0 where there is no room
unfoldable pub pushed : List ℕ → ℕ → ℕ → ℕ → ℕ → ℕ → ℕ → ℕ → Written
pushed cells kind x y a b c d =
    elim (room_in cells) [
      | true ↦ record { cells = set (laid cells (count_in cells * draft_size) kind x y a b c d) 0 (count_in cells + 1); number = count_in cells + 1 }
      | false ↦ record { cells = cells; number = 0 }
    ]

-- step s is x = y
unfoldable pub turned : List ℕ → ℕ → ℕ → ℕ → Written
turned cells s x y = elim (eqb x y) [ true ↦ record { cells = cells; number = s } | false ↦ pushed cells 3 y x s 0 0 0 ]

-- step s is x = m, and step t is m = y
unfoldable pub linked : List ℕ → ℕ → ℕ → ℕ → ℕ → ℕ → Written
linked cells s t x m y =
    elim (eqb x m) [
      | true ↦ record { cells = cells; number = t }
      | false ↦ elim (eqb m y) [ true ↦ record { cells = cells; number = s } | false ↦ pushed cells 4 x y s t 0 0 ]
    ]
