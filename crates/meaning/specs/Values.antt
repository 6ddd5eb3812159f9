-- The values of pattern rows as numbers, by a table of representatives handed in, whatever the table is.
--     levels      how many variables, from the first on, each pattern row reaches: 0 for a ground row
--     stages      the rows of levels 0 to k read in the order (level, row)
--     numbers     the numbers of all pattern rows: a class below the offset, or from it on a term outside the table, by the row that was first to have it
-- Assumes nothing.
use Rattle.std.specs.Prelude.{Bool, true, false, ◌&&◌, List, [], ◌∷◌, ◌++◌, map, ℕ, zero, suc, ◌+◌, max, eqb, length, get_or, set, replicate}
use Rattle.meaning.specs.Context.{Row}
use Rattle.meaning.specs.Rules.{Pattern, variable, apply, variables}
use Rattle.meaning.specs.ByTable.{same_list}

-- ---- levels

unfoldable pub highest : List ℕ → List ℕ → ℕ
highest levels [] = 0
highest levels (a ∷ l) = max (get_or levels a 0) (highest levels l)

unfoldable pub level_of : List ℕ → Pattern → ℕ
level_of levels (variable v) = suc v
level_of levels (apply f l) = highest levels l

unfoldable pub levels_from : List ℕ → List Pattern → List ℕ
levels_from levels [] = levels
levels_from levels (p ∷ ps) = levels_from (levels ++ (level_of levels p ∷ [])) ps

unfoldable pub levels : List Pattern → List ℕ
levels ps = levels_from [] ps

-- the rows of level k, from row i on
unfoldable pub rows_at : ℕ → ℕ → List ℕ → List ℕ
rows_at k i [] = []
rows_at k i (x ∷ l) = let rest : List ℕ = rows_at k (suc i) l in elim (eqb x k) [ true ↦ i ∷ rest | false ↦ rest ]

-- ---- numbers

-- past the last pattern row
abbrev pub pattern₀ : Pattern
pattern₀ = variable 0

abbrev pub pattern_at : List Pattern → ℕ → Pattern
pattern_at ps r = get_or ps r pattern₀

abbrev pub number_at : List ℕ → ℕ → ℕ
number_at ns r = get_or ns r 0

abbrev pub args_of : List ℕ → List ℕ → List ℕ
args_of ns l = map (number_at ns) l

-- a place for each pattern row, and the rows that have been read, in their order
pub record Numbering : Type 0 where
  pub numbers : List ℕ
  pub done : List ℕ

-- the representative of the first context row, from row i on, that has a symbol over some representatives; else d
unfoldable pub held : (ℕ → ℕ) → ℕ → List ℕ → ℕ → ℕ → List Row → ℕ
held rep f ns d i [] = d
held rep f ns d i (r ∷ rs) = elim (eqb f r.symbol && same_list ns (map rep r.args)) [ true ↦ rep i | false ↦ held rep f ns d (suc i) rs ]

unfoldable pub is_over : ℕ → List ℕ → List ℕ → Pattern → Bool
is_over f args ns (variable v) = false
is_over f args ns (apply g l) = eqb f g && same_list args (args_of ns l)

-- the number of the first pattern row read that has a symbol over some numbers; else d
unfoldable pub met : List Pattern → ℕ → List ℕ → List ℕ → ℕ → List ℕ → ℕ
met ps f args ns d [] = d
met ps f args ns d (q ∷ qs) = elim (is_over f args ns (pattern_at ps q)) [ true ↦ number_at ns q | false ↦ met ps f args ns d qs ]

module _ (rows : List Row) (rep : ℕ → ℕ) (offset : ℕ) (ps : List Pattern) (given : List ℕ) where
  -- a variable's value is given; a symbol row looks among the context rows, then among the pattern rows read, and else has a number of its own
  unfoldable pub number_of : Numbering → ℕ → Pattern → ℕ
  number_of s own (variable v) = number_at given v
  number_of s own (apply f l) =
      let args : List ℕ = args_of s.numbers l in
      held rep f args (met ps f args s.numbers own s.done) 0 rows

  unfoldable pub step : Numbering → ℕ → Numbering
  step s r = record { numbers = set s.numbers r (number_of s (offset + r) (pattern_at ps r)); done = s.done ++ (r ∷ []) }

  unfoldable pub number : Numbering → List ℕ → Numbering
  number s [] = s
  number s (r ∷ rs) = number (step s r) rs

  abbrev pub unread : Numbering
  unread = record { numbers = replicate (length ps) 0; done = [] }

  abbrev pub stage : ℕ → Numbering → Numbering
  stage k s = number s (rows_at k 0 (levels ps))

  unfoldable pub stages : ℕ → Numbering
  stages zero = stage 0 unread
  stages (suc k) = stage (suc k) (stages k)

  unfoldable pub numbers : List ℕ
  numbers = (stages (variables ps)).numbers
