-- The context that records and statements say.
--     no_row        the row that stands past the end
--     row_of        what a record says: arguments from the count on are not read
--     context_of    and a run of them, beside statements
--     FitRows      a well-formed one, within the limits
-- Assumes nothing.
use Rattle.std.specs.Prelude.{List, [], ◌∷◌, map, ℕ, ◌≤◌, ◌<◌, length, get_or, take}
use Rattle.meaning.specs.Context as M
use Rattle.meaning.specs.Context.{Context}
use Rattle.meaning.specs.Columns.{statements_from}
use Rattle.meaning.specs.Formed.{Fit}
use Rattle.runs.specs.Limits.{most_rows, most_statements, arg_places}
use Rattle.records.specs.declared.Row.{Row}
use Rattle.records.specs.declared.Statements.{Statements}

abbrev pub no_row : Row
no_row = record { symbol = 0; count = 0; args = 0 ∷ 0 ∷ 0 ∷ 0 ∷ [] }

abbrev pub four_of : Row → List ℕ
four_of r = get_or r.args 0 0 ∷ get_or r.args 1 0 ∷ get_or r.args 2 0 ∷ get_or r.args 3 0 ∷ []

abbrev pub row_of : Row → M.Row
row_of r = record { symbol = r.symbol; args = take r.count (four_of r) }

unfoldable pub context_of : List Row → Statements → Context
context_of rows s = record { rows = map row_of rows; statements = statements_from s.kinds s.lefts s.rights s.count }

pub record FitRows (rows : List Row) (s : Statements) : Type 0 where
  pub rows_few : length rows ≤ most_rows
  pub statements-few : s.count ≤ most_statements
  pub counts-few : (i : ℕ) → i < length rows → (get_or rows i no_row).count ≤ arg_places
  pub fit : Fit (context_of rows s)
