-- What runs say, tried at small ones.
--     some-context      a, f(a) and f(a, f(a)), with row 1 stated equal to row 0 and different from row 2
--     some-clause       the variable 0 and f over it, stated unequal; an equal literal
--     some-left-over    numbers that are no whole piece say nothing
--     no-overrun        a row that counts nine arguments has its own four, and none of the next row's numbers
-- Assumes nothing.
use mathlib.Core.List.{List, [], ◌∷◌}
use mathlib.Core.Path.{◌≡◌, refl}
use Prim.Native.Nat.{ℕ}
use Rattle.meaning.specs.Context.{same, differ}
use Rattle.meaning.specs.Rules.{variable, apply, equal, unequal}
use Rattle.meaning.specs.Columns.{statement_of, pattern_of, literal_of}
use Rattle.runs.specs.Runs.{each, rows_of, statements_of, context_of, patterns_of, literals_of, clause_of}

abbrev rows : List ℕ
rows = 0 ∷ 0 ∷ 255 ∷ 255 ∷ 255 ∷ 255 ∷ 1 ∷ 1 ∷ 0 ∷ 255 ∷ 255 ∷ 255 ∷ 1 ∷ 2 ∷ 0 ∷ 1 ∷ 255 ∷ 255 ∷ []

pub some-context : context_of rows (2 ∷ 1 ∷ 0 ∷ 3 ∷ 1 ∷ 2 ∷ [])
    ≡ record {
      rows = record { symbol = 0; args = [] } ∷ record { symbol = 1; args = 0 ∷ [] } ∷ record { symbol = 1; args = 0 ∷ 1 ∷ [] } ∷ [];
      statements = same 1 0 ∷ differ 1 2 ∷ [];
    }
unfolding rows_of statements_of statement_of each
some-context = refl

pub some-clause : clause_of (4 ∷ 0 ∷ 0 ∷ 255 ∷ 255 ∷ 255 ∷ 255 ∷ 5 ∷ 1 ∷ 1 ∷ 0 ∷ 255 ∷ 255 ∷ 255 ∷ []) (7 ∷ 0 ∷ 1 ∷ 6 ∷ 1 ∷ 1 ∷ [])
    ≡ record { patterns = variable 0 ∷ apply 1 (0 ∷ []) ∷ []; literals = unequal 0 1 ∷ equal 1 1 ∷ [] }
unfolding patterns_of literals_of pattern_of literal_of each
some-clause = refl

pub some-left-over : context_of (0 ∷ 0 ∷ 255 ∷ 255 ∷ 255 ∷ []) (2 ∷ 0 ∷ []) ≡ record { rows = []; statements = [] }
unfolding rows_of statements_of each
some-left-over = refl

pub no-overrun : rows_of (8 ∷ 9 ∷ 1 ∷ 2 ∷ 3 ∷ 4 ∷ rows) ≡ record { symbol = 8; args = 1 ∷ 2 ∷ 3 ∷ 4 ∷ [] } ∷ rows_of rows
unfolding rows_of each
no-overrun = refl
