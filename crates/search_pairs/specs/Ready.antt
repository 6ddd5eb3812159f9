-- What is known of the classes of a context, and lent to the test of two rows.
--     arg_of, arg_count        a row's arguments
--     Over, Beside, Live     the rows over a class, the classes beside it, and those from which a side of a difference is reached; more may be said
--     words_for, most_words    how many words a set of rows has, and how many it may have
--     over_at .. live_at       the sets, one behind the other in a run
--     Prepared               a context's sets by a table
--     Ready                  a table that is closed for a consistent context, with its sets
-- Assumes nothing.
use Rattle.std.specs.Prelude.{Bool, true, List, ◌≡◌, ℕ, ◌+◌, ◌*◌, ◌/◌, ◌<◌, length, get_or}
use Rattle.meaning.specs.Context.{Row, row_at, differences, left_at, right_at}
use Rattle.meaning.specs.Equality.{Consistent, Representatives, rep_at}
use Rattle.meaning.specs.Formed.{Fit}
use Rattle.meaning.specs.ByTable.{apart_by}
use Rattle.runs.specs.Runs.{row_count, rows_of, context_of}
use Rattle.bits.specs.Sets.{has}

-- argument k of row r, and how many it has
abbrev pub arg_of : List Row → ℕ → ℕ → ℕ
arg_of rows r k = get_or (row_at rows r).args k 0

abbrev pub arg_count : List Row → ℕ → ℕ
arg_count rows r = length (row_at rows r).args

-- each row is over the class of each of its arguments
pub record Over (rows : List Row) (rep : ℕ → ℕ) (over : ℕ → ℕ → Bool) : Type 0 where
  pub each : (r k : ℕ) → r < length rows → k < arg_count rows r → over (rep (arg_of rows r k)) r ≡ true

-- classes at one place of two rows of one symbol and count are beside each other
pub record Beside (rows : List Row) (rep : ℕ → ℕ) (beside : ℕ → ℕ → Bool) : Type 0 where
  pub each : (r s k : ℕ) → r < length rows → s < length rows → (row_at rows r).symbol ≡ (row_at rows s).symbol → arg_count rows r ≡ arg_count rows s
      → k < arg_count rows r → beside (rep (arg_of rows r k)) (rep (arg_of rows s k)) ≡ true

-- a side of a stated difference is live, and with a row's class the classes of its arguments
pub record Live (rows : List Row) (pairs : List (ℕ × ℕ)) (rep : ℕ → ℕ) (live : ℕ → Bool) : Type 0 where
  pub left : (k : ℕ) → k < length pairs → live (rep (left_at pairs k)) ≡ true
  pub right : (k : ℕ) → k < length pairs → live (rep (right_at pairs k)) ≡ true
  pub under : (r k : ℕ) → r < length rows → k < arg_count rows r → live (rep r) ≡ true → live (rep (arg_of rows r k)) ≡ true

-- ---- the sets in words, for n rows

abbrev pub words_for : ℕ → ℕ
words_for n = (n + 63) / 64

abbrev pub most_words : ℕ
most_words = 16

abbrev pub over_at : ℕ → List ℕ → ℕ → ℕ → Bool
over_at n sets a r = has sets (a * words_for n) r

abbrev pub beside_at : ℕ → List ℕ → ℕ → ℕ → Bool
beside_at n sets a b = has sets ((n + a) * words_for n) b

abbrev pub apart_at : ℕ → List ℕ → ℕ → ℕ → Bool
apart_at n sets a b = has sets ((n + n + a) * words_for n) b

abbrev pub live_at : ℕ → List ℕ → ℕ → Bool
live_at n sets a = has sets ((n + n + n) * words_for n) a

-- the sets of a context's table, whether it is closed or not; which classes are kept apart is told exactly
pub record Prepared (rows said table sets : List ℕ) : Type 0 where
  pub over : Over (rows_of rows) (rep_at table) (over_at (row_count rows) sets)
  pub beside : Beside (rows_of rows) (rep_at table) (beside_at (row_count rows) sets)
  pub live : Live (rows_of rows) (differences (context_of rows said)) (rep_at table) (live_at (row_count rows) sets)
  pub apart : (a b : ℕ) → a < row_count rows → b < row_count rows → apart_at (row_count rows) sets a b ≡ apart_by (rep_at table) (differences (context_of rows said)) a b

pub record Ready (rows said table sets : List ℕ) : Type 0 where
  pub fit : Fit (context_of rows said)
  pub free : Consistent (context_of rows said)
  pub classes : Representatives (context_of rows said) (rep_at table)
  pub prepared : Prepared rows said table sets
