-- The look-up of a row by its symbol and the classes of its arguments.
--     Ascends             keys that rise from place to place
--     FirstFrom           the first place whose key is not below a number
--     RowFit              a well-formed row, whose arguments have places in a table
--     LedgerFit           well-formed rows that are sorted, with a class for each
--     Looked              what the look-up finds
-- Assumes nothing.
use Rattle.std.specs.Prelude.{Option, List, ◌≡◌, ℕ, ◌≤◌, ◌<◌, length, get_or}
use Rattle.std.specs.Option.{unwrap_or}
use Rattle.meaning.specs.Context.{Row}
use Rattle.meaning.specs.Values.{held}
use Rattle.runs.specs.Runs.{row_count}
use Rattle.runs.specs.Fit.{Every, RowAt}
use Rattle.search_values.specs.Index.{Indexed}

pub record Ascends (keys : List ℕ) : Type 0 where
  pub rises : (i j : ℕ) → i < j → j < length keys → get_or keys i 0 < get_or keys j 0

pub record FirstFrom (keys : List ℕ) (sought p : ℕ) : Type 0 where
  pub within : p ≤ length keys
  pub below : (i : ℕ) → i < p → get_or keys i 0 < sought
  pub above : (i : ℕ) → p ≤ i → i < length keys → sought ≤ get_or keys i 0

pub record RowFit (rows : List ℕ) (places i : ℕ) : Type 0 where
  pub inside : i < row_count rows
  pub known : i ≤ places
  pub placed : RowAt rows i

pub record LedgerFit (rows table keys : List ℕ) : Type 0 where
  pub placed : Every (row_count rows) (RowAt rows)
  pub tabled : row_count rows ≤ length table
  pub indexed : Indexed rows keys

-- what the look-up finds is the class of the row, whatever it would be without one
pub record Looked (rep : ℕ → ℕ) (f : ℕ) (ns : List ℕ) (rows : List Row) (r : Option ℕ) : Type 0 where
  pub so : (d : ℕ) → unwrap_or r d ≡ held rep f ns d 0 rows
