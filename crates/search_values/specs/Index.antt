-- The rows of a context sorted by symbol.
--     key_base, row_key, row_keys    what a symbol counts in a key; the key of a row; those of all rows, row by row
--     IndexFit                    no more rows than a key can tell apart, and a place for each in two spaces
--     Indexed                     the keys of the rows in rising order, one for each row
-- Assumes nothing.
use Rattle.std.specs.Prelude.{List, ◌≡◌, ℕ, ◌+◌, ◌*◌, ◌≤◌}
use Rattle.runs.specs.Runs.{each, row_count, symbol_in}
use Rattle.sorting.specs.Sorting.{Sorts}

abbrev pub key_base : ℕ
key_base = 65536

abbrev pub row_key : List ℕ → ℕ → ℕ
row_key rows i = symbol_in rows i * key_base + i

unfoldable pub row_keys : List ℕ → List ℕ
row_keys rows = each (row_key rows) (row_count rows)

pub record IndexFit (rows : List ℕ) (places spare : ℕ) : Type 0 where
  pub few : row_count rows ≤ key_base
  pub places-fit : places ≡ row_count rows
  pub spare-fits : places ≤ spare

pub record Indexed (rows keys : List ℕ) : Type 0 where
  pub few : row_count rows ≤ key_base
  pub sorts : Sorts (row_keys rows) keys
