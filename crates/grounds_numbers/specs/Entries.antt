-- The entries of a context and a rule that are lent as runs, with their keys and numbers.
--     entries_of, entry_count    the context's rows, and then the rule's pattern rows under an assignment; how many there are
--     key_for                   the key of entry e, by the numbers of its arguments
--     Fillable                 what is asked of them: well-formed, and a context row for each variable
--     Room                     six places for each entry's key, and one for its number
--     Filled                   the first so many entries have their keys and faithful numbers
-- Assumes nothing.
use Rattle.std.specs.Prelude.{List, ◌≡◌, ℕ, ◌+◌, ◌*◌, ◌≤◌, ◌<◌, length, get_or}
use Rattle.meaning.specs.Context.{Row, row_at}
use Rattle.meaning.specs.Formed.{Ordered, AllPlaced}
use Rattle.meaning.specs.Rules.{variables}
use Rattle.meaning.specs.Grounds.{Each}
use Rattle.meaning.specs.Checking.{entries, key_of, Faithful}
use Rattle.runs.specs.Limits.{most_variables, row_size, arg_places}
use Rattle.runs.specs.Runs.{row_count, count_in, rows_of, pattern_count, pattern_kind_in, pattern_count_in, patterns_of}
use Rattle.grounds_numbers.specs.Limits.{most_numbers}
use Rattle.grounds_numbers.specs.Keys.{KeyAt}

abbrev pub entries_of : List ℕ → List ℕ → List ℕ → List Row
entries_of rows a patterns = entries (rows_of rows) a (patterns_of patterns)

abbrev pub entry_count : List ℕ → List ℕ → ℕ
entry_count rows patterns = row_count rows + pattern_count patterns

-- the key that entry e is to have
abbrev pub key_for : List ℕ → List ℕ → List ℕ → List ℕ → ℕ → Row
key_for rows a patterns ns e = key_of ns (row_at (entries_of rows a patterns) e)

pub record Fillable (rows patterns a : List ℕ) : Type 0 where
  pub few : entry_count rows patterns ≤ most_numbers
  pub four : length a ≡ most_variables
  pub rows_few : (i : ℕ) → i < row_count rows → count_in rows i ≤ arg_places
  pub patterns-few : (i : ℕ) → i < pattern_count patterns → (pattern_kind_in patterns i ≡ 4 → ⊥) → pattern_count_in patterns i ≤ arg_places
  pub ordered : Ordered (rows_of rows)
  pub placed : AllPlaced 0 (patterns_of patterns)
  pub chosen : Each (variables (patterns_of patterns)) (λ v. (v < length a) × (get_or a v 0 < row_count rows))

pub record Room (rows patterns keys numbers : List ℕ) : Type 0 where
  pub keys-long : length keys ≡ entry_count rows patterns * row_size
  pub numbers-long : length numbers ≡ entry_count rows patterns

pub record Filled (all : List Row) (keys numbers : List ℕ) (e : ℕ) : Type 0 where
  pub keys-long : length keys ≡ length all * row_size
  pub numbers-long : length numbers ≡ length all
  pub keyed : (i : ℕ) → i < e → KeyAt keys i (key_of numbers (row_at all i))
  pub faithful : Faithful all numbers e
