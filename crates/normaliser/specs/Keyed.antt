-- Differences as single numbers.
--     key_base, pair_key            what a pair's first row counts; a pair as one number
--     stated_key, keys_to, keys_of   a statement's pair, between representatives and lower first; those of the first differences, and of all
--     Keyable                     each statement names rows that have a representative, and there is room for a key of each
--     note_of, Noted, Gathered     what a statement adds to some keys; the keys of all differences at the front of a space
--     KeysIn                      the same, ascending and without repeats
-- Assumes nothing.
use Rattle.std.specs.Prelude.{Bool, true, false, List, [], ◌∷◌, ◌++◌, map, ◌≡◌, ℕ, ◌+◌, ◌*◌, ◌≤◌, length, take}
use Rattle.meaning.specs.Context.{differences_of}
use Rattle.meaning.specs.Equality.{rep_at}
use Rattle.meaning.specs.Writing.{lower_first}
use Rattle.runs.specs.Runs.{each, said_count, left_in, right_in, statement_in}
use Rattle.runs.specs.Fit.{Every, NamedAt}
use Rattle.sorting.specs.Sorting.{Sorts}

abbrev pub key_base : ℕ
key_base = 65536

abbrev pub pair_key : ℕ × ℕ → ℕ
pair_key p = p.0 * key_base + p.1

abbrev pub stated_key : List ℕ → List ℕ → ℕ → ℕ
stated_key said table k = pair_key (lower_first (rep_at table) (left_in said k, right_in said k))

-- the keys of the differences among the first m statements
unfoldable pub keys_to : List ℕ → List ℕ → ℕ → List ℕ
keys_to said table m = map pair_key (map (lower_first (rep_at table)) (differences_of (each (statement_in said) m)))

abbrev pub keys_of : List ℕ → List ℕ → List ℕ
keys_of said table = keys_to said table (said_count said)

pub record Keyable (said table : List ℕ) (size : ℕ) : Type 0 where
  pub named : Every (said_count said) (NamedAt said (length table))
  pub room : said_count said ≤ size

-- what a statement of a kind adds
unfoldable pub note_of : Bool → ℕ → List ℕ
note_of equation key = elim equation [ true ↦ [] | false ↦ key ∷ [] ]

pub record Noted (given : List ℕ) (n : ℕ) (equation : Bool) (key : ℕ) (after : List ℕ) (m : ℕ) : Type 0 where
  pub made : take m after ≡ take n given ++ note_of equation key
  pub small : m ≤ n + 1

pub record Gathered (said table after : List ℕ) (n : ℕ) : Type 0 where
  pub made : take n after ≡ keys_of said table
  pub small : n ≤ said_count said

pub record KeysIn (said table after : List ℕ) (n : ℕ) : Type 0 where
  pub sorts : Sorts (keys_of said table) (take n after)
  pub small : n ≤ said_count said
