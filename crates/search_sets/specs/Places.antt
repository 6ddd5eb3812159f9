-- Where the sets of a search stand in one run of words: a set for each pattern row, a set for each of four variables, and two words of flags.
--     classes_at, candidates_at    where the words of a pattern row begin, and those of a variable
--     known_at, outside_at         the word whose bit p says that row p's words count, and the one that says that row p may lie outside
--     possible_in                 what the run says is possible
--     Room                       the run holds all of that, for at most 64 pattern rows and 16 words a set
--     RowIn, PairIn              a pattern row that there is; two of them
--     KnownPair                  two pattern rows whose words count
--     VariableIn                 a pattern row and a variable
-- Assumes nothing.
use Rattle.std.specs.Prelude.{true, List, ◌≡◌, ℕ, ◌+◌, ◌*◌, ◌≤◌, ◌<◌, length, get_or, drop}
use Rattle.runs.specs.Limits.{most_patterns, most_variables}
use Rattle.bits.specs.Sets.{bit_at}
use Rattle.matching.specs.Possible.{Possible}
use Rattle.matching.specs.InWords.{possible_of}

abbrev pub classes_at : ℕ → ℕ → ℕ
classes_at width p = p * width

abbrev pub candidates_at : ℕ → ℕ → ℕ → ℕ
candidates_at count width v = (count + v) * width

abbrev pub known_at : ℕ → ℕ → ℕ
known_at count width = (count + most_variables) * width

abbrev pub outside_at : ℕ → ℕ → ℕ
outside_at count width = known_at count width + 1

unfoldable pub possible_in : ℕ → ℕ → List ℕ → Possible
possible_in count width sets =
    possible_of width sets (get_or sets (known_at count width) 0) (get_or sets (outside_at count width) 0) (drop (candidates_at count width 0) sets)

abbrev pub most_words : ℕ
most_words = 16

pub record Room (size count width : ℕ) : Type 0 where
  pub few : count ≤ most_patterns
  pub narrow : width ≤ most_words
  pub long : outside_at count width < size

pub record RowIn (size count width p : ℕ) : Type 0 where
  pub room : Room size count width
  pub row : p < count

pub record PairIn (size count width p q : ℕ) : Type 0 where
  pub room : Room size count width
  pub left : p < count
  pub right : q < count

pub record VariableIn (size count width p v : ℕ) : Type 0 where
  pub room : Room size count width
  pub row : p < count
  pub variable : v < most_variables

pub record KnownPair (sets : List ℕ) (count width p q : ℕ) : Type 0 where
  pub pair : PairIn (length sets) count width p q
  pub other : p ≡ q → ⊥
  pub known-left : bit_at (get_or sets (known_at count width) 0) p ≡ true
  pub known-right : bit_at (get_or sets (known_at count width) 0) q ≡ true
