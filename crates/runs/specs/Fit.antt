-- Runs that say a well-formed context and a well-formed rule.
--     FitContext, FitClause         as a definition of `meaning` asks it, within limits; of a context the caller names them
--     Decides                       an answer that is true exactly when something holds
--     Every                         what holds of each number below a bound
--     PlacedAt                      the arguments at some places are at most four, and each is earlier
--     RowAt, NamedAt, PatternAt     one row, one statement or literal, and one pattern row is well-formed
-- Assumes nothing.
use Rattle.std.specs.Prelude.{Bool, true, List, ◌≡◌, ℕ, ◌+◌, ◌*◌, ◌≤◌, ◌<◌, get_or}
use Rattle.meaning.specs.Formed.{Fit, AllPlaced, NamesAll}
use Rattle.runs.specs.Limits.{most_patterns, most_literals, most_variables, row_size, pattern_size, arg_places}
use Rattle.runs.specs.Runs.{row_count, said_count, count_in, left_in, right_in, pattern_count, pattern_kind_in, head_in, pattern_count_in, literal_count, context_of, patterns_of, literals_of}

pub record Decides (r : Bool) (P : Type 0) : Type 0 where
  pub holds : r ≡ true → P
  pub sure : P → r ≡ true

pub record Every (n : ℕ) (P : ℕ → Type 0) : Type 0 where
  pub each : (i : ℕ) → i < n → P i

abbrev pub Earlier : List ℕ → ℕ → ℕ → ℕ → Type 0
Earlier run at i k = get_or run (at + k) 0 < i

pub record PlacedAt (run : List ℕ) (at count i : ℕ) : Type 0 where
  pub few : count ≤ arg_places
  pub earlier : Every count (Earlier run at i)

abbrev pub RowAt : List ℕ → ℕ → Type 0
RowAt rows i = PlacedAt rows (i * row_size + 2) (count_in rows i) i

-- statement k, or literal k, names rows below n
pub record NamedAt (said : List ℕ) (n k : ℕ) : Type 0 where
  pub left : left_in said k < n
  pub right : right_in said k < n

-- pattern row i is a variable, 0 to 3, or a symbol over earlier pattern rows
pub record PatternAt (patterns : List ℕ) (i : ℕ) : Type 0 where
  pub variable : pattern_kind_in patterns i ≡ 4 → head_in patterns i < most_variables
  pub symbol : (pattern_kind_in patterns i ≡ 4 → ⊥) → PlacedAt patterns (i * pattern_size + 3) (pattern_count_in patterns i) i

pub record FitContext (w m : ℕ) (rows said : List ℕ) : Type 0 where
  pub rows_few : row_count rows ≤ w
  pub said-few : said_count said ≤ m
  pub counts-few : (i : ℕ) → i < row_count rows → count_in rows i ≤ arg_places
  pub fit : Fit (context_of rows said)

pub record FitClause (patterns literals : List ℕ) : Type 0 where
  pub patterns-few : pattern_count patterns ≤ most_patterns
  pub literals-few : literal_count literals ≤ most_literals
  pub variables-few : (i : ℕ) → i < pattern_count patterns → pattern_kind_in patterns i ≡ 4 → head_in patterns i < most_variables
  pub counts-few : (i : ℕ) → i < pattern_count patterns → (pattern_kind_in patterns i ≡ 4 → ⊥) → pattern_count_in patterns i ≤ arg_places
  pub placed : AllPlaced 0 (patterns_of patterns)
  pub named : NamesAll (pattern_count patterns) (literals_of literals)
