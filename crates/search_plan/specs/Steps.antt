-- What the functions ask of pattern rows.
--     RuleFit             well-formed pattern rows, within the limit
--     RowFit, ArgsFit     a well-formed pattern row, and the arguments of a symbol, with numbers for the rows before it
--     reached_of           a variable's number and one, and 0 for a symbol
-- Assumes nothing.
use Rattle.std.specs.Prelude.{ℕ, ◌+◌, ◌*◌, ◌≤◌, ◌<◌, List}
use Rattle.meaning.specs.Rules.{Pattern, variable, apply}
use Rattle.runs.specs.Limits.{most_patterns, pattern_size}
use Rattle.runs.specs.Runs.{pattern_count, pattern_count_in}
use Rattle.runs.specs.Fit.{Every, PlacedAt, PatternAt}

pub record RuleFit (patterns : List ℕ) : Type 0 where
  pub few : pattern_count patterns ≤ most_patterns
  pub placed : Every (pattern_count patterns) (PatternAt patterns)

-- row i, with at least i of the numbers
pub record RowFit (patterns : List ℕ) (numbers i : ℕ) : Type 0 where
  pub inside : i < pattern_count patterns
  pub known : i ≤ numbers
  pub pattern : PatternAt patterns i

pub record ArgsFit (patterns : List ℕ) (numbers i : ℕ) : Type 0 where
  pub inside : i < pattern_count patterns
  pub known : i ≤ numbers
  pub placed : PlacedAt patterns (i * pattern_size + 3) (pattern_count_in patterns i) i

unfoldable pub reached_of : Pattern → ℕ
reached_of (variable v) = v + 1
reached_of (apply f l) = 0
