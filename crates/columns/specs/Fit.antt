-- Columns that say a well-formed context and a well-formed clause.
--     FitContext, FitClause             as a definition of `meaning` asks it, within what the columns can hold
--     Decides                           an answer that is true exactly when something holds
--     Every                             what holds of each number below a bound
--     PlacedAt, NamedAt, PatternAt      the same of one place of the columns
--     Laid, Written                     and of all rows, and of all pattern rows
-- Assumes nothing.
use Rattle.std.specs.Prelude.{Bool, true, List, ◌≡◌, ℕ, ◌+◌, ◌*◌, ◌≤◌, ◌<◌, length, get_or}
use Rattle.meaning.specs.Formed.{Fit, AllPlaced, NamesAll}
use Rattle.meaning.specs.Columns.{context_from, patterns_from, literals_from}

pub record Decides (r : Bool) (P : Type 0) : Type 0 where
  pub holds : r ≡ true → P
  pub sure : P → r ≡ true

pub record Every (n : ℕ) (P : ℕ → Type 0) : Type 0 where
  pub each : (i : ℕ) → i < n → P i

-- argument k of row i is an earlier row
abbrev pub Earlier : List ℕ → ℕ → ℕ → Type 0
Earlier args i k = get_or args (i * 4 + k) 0 < i

-- row i has at most four arguments, each an earlier row
pub record PlacedAt (counts args : List ℕ) (i : ℕ) : Type 0 where
  pub few : get_or counts i 0 ≤ 4
  pub earlier : Every (get_or counts i 0) (Earlier args i)

-- pair j names rows below n
pub record NamedAt (lefts rights : List ℕ) (n j : ℕ) : Type 0 where
  pub left : get_or lefts j 0 < n
  pub right : get_or rights j 0 < n

-- pattern row i is a variable, 0 to 3, or a symbol with at most four arguments, each an earlier pattern row
pub record PatternAt (kinds heads counts args : List ℕ) (i : ℕ) : Type 0 where
  pub variable : get_or kinds i 0 ≡ 4 → get_or heads i 0 < 4
  pub symbol : (get_or kinds i 0 ≡ 4 → ⊥) → PlacedAt counts args i

-- the places of some rows, and of some pattern rows, are there and are so
pub record Laid (counts args : List ℕ) (rows : ℕ) : Type 0 where
  pub long : rows * 4 ≤ length args
  pub placed : Every rows (PlacedAt counts args)

pub record Written (kinds heads counts args : List ℕ) (patterns : ℕ) : Type 0 where
  pub long : patterns * 4 ≤ length args
  pub placed : Every patterns (PatternAt kinds heads counts args)

pub record FitContext (symbols counts args : List ℕ) (rows : ℕ) (kinds lefts rights : List ℕ) (statements : ℕ) : Type 0 where
  pub rows_few : rows ≤ 255
  pub statements-few : statements ≤ 510
  pub counts-few : (i : ℕ) → i < rows → get_or counts i 0 ≤ 4
  pub fit : Fit (context_from symbols counts args rows kinds lefts rights statements)

pub record FitClause (kinds heads counts args : List ℕ) (patterns : ℕ) (literals lefts rights : List ℕ) (count : ℕ) : Type 0 where
  pub patterns-few : patterns ≤ 64
  pub literals-few : count ≤ 16
  pub variables-few : (i : ℕ) → i < patterns → get_or kinds i 0 ≡ 4 → get_or heads i 0 < 4
  pub counts-few : (i : ℕ) → i < patterns → (get_or kinds i 0 ≡ 4 → ⊥) → get_or counts i 0 ≤ 4
  pub placed : AllPlaced 0 (patterns_from kinds heads counts args patterns)
  pub named : NamesAll patterns (literals_from literals lefts rights count)
