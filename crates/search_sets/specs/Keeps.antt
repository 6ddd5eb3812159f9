-- What a step over the run promises: no assignment that is sought is left out.
--     Setting           a context, a table and a rule that the sets may be about
--     Fits              what a step may lean on: the table's entries have places in the sets, and the rule is well-formed
--     AllowedIn         a sought assignment that a run allows
--     Keeps             each sought assignment that the run before allows the run after allows too, in each setting of a kind
--     None              the run allows none
--     Steps             a step that answers whether a breach can be left
--     VariableRow, EqualRows    settings in which a row is a variable; in which a literal equates two rows
-- Assumes nothing.
use Rattle.std.specs.Prelude.{Bool, false, List, ◌≡◌, ℕ, ◌*◌, ◌≤◌, ◌<◌, length}
use Rattle.meaning.specs.Context.{Row}
use Rattle.meaning.specs.Rules.{Clause, variable, equal, variables}
use Rattle.meaning.specs.Formed.{AllPlaced}
use Rattle.meaning.specs.Grounds.{literal_at}
use Rattle.meaning.specs.Values.{pattern_at}
use Rattle.meaning.proofs.Pruned.{Sought}
use Rattle.runs.specs.Limits.{most_variables}
use Rattle.matching.specs.Sound.{Table, AllowsBy}
use Rattle.search_sets.specs.Places.{possible_in}

pub record Setting : Type 0 where
  pub differs : ℕ → ℕ → Bool
  pub rows : List Row
  pub rep : ℕ → ℕ
  -- classes are below the bound; terms outside the table have numbers from the offset on
  pub bound : ℕ
  pub offset : ℕ
  pub rule : Clause

pub record Fits (count width : ℕ) (s : Setting) : Type 0 where
  pub table : Table s.rows s.rep s.bound s.offset
  pub within : s.bound ≤ width * 64
  pub placed : AllPlaced 0 s.rule.patterns
  pub counted : length s.rule.patterns ≡ count
  pub few : variables s.rule.patterns ≤ most_variables

pub record AllowedIn (s : Setting) (count width : ℕ) (sets a : List ℕ) : Type 0 where
  pub sought : Sought s.differs s.rows s.rep s.offset s.rule a
  pub allowed : AllowsBy s.differs s.rows s.rep s.bound s.offset s.rule (possible_in count width sets) a

pub record Keeps (Kind : Setting → Type 0) (count width : ℕ) (old new : List ℕ) : Type 0 where
  pub long : length new ≡ length old
  pub keeps : (s : Setting) → Fits count width s → Kind s → (a : List ℕ) → AllowedIn s count width old a → AllowedIn s count width new a

pub record None (Kind : Setting → Type 0) (count width : ℕ) (sets : List ℕ) : Type 0 where
  pub none : (s : Setting) → Fits count width s → Kind s → (a : List ℕ) → AllowedIn s count width sets a → ⊥

-- the answer no: nothing was allowed before
pub record Steps (Kind : Setting → Type 0) (count width : ℕ) (old new : List ℕ) (left : Bool) : Type 0 where
  pub kept : Keeps Kind count width old new
  pub none : left ≡ false → None Kind count width old

-- ---- kinds of settings

-- row p is variable v
pub record VariableRow (p v : ℕ) (s : Setting) : Type 0 where
  pub row : pattern_at s.rule.patterns p ≡ variable v

-- some literal says that rows p and q are equal
pub record EqualRows (p q : ℕ) (s : Setting) : Type 0 where
  pub literal : ℕ
  pub below : literal < length s.rule.literals
  pub says : literal_at s.rule.literals literal ≡ equal p q
