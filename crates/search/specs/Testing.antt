-- Literals tried as soon as their last variable is set.
--     Tested, TestedIn   literals that name pattern rows
--     passes_of           a literal that is asked holds
-- Assumes nothing.
use Rattle.std.specs.Prelude.{Bool, not, ◌&&◌, List, ℕ, ◌≤◌}
use Rattle.meaning.specs.Rules.{Literal}
use Rattle.meaning.specs.FirstBy.{holds_by}
use Rattle.columns.specs.Fit.{Every, NamedAt}
use Rattle.columns.specs.declared.Literals.{Literals}

pub record Tested (firsts seconds : List ℕ) (literals : ℕ) : Type 0 where
  pub few : literals ≤ 16
  pub named : Every literals (NamedAt firsts seconds 64)

unfoldable pub passes_of : (ℕ → ℕ → Bool) → (Literal → Bool) → List ℕ → Literal → Bool
passes_of differs asks ns l = not (asks l && not (holds_by differs ns l))

abbrev pub TestedIn : Literals → Type 0
TestedIn l = Tested l.lefts.now l.rights.now l.count
