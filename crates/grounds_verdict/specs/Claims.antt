-- What the checker asks of the runs that it is lent, and what it answers.
--     WellFormed       no row has more than four arguments, there are no more entries than numbers, and what the runs say is well-formed
--     Chosen           each variable has a context row
--     fault_of          a fault as a verdict of `meaning`
--     verdict_of        the answer as a verdict of `meaning`
--     Judged           the answer is the verdict on steps and conclusions, by the context and the rule that the runs say
-- Assumes nothing.
use Rattle.std.specs.Prelude.{List, ◌≡◌, ℕ, ◌≤◌, ◌<◌, length, get_or, Result, Ok, Err}
use Rattle.meaning.specs.Rules.{variables}
use Rattle.meaning.specs.Formed.{Formed}
use Rattle.meaning.specs.Grounds.{Each, Verdict, accepted, unassigned, bad, unconcluded, Verified}
use Rattle.runs.specs.Limits.{most_literals, most_variables, arg_places}
use Rattle.runs.specs.Runs.{row_count, count_in, context_of, pattern_count, pattern_kind_in, pattern_count_in, patterns_of, literal_count, clause_of}
use Rattle.grounds_steps.specs.Steps.{steps_of}
use Rattle.grounds_numbers.specs.Limits.{most_numbers}
use Rattle.grounds_numbers.specs.Entries.{entry_count}
use Rattle.grounds_verdict.specs.Tests.{concluded_in}
use Rattle.grounds_verdict.specs.declared.Conclusions.{Conclusions}
use Rattle.grounds_verdict.specs.declared.Fault.{Fault}
use Rattle.grounds_verdict.specs.declared.Fault.TheVariants.{Unassigned, Bad, Unconcluded}

pub record WellFormed (rows said patterns literals : List ℕ) : Type 0 where
  pub entries-few : entry_count rows patterns ≤ most_numbers
  pub literals-few : literal_count literals ≤ most_literals
  pub rows_few : (i : ℕ) → i < row_count rows → count_in rows i ≤ arg_places
  pub patterns-few : (i : ℕ) → i < pattern_count patterns → (pattern_kind_in patterns i ≡ 4 → ⊥) → pattern_count_in patterns i ≤ arg_places
  pub formed : Formed (context_of rows said) (clause_of patterns literals)

pub record Chosen (rows patterns a : List ℕ) : Type 0 where
  pub four : length a ≡ most_variables
  pub chosen : Each (variables (patterns_of patterns)) (λ v. (v < length a) × (get_or a v 0 < row_count rows))

abbrev pub fault_of : Fault → Verdict
fault_of (Unassigned v) = unassigned v
fault_of (Bad n) = bad n
fault_of (Unconcluded n) = unconcluded n

abbrev pub verdict_of : Result (Unit {0}) Fault → Verdict
verdict_of (Ok u) = accepted
verdict_of (Err x) = fault_of x

abbrev pub Judged : List ℕ → List ℕ → List ℕ → List ℕ → List ℕ → List (List ℕ) → Conclusions → Result (Unit {0}) Fault → Type 0
Judged rows said patterns literals a steps d r =
    Verified (context_of rows said) (clause_of patterns literals) a (steps_of steps) (concluded_in d) (verdict_of r)
