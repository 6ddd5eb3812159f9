-- What `plan` answers.
--     row_numbers    a number for each pattern row that there may be
--     Ordered       the rows by level and then by row, and where each level ends
--     plan_of        the plan of a well-formed rule
--     Plans         the answer to any runs
-- Assumes nothing.
use Rattle.std.specs.Prelude.{List, ◌≡◌, ℕ, Option, None, Some}
use Rattle.meaning.specs.Rules.{Pattern, variables}
use Rattle.meaning.specs.Columns.{pad}
use Rattle.meaning.specs.Values.{levels}
use Rattle.runs.specs.Limits.{most_patterns}
use Rattle.runs.specs.Runs.{patterns_of, literals_of}
use Rattle.runs.specs.Fit.{FitClause}
use Rattle.search_plan.specs.declared.Plan.{Plan}
use Rattle.search_plan.specs.Order.{level_count, up_to, ends_of}
use Rattle.search_plan.specs.Asked.{never}
use Rattle.search_plan.specs.Sets.{sets, reached_by}

-- a number for each pattern row that there may be, 0 past the last
abbrev pub row_numbers : List ℕ → List ℕ
row_numbers l = pad most_patterns l

pub record Ordered (ls order ends : List ℕ) : Type 0 where
  pub rows : order ≡ row_numbers (up_to ls level_count)
  pub ended : ends ≡ ends_of ls

abbrev pub plan_of : List ℕ → List ℕ → Plan
plan_of patterns literals =
    let ps : List Pattern = patterns_of patterns in
    record {
      variables = variables ps;
      levels = row_numbers (levels ps);
      order = row_numbers (up_to (levels ps) level_count);
      ends = ends_of (levels ps);
      reach = row_numbers (sets ps);
      asked = reached_by (sets ps) (literals_of literals);
      never = never (literals_of literals);
    }

pub data Plans (patterns literals : List ℕ) : Option Plan → Type 0 where
  fits : FitClause patterns literals → Plans patterns literals (Some (plan_of patterns literals))
  unfits : (FitClause patterns literals → ⊥) → Plans patterns literals None
