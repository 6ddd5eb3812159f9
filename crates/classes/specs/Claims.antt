-- What the public functions of the closing claim of their answers, over the width.
--     Own          each of w places holds its own number
--     Closes       the closing's answer and table of w places, for at most w rows and m statements, by cases
--     clashing     the refusal's answer as a value of `meaning`
-- Assumes nothing.
use Rattle.std.specs.Prelude.{List, ◌≡◌, ℕ, ◌<◌, length, Option, Some, None}
use Rattle.meaning.specs.Equality.{rep_at, Promise}
use Rattle.meaning.specs.ByTable.{Clashing, first, clear}
use Rattle.runs.specs.Runs.{context_of}
use Rattle.runs.specs.Fit.{FitContext}
use Rattle.classes.specs.declared.Answer.{Answer}
use Rattle.classes.specs.declared.Answer.TheVariants.{Closed, Unfit}

pub record Own (w : ℕ) (table : List ℕ) : Type 0 where
  pub long : length table ≡ w
  pub own : (i : ℕ) → i < w → rep_at table i ≡ i

abbrev pub Closes : ℕ → ℕ → List ℕ → List ℕ → Answer → List ℕ → Type 0
Closes w m rows said Closed table = FitContext w m rows said × Promise (context_of rows said) w table
Closes w m rows said Unfit table = (FitContext w m rows said → ⊥) × Own w table

abbrev pub clashing : Option ℕ → Clashing
clashing (Some n) = first n
clashing None = clear
