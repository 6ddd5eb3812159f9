-- What the public functions of the closing claim of their answers.
--     Own          each of the 255 places holds its own number
--     Closes       the closing's answer and table, by cases
--     ClosesIn     the same of a context that is lent
--     clashing     the refusal's answer as a value of `meaning`
-- Assumes nothing.
use Rattle.std.specs.Prelude.{List, Option, Some, None, ◌≡◌, ℕ, ◌<◌, length}
use Rattle.meaning.specs.Equality.{rep_at, Promise}
use Rattle.meaning.specs.Columns.{context_from}
use Rattle.meaning.specs.ByTable.{Clashing, first, clear}
use Rattle.columns.specs.Fit.{FitContext}
use Rattle.columns.specs.declared.Context.{Context}
use Rattle.closing.specs.declared.Answer.{Answer}
use Rattle.closing.specs.declared.Answer.TheVariants.{Closed, Unfit}
use Rattle.closing.specs.declared.Classes.{Classes}

pub record Own (table : List ℕ) : Type 0 where
  pub long : length table ≡ 255
  pub own : (i : ℕ) → i < 255 → rep_at table i ≡ i

abbrev pub Closes : List ℕ → List ℕ → List ℕ → ℕ → List ℕ → List ℕ → List ℕ → ℕ → Answer → List ℕ → Type 0
Closes symbols counts args n kinds lefts rights m Closed table =
    FitContext symbols counts args n kinds lefts rights m × Promise (context_from symbols counts args n kinds lefts rights m) 255 table
Closes symbols counts args n kinds lefts rights m Unfit table =
    (FitContext symbols counts args n kinds lefts rights m → ⊥) × Own table

abbrev pub ClosesIn : Context → Classes → Type 0
ClosesIn c r =
    Closes c.terms.symbols.now c.terms.counts.now c.terms.args.now c.terms.rows c.statements.kinds.now c.statements.lefts.now c.statements.rights.now
    c.statements.count r.answer r.table

abbrev pub clashing : Option ℕ → Clashing
clashing (Some n) = first n
clashing None = clear
