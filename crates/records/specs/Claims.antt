-- What the closing and the finder over records claim of their answers.
--     ClosesRows, ClosedRows                     a closing's answer to records and statements
--     ClosedTable                                the same of a table by value, in runs
--     FitRule                                    a rule is well-formed
--     Judges                                     the finder's reply to a context and a rule, where both are well-formed, and none where not
--     FindsRuns, FindsTable, FindsRows           the same of runs, of a table by value, and of records and statements
-- Assumes nothing.
use Rattle.std.specs.Prelude.{List, ◌≡◌, ℕ, Option, Some, None}
use Rattle.meaning.specs.Context.{Context}
use Rattle.meaning.specs.Rules.{Clause}
use Rattle.meaning.specs.Equality.{Promise}
use Rattle.meaning.specs.Replies as M
use Rattle.meaning.specs.Replies.{places_of, Judged}
use Rattle.runs.specs.Fit.{FitContext, FitClause}
use Rattle.runs.specs.Limits.{most_rows, most_statements}
use Rattle.runs.specs.Runs as R
use Rattle.records.specs.declared.ClauseColumns.{ClauseColumns}
use Rattle.replies.specs.Told.{told_by, told_of}
use Rattle.replies.specs.declared.Reply.{Reply}
use Rattle.classes.specs.Claims.{Own, Closes}
use Rattle.classes.specs.declared.Answer.{Answer}
use Rattle.classes.specs.declared.Answer.TheVariants as A
use Rattle.classes.specs.declared.Classes.{Classes}
use Rattle.records.specs.declared.Row.{Row}
use Rattle.records.specs.declared.Statements.{Statements}
use Rattle.records.specs.declared.Table.{Table}
use Rattle.records.specs.Records.{context_of, FitRows}
use Rattle.records.specs.Layouts.{rows_laid, said_laid, patterns_laid, literals_laid, rule_of}

abbrev pub ClosesRows : List Row → Statements → Answer → List ℕ → Type 0
ClosesRows rows s A.Closed table = FitRows rows s × Promise (context_of rows s) most_rows table
ClosesRows rows s A.Unfit table = (FitRows rows s → ⊥) × Own most_rows table

pub record ClosedRows (rows : List Row) (s : Statements) (r : Classes) : Type 0 where
  pub closes : ClosesRows rows s r.answer r.table

pub record ClosedTable (t : Table) (s : Statements) (r : Classes) : Type 0 where
  pub closes : Closes most_rows most_statements (rows_laid t) (said_laid s) r.answer r.table

pub record FitRule (k : ClauseColumns) : Type 0 where
  pub fit : FitClause (patterns_laid k) (literals_laid k)

-- F is that the context is well-formed, and G that the rule is
pub data Judges (F G : Type 0) (c : Context) (k : Clause) : Option Reply → Type 0 where
  judged : F → G → (m : M.Reply) → Judged c k m → (r : Reply) → told_by r.outcome ≡ told_of m → r.places ≡ places_of m → Judges F G c k (Some r)
  unfit : (F → G → ⊥) → Judges F G c k None

pub record FindsRuns (rows said patterns literals : List ℕ) (r : Option Reply) : Type 0 where
  pub judges : Judges (FitContext most_rows most_statements rows said) (FitClause patterns literals) (R.context_of rows said) (R.clause_of patterns literals) r

pub record FindsTable (t : Table) (s : Statements) (k : ClauseColumns) (r : Option Reply) : Type 0 where
  pub finds : FindsRuns (rows_laid t) (said_laid s) (patterns_laid k) (literals_laid k) r

pub record FindsRows (rows : List Row) (s : Statements) (k : ClauseColumns) (r : Option Reply) : Type 0 where
  pub judges : Judges (FitRows rows s) (FitRule k) (context_of rows s) (rule_of k) r
