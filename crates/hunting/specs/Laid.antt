-- A context and a rule laid out for a search.
--     Ready                  runs that say a well-formed context and a well-formed rule, with the context's closing
--     MarkedIn               the marks of a context's busy classes, by a table
--     Lays                   what is laid out of runs and a table, every place of it
--     context_in, rule_in      the context and the rule that are laid out
--     FitIn, FitRule         columns that say a well-formed context, and a well-formed rule
--     Sound                  they are well-formed, the table is the context's closing, and the marks are those of its busy classes
--     nothing_known           what is known of pairs of classes before a search
-- Assumes nothing.
use Rattle.std.specs.Prelude.{List, ◌≡◌, ℕ, ◌*◌, replicate}
use Rattle.meaning.specs.Context.{Context}
use Rattle.meaning.specs.Rules.{Clause}
use Rattle.meaning.specs.Equality.{Promise}
use Rattle.columns.specs.Fit as C
use Rattle.runs.specs.Fit.{FitContext, FitClause}
use Rattle.runs.specs.Limits.{most_rows, most_statements}
use Rattle.runs.specs.Runs.{context_of}
use Rattle.layout.specs.Columns as L
use Rattle.layout.specs.Columns.{context_laid, rule_laid}
use Rattle.layout.specs.declared.ContextColumns.{ContextColumns}
use Rattle.layout.specs.declared.RuleColumns.{RuleColumns}
use Rattle.further.specs.Marks.{Marks, MarksOf}
use Rattle.hunting.specs.declared.Laid.{Laid}

pub record Ready (rows said patterns literals table : List ℕ) : Type 0 where
  pub context : FitContext most_rows most_statements rows said
  pub rule : FitClause patterns literals
  pub closed : Promise (context_of rows said) most_rows table

pub record MarkedIn (c : ContextColumns) (table marks : List ℕ) : Type 0 where
  pub so : MarksOf c.symbols c.counts c.args c.rows c.kinds c.lefts c.rights c.statements table marks

pub record Lays (rows said patterns literals table : List ℕ) (l : Laid) : Type 0 where
  pub context : l.context ≡ context_laid rows said
  pub rule : l.rule ≡ rule_laid patterns literals
  pub closing : l.table ≡ table
  pub busy : MarkedIn l.context l.table l.busy

abbrev pub context_in : Laid → Context
context_in l = L.context_in l.context

abbrev pub rule_in : Laid → Clause
rule_in l = L.rule_in l.rule

pub record FitIn (c : ContextColumns) : Type 0 where
  pub fit : C.FitContext c.symbols c.counts c.args c.rows c.kinds c.lefts c.rights c.statements

pub record FitRule (k : RuleColumns) : Type 0 where
  pub fit : C.FitClause k.kinds k.heads k.counts k.args k.patterns k.signs k.lefts k.rights k.literals

pub record Sound (l : Laid) : Type 0 where
  pub context : FitIn l.context
  pub rule : FitRule l.rule
  pub closed : Promise (context_in l) most_rows l.table
  pub busy : Marks (context_in l) l.table l.busy

abbrev pub nothing_known : List ℕ
nothing_known = replicate (most_rows * most_rows) 0
