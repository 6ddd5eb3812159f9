-- What a context and a rule that are lent in columns say, and that they are well-formed.
--     rows_in, statements_in, context_in    the rows, the statements and the context
--     patterns_in, literals_in, rule_in     the pattern rows, the literals and the rule
--     LaidIn, WrittenIn                     what `Fit` has of all rows and of all pattern rows
--     Fits, FitsRule                        well-formed, within what the columns can hold
-- Assumes nothing.
use Rattle.std.specs.Prelude.{List}
use Rattle.meaning.specs.Context.{Row, Statement, Context as Meant}
use Rattle.meaning.specs.Rules.{Pattern, Literal, Clause}
use Rattle.meaning.specs.Columns.{rows_from, statements_from, context_from, patterns_from, literals_from, clause_from}
use Rattle.columns.specs.Fit.{Laid, Written, FitContext, FitClause}
use Rattle.columns.specs.declared.Terms.{Terms}
use Rattle.columns.specs.declared.Statements.{Statements}
use Rattle.columns.specs.declared.Context.{Context}
use Rattle.columns.specs.declared.Patterns.{Patterns}
use Rattle.columns.specs.declared.Literals.{Literals}
use Rattle.columns.specs.declared.Rule.{Rule}

abbrev pub rows_in : Terms → List Row
rows_in t = rows_from t.symbols.now t.counts.now t.args.now t.rows

abbrev pub statements_in : Statements → List Statement
statements_in s = statements_from s.kinds.now s.lefts.now s.rights.now s.count

abbrev pub context_in : Context → Meant
context_in c =
    context_from c.terms.symbols.now c.terms.counts.now c.terms.args.now c.terms.rows c.statements.kinds.now c.statements.lefts.now c.statements.rights.now
    c.statements.count

abbrev pub patterns_in : Patterns → List Pattern
patterns_in p = patterns_from p.kinds.now p.heads.now p.counts.now p.args.now p.rows

abbrev pub literals_in : Literals → List Literal
literals_in l = literals_from l.signs.now l.lefts.now l.rights.now l.count

abbrev pub rule_in : Rule → Clause
rule_in r =
    clause_from r.patterns.kinds.now r.patterns.heads.now r.patterns.counts.now r.patterns.args.now r.patterns.rows r.literals.signs.now r.literals.lefts.now
    r.literals.rights.now r.literals.count

abbrev pub LaidIn : Terms → Type 0
LaidIn t = Laid t.counts.now t.args.now t.rows

abbrev pub WrittenIn : Patterns → Type 0
WrittenIn p = Written p.kinds.now p.heads.now p.counts.now p.args.now p.rows

abbrev pub Fits : Context → Type 0
Fits c =
    FitContext c.terms.symbols.now c.terms.counts.now c.terms.args.now c.terms.rows c.statements.kinds.now c.statements.lefts.now c.statements.rights.now
    c.statements.count

abbrev pub FitsRule : Rule → Type 0
FitsRule r =
    FitClause r.patterns.kinds.now r.patterns.heads.now r.patterns.counts.now r.patterns.args.now r.patterns.rows r.literals.signs.now r.literals.lefts.now
    r.literals.rights.now r.literals.count
