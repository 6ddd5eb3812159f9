-- Columns that are laid out, and the same lent.
--     LendsContext, LendsRule     what is lent is each column, and how many there are
-- Assumes nothing.
use Rattle.std.specs.Prelude.{◌≡◌}
use Rattle.columns.specs.declared.Context.{Context}
use Rattle.columns.specs.declared.Rule.{Rule}
use Rattle.layout.specs.declared.ContextColumns.{ContextColumns}
use Rattle.layout.specs.declared.RuleColumns.{RuleColumns}

pub record LendsContext (c : ContextColumns) (l : Context) : Type 0 where
  pub symbols : l.terms.symbols.now ≡ c.symbols
  pub counts : l.terms.counts.now ≡ c.counts
  pub args : l.terms.args.now ≡ c.args
  pub rows : l.terms.rows ≡ c.rows
  pub kinds : l.statements.kinds.now ≡ c.kinds
  pub lefts : l.statements.lefts.now ≡ c.lefts
  pub rights : l.statements.rights.now ≡ c.rights
  pub count : l.statements.count ≡ c.statements

pub record LendsRule (k : RuleColumns) (l : Rule) : Type 0 where
  pub kinds : l.patterns.kinds.now ≡ k.kinds
  pub heads : l.patterns.heads.now ≡ k.heads
  pub counts : l.patterns.counts.now ≡ k.counts
  pub args : l.patterns.args.now ≡ k.args
  pub rows : l.patterns.rows ≡ k.patterns
  pub signs : l.literals.signs.now ≡ k.signs
  pub lefts : l.literals.lefts.now ≡ k.lefts
  pub rights : l.literals.rights.now ≡ k.rights
  pub count : l.literals.count ≡ k.literals
