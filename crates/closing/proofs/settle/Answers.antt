use borrow.Author.Rules.{rules}
use Rattle.closing.proofs.Rounds.{rounding-start, rounding-next, rounding-ends, rounding-less, rounding-again}
use Rattle.closing.proofs.settle.Goals as goal

pub returns-then-old-start : goal.returns-then-old-start
returns-then-old-start c =
    rounding-ends (rounding-start _ _ _ _ _ _ _ _ _ _ _ c.requires.fit_context c.requires.rows_in_bounds c.requires.table_value c.join_stated.ensures c.sum-start.ensures) c.join_rows.ensures c.sum-old.ensures (search rules)

pub loop-old-init : goal.loop-old-init
loop-old-init c =
    rounding-next (rounding-start _ _ _ _ _ _ _ _ _ _ _ c.requires.fit_context c.requires.rows_in_bounds c.requires.table_value c.join_stated.ensures c.sum-start.ensures) c.join_rows.ensures c.sum-old.ensures

pub returns-then-fresh-old : goal.returns-then-fresh-old
returns-then-fresh-old c =
    rounding-ends c.loop-old.invariant c.join_rows-in-loop-old.ensures c.sum-fresh.ensures (search rules)

pub loop-old-smaller : goal.loop-old-smaller
loop-old-smaller c =
    rounding-less c.loop-old.invariant c.join_rows-in-loop-old.ensures c.sum-fresh.ensures c.follow.ensures c.sum-old-in-loop-old.ensures c.if-fresh-old.false

pub loop-old-preserved : goal.loop-old-preserved
loop-old-preserved c =
    rounding-again c.loop-old.invariant c.join_rows-in-loop-old.ensures c.sum-fresh.ensures c.follow.ensures c.sum-old-in-loop-old.ensures
