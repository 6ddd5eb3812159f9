use mathlib.Core.Path.{sym, ◌∙◌}
use Rattle.meaning.specs.Equality.{rep_at}
use Rattle.values.proofs.Comparing.{symbol-other, symbol-same, over-lengths, over-start, over-next, over-differs, over_done}
use borrow.Author.Rules.{rules}
use native.Mathlib.Omega.{arith}
use Rattle.values.proofs.chain.row_has.Goals as goal

pub returns-then-symbols-i : goal.returns-then-symbols-i
returns-then-symbols-i c = symbol-other _ _ _ c.if-symbols-i.true

pub returns-then-from-count : goal.returns-then-from-count
returns-then-from-count c = symbol-same _ _ _ _ c.if-symbols-i.false (over-lengths (rep_at c.args.ledger.now.table.now) _ _ _ _ _ c.requires.lined (search rules) (λ e. c.if-from-count.true (c.from.ensures ∙ e)))

pub loop-k-init : goal.loop-k-init
loop-k-init c = (omega arith, sym c.if-from-count.false ∙ c.from.ensures, c.if-symbols-i.false, over-start (rep_at c.args.ledger.now.table.now) _ _ _ _ _ c.requires.lined (search rules) (sym c.if-from-count.false ∙ c.from.ensures))

pub offset_bounds-table-from : goal.offset_bounds-table-from
offset_bounds-table-from c = omega (arith, c.requires.lined.placed.earlier.each c.loop-k.k (omega arith))

pub bounds-table-from : goal.bounds-table-from
bounds-table-from c = omega (arith, c.requires.lined.placed.earlier.each c.loop-k.k (omega arith))

pub returns-then-from-wanted : goal.returns-then-from-wanted
returns-then-from-wanted c = symbol-same _ _ _ _ c.loop-k.invariant.2 (over-differs (rep_at c.args.ledger.now.table.now) _ _ _ _ _ c.requires.lined (search rules) c.loop-k.invariant.1 _ c.loop-k.invariant.3 _ _ c.loop-k-test.true c.from-in-loop-k.ensures c.from-in-loop-k-2.ensures c.if-from-wanted.true)

pub loop-k-preserved : goal.loop-k-preserved
loop-k-preserved c = (omega arith, c.loop-k.invariant.1, c.loop-k.invariant.2, over-next (rep_at c.args.ledger.now.table.now) _ _ _ _ _ c.requires.lined (search rules) c.loop-k.invariant.1 _ c.loop-k.invariant.3 _ _ c.loop-k-test.true c.from-in-loop-k.ensures c.from-in-loop-k-2.ensures c.if-from-wanted.false)

pub returns : goal.returns
returns c = symbol-same _ _ _ _ c.loop-k.invariant.2 (over_done (rep_at c.args.ledger.now.table.now) _ _ _ _ _ c.requires.lined (search rules) c.loop-k.invariant.1 _ c.loop-k.invariant.3 c.loop-k-test.false)
