use Rattle.meaning.specs.Equality.{rep_at}
use Rattle.values.proofs.Chaining.{seeking-start, seeking-next, seeking-found, seeking-ends}
use native.Mathlib.Omega.{arith}
use mathlib.Core.Path.{refl}
use Rattle.values.proofs.chain.held.Goals as goal

pub loop-i-init : goal.loop-i-init
loop-i-init c = seeking-start _ _ _ _ (rep_at c.args.ledger.now.table.now) _ _ _ _ _ _ c.requires.ledger_fit.chained c.bucket.ensures c.from-i.ensures (omega arith)

pub row_has-requires : goal.row_has-requires
row_has-requires c = record { i_bound = omega (arith, c.requires.ledger_fit.few); lined = record { long = omega (arith, c.requires.ledger_fit.laid.long); placed = c.requires.ledger_fit.laid.placed.each _ c.loop-i-test.true; few = c.requires.count_bound } }

pub offset_bounds-table-i : goal.offset_bounds-table-i
offset_bounds-table-i c = omega (arith, c.requires.ledger_fit.few)

pub bounds-table-i : goal.bounds-table-i
bounds-table-i c = omega (arith, c.requires.ledger_fit.few)

pub returns-then-row_has : goal.returns-then-row_has
returns-then-row_has c = seeking-found _ _ _ _ (rep_at c.args.ledger.now.table.now) _ _ _ c.loop-i.invariant _ _ c.loop-i-test.true c.row_has.ensures c.if-row_has.true refl

pub offset_bounds-chains-i : goal.offset_bounds-chains-i
offset_bounds-chains-i c = omega (arith, c.requires.ledger_fit.few)

pub bounds-chains-i : goal.bounds-chains-i
bounds-chains-i c = omega (arith, c.requires.ledger_fit.few)

pub loop-i-smaller : goal.loop-i-smaller
loop-i-smaller c = omega (arith, (c.requires.ledger_fit.chained.links _ (omega arith) c.loop-i-test.true).rises)

pub loop-i-preserved : goal.loop-i-preserved
loop-i-preserved c = seeking-next _ _ _ _ (rep_at c.args.ledger.now.table.now) _ _ _ c.loop-i.invariant _ _ _ _ c.requires.ledger_fit.chained c.loop-i-test.true c.row_has.ensures c.if-row_has.false c.from-i-in-loop-i.ensures

pub returns : goal.returns
returns c = seeking-ends _ _ _ _ (rep_at c.args.ledger.now.table.now) _ _ _ c.loop-i.invariant c.loop-i-test.false
