use native.Mathlib.Omega.{arith}
use Rattle.search.proofs.Hunting.{begins-start, begins-next, begins-other, begins-done}
use borrow.Author.Rules.{rules}
use Rattle.search.proofs.hunt.begins.Goals as goal

pub loop-j-init : goal.loop-j-init
loop-j-init c = (omega arith, c.from-n.ensures, begins-start _ _)

pub returns-then-from-j : goal.returns-then-from-j
returns-then-from-j c = begins-other _ _ _ _ _ _ c.loop-j.invariant.1 c.loop-j-test.true c.from.ensures c.if-from-j.true

pub loop-j-preserved : goal.loop-j-preserved
loop-j-preserved c = (omega (arith, c.loop-j-test.true), c.loop-j.invariant.1, begins-next _ _ _ _ c.loop-j.invariant.2 c.from.ensures c.if-from-j.false)

pub returns : goal.returns
returns c = begins-done _ _ _ _ _ (search rules) (search rules) (search rules) c.loop-j.invariant.1 c.loop-j-test.false c.loop-j.invariant.2
