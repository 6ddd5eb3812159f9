use native.Mathlib.Omega.{arith}
use Rattle.classes.proofs.Chains.{mine, seeking-inside, seeking-less}
use Rattle.classes.proofs.mates.mate.Goals as goal

pub loop-at-init : goal.loop-at-init
loop-at-init c = search mine

pub agree-requires-clause-j_bound : goal.agree-requires-clause-j_bound
agree-requires-clause-j_bound c = omega (arith, seeking-inside c.loop-at.invariant c.in-Some.is, c.requires.i_bound)

pub returns-then-agree : goal.returns-then-agree
returns-then-agree c = search mine

pub offset_bounds-next-j : goal.offset_bounds-next-j
offset_bounds-next-j c = omega (arith, seeking-inside c.loop-at.invariant c.in-Some.is, c.requires.i_bound, c.requires.laid.room)

pub bounds-next-j : goal.bounds-next-j
bounds-next-j c = omega (arith, seeking-inside c.loop-at.invariant c.in-Some.is, c.requires.i_bound, c.requires.laid.room)

pub loop-at-smaller : goal.loop-at-smaller
loop-at-smaller c = seeking-less c.loop-at.invariant c.in-Some.is _ c.row_of-at-in-Some.ensures

pub loop-at-preserved : goal.loop-at-preserved
loop-at-preserved c = search mine

pub returns : goal.returns
returns c = search mine
