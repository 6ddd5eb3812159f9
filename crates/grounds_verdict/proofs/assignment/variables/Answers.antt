use native.Mathlib.Omega.{arith}
use Rattle.grounds_verdict.proofs.Assigning.{mine, counting-more, counting-same}
use Rattle.grounds_verdict.proofs.assignment.variables.Goals as goal
use Rattle.grounds_verdict.proofs.assignment.variables.Goals.{then-is_variable, else-is_variable}

pub loop-p-init : goal.loop-p-init
loop-p-init c = search mine

pub loop-p-preserved : goal.loop-p-preserved
loop-p-preserved c =
    elim c.if-is_variable.branch [
      | then-is_variable w ↦
          rw w.n-is
          (counting-more c.args.patterns.now c.loop-p.p c.loop-p.n c.loop-p.invariant (omega arith) c.is_variable.result c.is_variable.ensures w.head_in.result w.from.result w.max-n.result
          w.if-is_variable.true w.head_in.ensures w.from.ensures w.max-n.ensures)
      | else-is_variable w ↦
          rw w.n-is
          (counting-same c.args.patterns.now c.loop-p.p c.loop-p.n c.loop-p.invariant (omega arith) c.is_variable.result c.is_variable.ensures w.if-is_variable.false)
    ]

pub returns : goal.returns
returns c = search mine
