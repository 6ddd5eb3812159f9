use native.Mathlib.Omega.{arith}
use Rattle.closing.proofs.Rows.{agreeing-next, agreeing-differs, mine}
use Rattle.closing.proofs.mates.same_args.Goals as goal

pub returns-then-arg_class : goal.returns-then-arg_class
returns-then-arg_class c =
    agreeing-differs c.loop-k.invariant (omega arith) c.arg_class.ensures c.arg_class-in-loop-k.ensures c.if-arg_class.true

pub loop-k-preserved : goal.loop-k-preserved
loop-k-preserved c =
    agreeing-next c.loop-k.invariant (omega arith) c.arg_class.ensures c.arg_class-in-loop-k.ensures c.if-arg_class.false

pub returns : goal.returns
returns c = search mine
