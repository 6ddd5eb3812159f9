use Rattle.search_pairs.proofs.Rows.{agreeing-next, mine}
use Rattle.search_pairs.proofs.Closed.same_args.Goals as goal

pub loop-k-preserved : goal.loop-k-preserved
loop-k-preserved c =
    agreeing-next c.loop-k.invariant c.loop-k-test.true c.arg_label.ensures c.arg_label-in-loop-k.ensures c.if-arg_label.false

pub returns-then-arg_label : goal.returns-then-arg_label
returns-then-arg_label c = search mine

pub returns : goal.returns
returns c = search mine
