use Rattle.classes.proofs.Rows.{mine}
use Rattle.classes.proofs.mates.same_args.Goals as goal

pub returns-then-not-same_arg : goal.returns-then-not-same_arg
returns-then-not-same_arg c = search mine

pub loop-k-preserved : goal.loop-k-preserved
loop-k-preserved c = search mine

pub returns : goal.returns
returns c = search mine
