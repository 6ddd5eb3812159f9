use Rattle.grounds_classes.proofs.Rounding.{comparing}
use Rattle.grounds_classes.proofs.keys.Two.same_args.Goals as goal

pub loop-k-init : goal.loop-k-init
loop-k-init c = search comparing

pub returns-then-not-same_arg : goal.returns-then-not-same_arg
returns-then-not-same_arg c = search comparing

pub loop-k-preserved : goal.loop-k-preserved
loop-k-preserved c = search comparing

pub returns : goal.returns
returns c = search comparing
