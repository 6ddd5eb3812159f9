use Rattle.grounds_verdict.proofs.Ways.{mine}
use Rattle.grounds_verdict.proofs.citing.Citing.arguments.Goals as goal

pub returns-then-not-argument : goal.returns-then-not-argument
returns-then-not-argument c = search mine

pub returns : goal.returns
returns c = search mine
