use Rattle.grounds_numbers.proofs.Keying.{mine}
use Rattle.grounds_numbers.proofs.keys.like.Goals as goal

pub returns-then-same_key : goal.returns-then-same_key
returns-then-same_key c = search mine
