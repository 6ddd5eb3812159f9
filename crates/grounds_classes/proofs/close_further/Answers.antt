-- `grounds_classes::close_further` meets its contract.
-- Assumes nothing.
use Rattle.grounds_classes.proofs.Making.{handed-back, further-done, mine}
use Rattle.grounds_classes.proofs.close_further.Goals as goal

pub returns : goal.returns
returns c = handed-back c.rounds.new.self (search mine) (search mine) (further-done c.args.keys.now c.args.x c.args.y c.join_pair.ensures c.rounds.ensures)
