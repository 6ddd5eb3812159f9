-- `grounds_classes::settle` meets its contract. The reflexive steps, the equations, and the passes, one after the other.
-- Assumes nothing.
use Rattle.grounds_classes.proofs.Making.{handed-back, settle-done, mine}
use Rattle.grounds_classes.proofs.settle.Goals as goal

pub returns : goal.returns
returns c =
    handed-back c.rounds.new.self (search mine) (search mine)
    (settle-done c.args.keys.now c.args.numbers.now c.args.pairs.now c.start.ensures c.state_all.ensures c.rounds.ensures)
