use Rattle.text_reader.proofs.Answering.{mine}
use Rattle.text_reader.proofs.fill.Goals as goal

pub loop-s-init : goal.loop-s-init
loop-s-init c = search mine

pub returns : goal.returns
returns c = record { ends = search mine }
