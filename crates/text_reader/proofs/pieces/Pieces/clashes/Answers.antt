use Rattle.text_reader.proofs.Agreeing.{mine}
use Rattle.text_reader.proofs.pieces.Pieces.clashes.Goals as goal

pub loop-i-init : goal.loop-i-init
loop-i-init c = search mine

pub overflow_add-r : goal.overflow_add-r
overflow_add-r c = search mine

pub loop-i-preserved : goal.loop-i-preserved
loop-i-preserved c = search mine

pub returns : goal.returns
returns c = search mine
