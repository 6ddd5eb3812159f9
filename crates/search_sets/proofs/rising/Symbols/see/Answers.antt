use Rattle.search_sets.proofs.Seeing.{mine}
use Rattle.search_sets.proofs.rising.Symbols.see.Goals as goal

pub loop-i-preserved : goal.loop-i-preserved
loop-i-preserved c = search mine
