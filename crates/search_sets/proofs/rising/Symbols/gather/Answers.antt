use Rattle.search_sets.proofs.Gathering.{mine}
use Rattle.search_sets.proofs.rising.Symbols.gather.Goals as goal

pub loop-i-preserved : goal.loop-i-preserved
loop-i-preserved c = search mine
