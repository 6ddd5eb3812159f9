use Rattle.search_sets.proofs.Sunk.{mine}
use Rattle.search_sets.proofs.rising.Symbols.cut_args.Goals as goal

pub loop-k-preserved : goal.loop-k-preserved
loop-k-preserved c = search mine
