use Rattle.search_sets.proofs.Seeing.{mine}
use Rattle.search_sets.proofs.rising.Symbols.add_args.Goals as goal

pub loop-k-preserved : goal.loop-k-preserved
loop-k-preserved c = search mine
