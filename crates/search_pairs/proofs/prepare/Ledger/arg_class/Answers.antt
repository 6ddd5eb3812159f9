-- `search_pairs::prepare::Ledger::arg_class` meets its contract. The class of an argument, which is an earlier row.
-- Assumes nothing.
use Rattle.search_pairs.proofs.Preparing.{mine}
use Rattle.search_pairs.proofs.prepare.Ledger.arg_class.Goals as goal

pub returns : goal.returns
returns c = search mine
