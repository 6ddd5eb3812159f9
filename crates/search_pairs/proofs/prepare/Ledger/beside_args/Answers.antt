use borrow.Author.Rules.{rules}
use Rattle.search_pairs.proofs.Preparing.{two-arg-other}
use Rattle.search_pairs.proofs.prepare.Ledger.beside_args.Goals as goal

pub arg_class-y-requires : goal.arg_class-y-requires
arg_class-y-requires c = search (rules, two-arg-other)
