use Rattle.search_values.proofs.Holding.{mine}
use Rattle.search_values.proofs.Ledger.held.Goals as goal

pub first_of-p-requires : goal.first_of-p-requires
first_of-p-requires c = search mine

pub returns-then-key_symbol-symbol : goal.returns-then-key_symbol-symbol
returns-then-key_symbol-symbol c = search mine

pub args_are-requires : goal.args_are-requires
args_are-requires c = search mine

pub bounds-self-i : goal.bounds-self-i
bounds-self-i c = search mine

pub returns-then-args_are : goal.returns-then-args_are
returns-then-args_are c = search mine

pub returns : goal.returns
returns c = search mine
