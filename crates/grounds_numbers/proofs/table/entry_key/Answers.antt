-- `grounds_numbers::table::entry_key` meets its contract: the context's rows come first; a variable has the key of its row, and a symbol a key of its own.
-- Assumes nothing.
use Rattle.grounds_numbers.proofs.Extending.{mine}
use Rattle.grounds_numbers.proofs.table.entry_key.Goals as goal

pub returns-then-e-n : goal.returns-then-e-n
returns-then-e-n c = search mine

pub bounds-asg-v : goal.bounds-asg-v
bounds-asg-v c = search mine

pub held_key-requires-clause-i_bound : goal.held_key-requires-clause-i_bound
held_key-requires-clause-i_bound c = search mine

pub held_key-requires-clause-i_bound_2 : goal.held_key-requires-clause-i_bound_2
held_key-requires-clause-i_bound_2 c = search mine

pub returns-then-is_variable : goal.returns-then-is_variable
returns-then-is_variable c = search mine

pub pattern_key-requires-clause-offset_in_bounds : goal.pattern_key-requires-clause-offset_in_bounds
pattern_key-requires-clause-offset_in_bounds c = search mine

pub returns : goal.returns
returns c = search mine
