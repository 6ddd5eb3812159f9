-- `grounds_numbers::table::fill` meets its contract. The invariant: the entries passed are filled.
-- Assumes nothing.
use Rattle.grounds_numbers.specs.Entries.{entries_of, entry_count}
use Rattle.grounds_numbers.proofs.Extending.{Filling}
use Rattle.grounds_numbers.proofs.table.fill.Given as goal

abbrev pub invariant-loop-e : goal.invariant-loop-e
invariant-loop-e l = Filling (entries_of l.rows l.asg l.patterns) (entry_count l.rows l.patterns) l.initial.keys l.initial.numbers l.keys l.numbers l.e
