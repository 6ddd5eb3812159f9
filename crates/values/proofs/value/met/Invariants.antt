-- `values::value::met` meets its contract.
-- Assumes nothing.
use lib.ListN.{take}
use Rattle.columns.specs.Lent.{patterns_in}
use Rattle.values.proofs.Reading.{Meeting}
use Rattle.values.proofs.value.met.Given as goal

abbrev pub invariant-loop-j : goal.invariant-loop-j
invariant-loop-j l = Meeting (patterns_in l.reading.patterns) l.symbol (take l.count l.wanted) l.values l.other l.order l.read l.j
