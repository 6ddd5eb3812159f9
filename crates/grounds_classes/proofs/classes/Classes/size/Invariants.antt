-- `grounds_classes::classes::Classes::size` meets its contract. The invariant: the first z entries are counted.
-- Assumes nothing.
use Rattle.grounds_classes.proofs.Classing.{Counting}
use Rattle.grounds_classes.proofs.classes.Classes.size.Given as goal

abbrev pub invariant-loop-z : goal.invariant-loop-z
invariant-loop-z l = Counting l.self.table.now l.p l.n l.count l.z
