-- `grounds_classes::classes::Classes::carry_all` meets its contract. The invariant: the first z entries are carried.
-- Assumes nothing.
use Rattle.grounds_laws.specs.Classes.{carry}
use Rattle.grounds_classes.proofs.Classing.{Through}
use Rattle.grounds_classes.proofs.classes.Classes.carry_all.Given as goal

abbrev pub invariant-loop-z : goal.invariant-loop-z
invariant-loop-z l = Through (carry l.e.step l.e.left l.e.right) l.n l.initial.self l.self l.z
