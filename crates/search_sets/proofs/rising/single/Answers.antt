-- `search_sets::rising::single` meets its contract.
-- Assumes nothing.
use native.Mathlib.Omega.{arith}
use Rattle.search_sets.proofs.rising.single.Goals as goal

pub overflow_add-first : goal.overflow_add-first
overflow_add-first c = omega (arith, c.in-Some.ensures.within, c.requires.1)
