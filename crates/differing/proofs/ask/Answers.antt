-- `differing::ask` meets its contract. A number that is no row's differs from nothing, and of two rows it is asked either way round.
-- Assumes nothing.
use Rattle.differing.proofs.Knowing.{mine}
use Rattle.differing.proofs.ask.Goals as goal

pub returns-then-rows-x : goal.returns-then-rows-x
returns-then-rows-x c = record { value = search mine; knows_2 = search mine }

pub returns-then-rows-y : goal.returns-then-rows-y
returns-then-rows-y c = record { value = search mine; knows_2 = search mine }

pub look-requires : goal.look-requires
look-requires c = record { closed_by = c.requires.closed_by; knows = c.requires.knows; x_lt_rows = (search mine, search mine) }

pub returns-then-y-x : goal.returns-then-y-x
returns-then-y-x c = record { value = search mine; knows_2 = c.look.ensures.knows_2 }

pub look-requires-2 : goal.look-requires-2
look-requires-2 c = record { closed_by = c.requires.closed_by; knows = c.requires.knows; x_lt_rows = (search mine, search mine) }

pub returns : goal.returns
returns c = record { value = c.look-2.ensures.value; knows_2 = c.look-2.ensures.knows_2 }
