-- `differing::look` meets its contract. A mark that tells something is right, and an answer that is noted is the one of that pair.
-- Assumes nothing.
use Rattle.differing.proofs.Knowing.{low, startable, mine}
use native.Mathlib.Omega.{arith}
use Rattle.differing.proofs.look.Goals as goal

pub place-k-requires : goal.place-k-requires
place-k-requires c = low _ _ _ _ _ _ _ _ _ _ c.requires.closed_by _ _ c.requires.x_lt_rows

pub bounds-known-k : goal.bounds-known-k
bounds-known-k c = let l = low _ _ _ _ _ _ _ _ _ _ c.requires.closed_by _ _ c.requires.x_lt_rows in omega (arith, c.place-k.ensures, l.0, l.1)

pub returns-in-1 : goal.returns-in-1
returns-in-1 c = record { value = search mine; knows_2 = search mine }

pub returns-in-2 : goal.returns-in-2
returns-in-2 c = record { value = search mine; knows_2 = search mine }

pub clashes_ready-b-requires : goal.clashes_ready-b-requires
clashes_ready-b-requires c =
    let s = startable _ _ _ _ _ _ _ _ _ _ c.requires.closed_by in
    record { fit_rows = s.0; orderly = s.1 }

pub bounds-known-k-2 : goal.bounds-known-k-2
bounds-known-k-2 c =
    let l = low _ _ _ _ _ _ _ _ _ _ c.requires.closed_by _ _ c.requires.x_lt_rows in
    omega (arith, c.place-k.ensures, l.0, l.1)

pub returns : goal.returns
returns c = record { value = search mine; knows_2 = search mine }
