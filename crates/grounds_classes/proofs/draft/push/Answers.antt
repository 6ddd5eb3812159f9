-- `grounds_classes::draft::push` meets its contract. There is room, or nothing is written.
-- Assumes nothing.
use Rattle.grounds_classes.proofs.Drafting.{mine}
use Rattle.grounds_classes.proofs.draft.push.Goals as goal

pub returns-then-not-has_room : goal.returns-then-not-has_room
returns-then-not-has_room c = search mine

pub bounds-cells-0 : goal.bounds-cells-0
bounds-cells-0 c = search mine

pub bounds-cells-p : goal.bounds-cells-p
bounds-cells-p c = search mine

pub bounds-cells-p-2 : goal.bounds-cells-p-2
bounds-cells-p-2 c = search mine

pub bounds-cells-p-3 : goal.bounds-cells-p-3
bounds-cells-p-3 c = search mine

pub bounds-cells-p-4 : goal.bounds-cells-p-4
bounds-cells-p-4 c = search mine

pub bounds-cells-p-5 : goal.bounds-cells-p-5
bounds-cells-p-5 c = search mine

pub bounds-cells-p-6 : goal.bounds-cells-p-6
bounds-cells-p-6 c = search mine

pub bounds-cells-p-7 : goal.bounds-cells-p-7
bounds-cells-p-7 c = search mine

pub overflow_cast-cells : goal.overflow_cast-cells
overflow_cast-cells c = search mine

pub bounds-cells-0-2 : goal.bounds-cells-0-2
bounds-cells-0-2 c = search mine

pub overflow_cast-result : goal.overflow_cast-result
overflow_cast-result c = search mine

pub returns : goal.returns
returns c = search mine
