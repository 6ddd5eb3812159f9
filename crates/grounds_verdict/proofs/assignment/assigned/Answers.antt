-- `grounds_verdict::assignment::assigned` meets its contract. A place past the four has no row.
-- Assumes nothing.
use Rattle.grounds_verdict.proofs.Assigning.{mine}
use Rattle.grounds_verdict.proofs.assignment.assigned.Goals as goal

pub returns-then-v-lt-VARIABLES : goal.returns-then-v-lt-VARIABLES
returns-then-v-lt-VARIABLES c = search mine

pub returns-else-v-lt-VARIABLES : goal.returns-else-v-lt-VARIABLES
returns-else-v-lt-VARIABLES c = search mine
