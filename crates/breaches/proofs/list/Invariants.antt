-- `breaches::list` meets its contract. The invariant: what was handed over so far and what is to come are all. Each piece leaves fewer lines to be written.
-- Assumes nothing.
use Rattle.hunting.specs.Laid.{context_in, rule_in}
use Rattle.listing.specs.Filling.{Lent}
use Rattle.listing.proofs.Ending.{left_of}
use Rattle.breaches.proofs.Going.{Listed}
use Rattle.breaches.proofs.list.Given as goal

abbrev pub invariant-loop-l : goal.invariant-loop-l
invariant-loop-l g l = Lent l.l l.known × Listed (context_in l.l) l.l.table (rule_in l.l) l.initial.state l.state l.taken

abbrev pub decreases-loop-l : goal.decreases-loop-l
decreases-loop-l g l = left_of (context_in l.l) l.l.table (rule_in l.l) l.state
