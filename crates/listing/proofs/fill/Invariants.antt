-- `listing::fill` meets its contract. The invariant: what was written so far, that whatever follows from the state reached follows it, and what is known. The measure is the
-- room left.
-- Assumes nothing.
use Prim.Native.Nat.{◌-◌}
use lib.ListN.{length}
use Rattle.hunting.specs.Laid.{context_in, rule_in}
use Rattle.listing.specs.Filling.{Lent}
use Rattle.listing.proofs.Filling.{Filling}
use Rattle.listing.proofs.fill.Given as goal

abbrev pub invariant-loop-e : goal.invariant-loop-e
invariant-loop-e l = Lent l.l l.known × Filling (context_in l.l) l.l.table (rule_in l.l) l.initial.at l.initial.space l.used l.at l.space

abbrev pub decreases-loop-e : goal.decreases-loop-e
decreases-loop-e l = length l.space - l.used
