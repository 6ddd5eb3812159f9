-- Counts of bytes that were handed over, part by part.
--     counts-none, counts-both    nothing; one part and then another
-- Assumes nothing.
use Rattle.std.proofs.Common.{◌≡◌, ℕ, List, [], ◌++◌, ap, arith, length-append}
use Rattle.channels.specs.declared.output.Taken.{Taken}
use Rattle.channels.specs.Sending.{none_taken, both_of, Counts}

pub counts-none : Counts [] none_taken
counts-none = record { size = omega arith }

pub counts-both : (x y : List ℕ) (a b r : Taken) → r ≡ both_of a b → Counts x a → Counts y b → Counts (x ++ y) r
counts-both x y a b r e p q = record { size = omega (arith, ap (λ (t : Taken). t.count) e, p.size, q.size, length-append x y) }
