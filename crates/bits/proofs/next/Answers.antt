-- `bits::next` meets its contract: past the words, in the word of the bound, or after it.
-- Assumes nothing.
use mathlib.Core.Path.{refl}
use borrow.Author.Rules.{rules}
use Rattle.bits.proofs.Loops.{next_here, next-after, next-after-none}
use Rattle.bits.proofs.next.Goals as goal

pub returns-then-x-gt0 : goal.returns-then-x-gt0
returns-then-x-gt0 c = next_here _ _ _ _ _ _ _ _ _ refl (search rules) refl c.above-x.ensures c.low.ensures refl

pub returns-in_err-r : goal.returns-in_err-r
returns-in_err-r c =
    rw c.from_residual.ensures (next-after-none _ _ _ _ _ _ _ _ refl (search rules) refl c.above-x.ensures (search rules) refl c.in_err-r.ensures)

pub returns : goal.returns
returns c = next-after _ _ _ _ _ _ _ _ refl (search rules) refl c.above-x.ensures (search rules) refl _ _ c.in_ok-r.ensures refl
