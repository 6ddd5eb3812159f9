use Prim.Native.Nat.{ℕ}
use mathlib.Core.Path.{◌≡◌, ap, ◌∙◌}
use lib.ListN.{length, length-set, length-replicate}
use Rattle.values.proofs.Chaining.{linked-start, linked-back}
use borrow.Author.Rules.{rules}
use native.Mathlib.Omega.{arith}
use Rattle.values.proofs.chain.link.Goals as goal

pub loop-i-init : goal.loop-i-init
loop-i-init c = (search rules, ap length c.ended-chains.ensures.0 ∙ length-replicate {A = ℕ} 256 255, ap length c.ended-chains.ensures.1 ∙ length-replicate {A = ℕ} 255 255, linked-start _ _ _ _ c.requires c.ended-chains.ensures.0)

pub loop-i-preserved : goal.loop-i-preserved
loop-i-preserved c = (omega arith, simp length-set c.loop-i.invariant.1, simp length-set c.loop-i.invariant.2, linked-back _ _ _ _ _ _ c.loop-i.invariant.3 c.loop-i-test.true c.loop-i.invariant.0 c.requires c.loop-i.invariant.1 c.loop-i.invariant.2 c.bucket-b.ensures (omega arith))

pub returns : goal.returns
returns c = let z : c.loop-i.i ≡ 0 = omega arith in rw z at c.loop-i.invariant.3
