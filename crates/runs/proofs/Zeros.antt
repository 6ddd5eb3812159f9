-- Runs of zeros.
--     drop-zeros    zeros without the first few are zeros
-- Assumes nothing.
use mathlib.Core.Path.{◌≡◌}
use Prim.Native.Nat.{ℕ, zero, suc, ◌-◌}
use native.Mathlib.Omega.{arith}
use lib.ListN.{drop, replicate}

pub drop-zeros : (n w : ℕ) → drop {A = ℕ} n (replicate w 0) ≡ replicate (w - n) 0
drop-zeros zero w = let e : w - 0 ≡ w = omega arith in rw e
drop-zeros (suc n) zero = let e : 0 - suc n ≡ 0 = omega arith in rw e
drop-zeros (suc n) (suc w) = let e : suc w - suc n ≡ w - n = omega arith in rw e (drop-zeros n w)
