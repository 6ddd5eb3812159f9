-- Loops that end at the first place where a test fails.
--     Running    the test holds at the places passed
-- Assumes nothing.
use mathlib.Core.Bool.{Bool, true}
use mathlib.Core.Path.{◌≡◌}
use Prim.Native.Nat.{ℕ, ◌≤◌, ◌<◌}

pub record Running (test : ℕ → Bool) (n i : ℕ) : Type 0 where
  pub most : i ≤ n
  pub before : (j : ℕ) → j < i → test j ≡ true
