-- Bytes that stand at the front of a space.
--     front_fits     there are no more of them than the space has
--     front-taken    they are its first bytes
--     first_count    so many first bytes are so many
-- Assumes nothing.
use Rattle.std.proofs.Common.{◌≡◌, ℕ, ◌≤◌, List, ◌++◌, length, take, sym, ap, ◌∙◌, arith, length-append, length-take-le, take_at}

module _ (line rest space : List ℕ) (n : ℕ) (size : n ≡ length line) (front : space ≡ line ++ rest) where
  pub front_fits : n ≤ length space
  front_fits = omega (arith, ap length front, length-append line rest)

  pub front-taken : take n space ≡ line
  front-taken = ap (take n) front ∙ take_at line rest n (sym size)

pub first_count : (space : List ℕ) (n : ℕ) → n ≤ length space → n ≡ length (take n space)
first_count space n h = sym (length-take-le n space h)
