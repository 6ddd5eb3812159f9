-- How many records there is room for: all, or none of more than 255.
--     room-none, room-all      the two cases
--     room-few, room_fits      it is no more than there are, and no more than 255
-- Assumes nothing.
use mathlib.Core.Bool.{Bool, true, false}
use mathlib.Core.Path.{◌≡◌, refl}
use Prim.Native.Nat.{ℕ, ◌≤◌, ◌<◌}
use native.Mathlib.Omega.{arith}
use lib.Dec.{ltb}
use borrow.Author.Tests.{ltb-true, ltb-false}
use Rattle.records.specs.Layouts.{room}

pub room-none : (n : ℕ) → 255 < n → room n ≡ 0
unfolding room
room-none n l = go (ltb 255 n) refl
  where
    go : (b : Bool) → ltb 255 n ≡ b → room n ≡ 0
    go true e = rw (e, room) refl
    go false e = absurd (omega (arith, ltb-false 255 n e, l))

pub room-all : (n : ℕ) → n ≤ 255 → room n ≡ n
unfolding room
room-all n l = go (ltb 255 n) refl
  where
    go : (b : Bool) → ltb 255 n ≡ b → room n ≡ n
    go true e = absurd (omega (arith, ltb-true 255 n e, l))
    go false e = rw (e, room) refl

pub room-few : (n : ℕ) → room n ≤ n
room-few n = go (ltb 255 n) refl
  where
    go : (b : Bool) → ltb 255 n ≡ b → room n ≤ n
    go true e = omega (arith, room-none n (ltb-true 255 n e))
    go false e = omega (arith, room-all n (ltb-false 255 n e))

pub room_fits : (n : ℕ) → room n ≤ 255
room_fits n = go (ltb 255 n) refl
  where
    go : (b : Bool) → ltb 255 n ≡ b → room n ≤ 255
    go true e = omega (arith, room-none n (ltb-true 255 n e))
    go false e = omega (arith, room-all n (ltb-false 255 n e), ltb-false 255 n e)
