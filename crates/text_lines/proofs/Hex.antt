-- What the look-up of a digit says of the byte.
--     digit-some, digit-none    it has a value, or none
-- Assumes nothing.
use mathlib.Core.Bool.{Bool, true, false, cond}
use mathlib.Core.Path.{◌≡◌, refl}
use Prim.Native.Nat.{ℕ, ◌<◌, ◌≤◌}
use lib.Dec.{ltb}
use borrow.Author.Tests.{ltb-true, ltb-false}
use Rattle.std.specs.Prelude.{Some, None, is_some}
use Rattle.meaning.specs.Text.{digit}
use Rattle.text_lines.specs.Digits.{digit_of}

pub digit-some : (b : ℕ) → is_some (digit_of b) ≡ true → digit b < 16
unfolding digit_of
digit-some b = go (ltb (digit b) 16) refl
  where
    go : (t : Bool) → ltb (digit b) 16 ≡ t → is_some (cond t (Some (digit b)) None) ≡ true → digit b < 16
    go true h e = ltb-true _ _ h
    go false h e = cc

pub digit-none : (b : ℕ) → is_some (digit_of b) ≡ false → 16 ≤ digit b
unfolding digit_of
digit-none b = go (ltb (digit b) 16) refl
  where
    go : (t : Bool) → ltb (digit b) 16 ≡ t → is_some (cond t (Some (digit b)) None) ≡ false → 16 ≤ digit b
    go true h e = cc
    go false h e = ltb-false _ _ h
