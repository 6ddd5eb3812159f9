-- The digit value of a byte, by where the byte stands among the digits.
--     digit-below, digit-between, digit-above    a byte that is no digit has the value 255
--     number .. above     the look-up's ways out
--     value-is            the value is the rule's
-- Assumes nothing.
use mathlib.Core.Bool.{Bool, true, false, cond}
use mathlib.Core.Path.{◌≡◌, refl, sym}
use Prim.Native.Nat.{ℕ, ◌+◌, ◌-◌, ◌≤◌, ◌<◌}
use native.Mathlib.Omega.{arith}
use lib.Dec.{ltb}
use borrow.Author.Rules.{rules}
use borrow.Author.Tests.{le-leb, lt-leb, lt-ltb, ltb-true, ltb-false}
use Rattle.std.specs.Prelude.{Option, Some, None}
use Rattle.std.specs.Option.{unwrap_or}
use Rattle.meaning.specs.Text.{digit, within}
use Rattle.text_lines.specs.Digits.{digit_of}

inside : (a c b : ℕ) → a ≤ b → b ≤ c → within a c b ≡ true
inside a c b h k = rw (le-leb a b h, le-leb b c k)

under : (a c b : ℕ) → b < a → within a c b ≡ false
under a c b h = rw (lt-leb a b h)

over : (a c b : ℕ) → a ≤ b → c < b → within a c b ≡ false
over a c b h k = rw (le-leb a b h, lt-leb b c k)

digit-number : (b : ℕ) → 48 ≤ b → b ≤ 57 → digit b ≡ b - 48
unfolding digit
digit-number b h k = rw (digit, inside 48 57 b h k)

digit-letter : (b : ℕ) → 65 ≤ b → b ≤ 70 → digit b ≡ b - 55
unfolding digit
digit-letter b h k = rw (digit, over 48 57 b (omega (arith, h)) (omega (arith, h)), inside 65 70 b h k)

pub digit-below : (b : ℕ) → b < 48 → digit b ≡ 255
unfolding digit
digit-below b h = rw (digit, under 48 57 b h, under 65 70 b (omega (arith, h)))

pub digit-between : (b : ℕ) → 57 < b → b < 65 → digit b ≡ 255
unfolding digit
digit-between b h k = rw (digit, over 48 57 b (omega (arith, h)) h, under 65 70 b k)

pub digit-above : (b : ℕ) → 70 < b → digit b ≡ 255
unfolding digit
digit-above b h = rw (digit, over 48 57 b (omega (arith, h)) (omega (arith, h)), over 65 70 b (omega (arith, h)) h)

pub number : (b : ℕ) → 48 ≤ b → b ≤ 57 → Some (b - 48) ≡ digit_of b
unfolding digit_of
number b h k = let e = digit-number b h k in let s : b - 48 < 16 = omega arith in rw (e, lt-ltb _ _ s)

pub letter : (b : ℕ) → 65 ≤ b → b ≤ 70 → Some (b - 65 + 10) ≡ digit_of b
unfolding digit_of
letter b h k =
    let e = digit-letter b h k in
    let s : b - 55 < 16 = omega arith in
    let f : b - 65 + 10 ≡ b - 55 = omega arith in
    rw (e, lt-ltb _ _ s, f)

module _ (b : ℕ) where
  no-digit : digit b ≡ 255 → ◌≡◌ {A = Option ℕ} None (digit_of b)
  unfolding digit_of
  no-digit e = rw e

  pub below : b < 48 → ◌≡◌ {A = Option ℕ} None (digit_of b)
  below h = no-digit (digit-below b h)

  pub between : 57 < b → b < 65 → ◌≡◌ {A = Option ℕ} None (digit_of b)
  between h k = no-digit (digit-between b h k)

  pub above : 70 < b → ◌≡◌ {A = Option ℕ} None (digit_of b)
  above h = no-digit (digit-above b h)

-- a byte that has no value below 16 has 255
no-value : (b : ℕ) → 16 ≤ digit b → digit b ≡ 255
no-value b h = first (ltb b 48) refl
  where
    last : 65 ≤ b → (t : Bool) → ltb 70 b ≡ t → digit b ≡ 255
    last k true e = digit-above b (ltb-true 70 b e)
    last k false e = let m = ltb-false 70 b e in let g = digit-letter b k m in absurd (omega arith)

    third : 57 < b → (t : Bool) → ltb b 65 ≡ t → digit b ≡ 255
    third k true e = digit-between b k (ltb-true b 65 e)
    third k false e = last (ltb-false b 65 e) (ltb 70 b) refl

    second : 48 ≤ b → (t : Bool) → ltb 57 b ≡ t → digit b ≡ 255
    second k true e = third (ltb-true 57 b e) (ltb b 65) refl
    second k false e = let m = ltb-false 57 b e in let g = digit-number b k m in absurd (omega arith)

    first : (t : Bool) → ltb b 48 ≡ t → digit b ≡ 255
    first true e = digit-below b (ltb-true b 48 e)
    first false e = second (ltb-false b 48 e) (ltb 57 b) refl

pub value-is : (b : ℕ) (o : Option ℕ) → o ≡ digit_of b → unwrap_or o 255 ≡ digit b
unfolding digit_of
value-is b o e = rw e (go (ltb (digit b) 16) refl)
  where
    go : (t : Bool) → ltb (digit b) 16 ≡ t → unwrap_or (cond t (Some (digit b)) None) 255 ≡ digit b
    go true h = refl
    go false h = sym (no-value b (ltb-false _ _ h))

pub ruleset mine = (rules, value-is)

pub ruleset ways = (number, letter, below, between, above)
