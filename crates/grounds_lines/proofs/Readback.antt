-- What `verify` reads of a line that was written is what it was written from.
--     byte-back                byte i of a line is the byte that was written
--     four-value, eight-value  a number's four or eight low bytes are the number, where it has no more
--     step-concludes, end-concludes           a step's line is none of a conclusion, and a conclusion's is
--     step-first, step-second, step-third     the three words of a step
--     end_back                 the fields of a conclusion
-- Assumes nothing.
use mathlib.Core.Bool.{true, false}
use mathlib.Core.List.{List, [], ◌∷◌, ◌++◌, map}
use mathlib.Core.Path.{◌≡◌, refl, ap₂, ◌∙◌}
use Prim.Native.Nat.{ℕ, zero, suc, ◌+◌, ◌*◌, ◌/◌, ◌%◌, ◌<◌}
use native.Mathlib.Omega.{arith}
use lib.Dec.{ltb, lit<}
use borrow.Author.Tests.{lt-ltb, eq-eqb}
use lib.ListN.{length, get_or}
use Rattle.meaning.specs.Rules.{Below}
use Rattle.meaning.specs.Text.{Line, digit}
use Rattle.meaning.specs.Writing.{digit_of, hex}
use Rattle.meaning.specs.Grounds.{Conclusion}
use Rattle.meaning.proofs.Lists.{below-append}
use Rattle.meaning.proofs.Lines.{digit_value, whole}
use Rattle.reply_lines.proofs.Lines.{length-hex}
use Rattle.grounds_intake.specs.Parsing.{all_digits, good_line, digits_of, byte_of, two_of, four_of, eight_of, formed, is_step, word_of, conclusion_of, concludes}
use Rattle.grounds_lines.specs.Lines.{octets, step_bytes, cited_bytes, end_bytes}

-- ---- bytes

octets-below : (n x : ℕ) → Below 256 (octets n x)
unfolding octets
octets-below zero x = tt
octets-below (suc n) x = below-append 256 (octets n (x / 256)) (x % 256 ∷ []) (octets-below n (x / 256)) (omega arith, tt)

pub byte-back : (l : List ℕ) (i : ℕ) → Below 256 l → byte_of (map digit (hex l)) i ≡ get_or l i 0
unfolding byte_of hex
byte-back [] i h = refl
byte-back (b ∷ l) zero h =
    let p : digit (digit_of (b / 16)) ≡ b / 16 = digit_value (b / 16) (omega (arith, h.0)) in
    let q : digit (digit_of (b % 16)) ≡ b % 16 = digit_value (b % 16) (omega arith) in
    rw (p, q) (omega (arith, h.0))
byte-back (b ∷ l) (suc i) h =
    let e : suc i * 2 ≡ suc (suc (i * 2)) = omega arith in
    let f : suc i * 2 + 1 ≡ suc (suc (i * 2 + 1)) = omega arith in
    ap₂ (λ (j k : ℕ). (get_or (map digit (hex (b ∷ l))) j 0 * 16 + get_or (map digit (hex (b ∷ l))) k 0) % 256) e f ∙ byte-back l i h.1

digits-all : (l : List ℕ) → Below 256 l → all_digits (hex l) ≡ true
unfolding all_digits hex
digits-all [] h = refl
digits-all (b ∷ l) h =
    let p : ltb (digit (digit_of (b / 16))) 16 ≡ true = lt-ltb (digit (digit_of (b / 16))) 16 (omega (arith, h.0, digit_value (b / 16) (omega (arith, h.0)))) in
    let q : ltb (digit (digit_of (b % 16))) 16 ≡ true = lt-ltb (digit (digit_of (b % 16))) 16 (omega (arith, digit_value (b % 16) (omega arith))) in
    rw (p, q) (digits-all l h.1)

-- ---- numbers

pub four-value : (x : ℕ) → x < 4294967296 → (x / 256 / 256 / 256 % 256 * 256 + x / 256 / 256 % 256) * 65536 + (x / 256 % 256 * 256 + x % 256) ≡ x
four-value x h = omega arith

pub eight-value : (x : ℕ) → x < 18446744073709551616
    → ((x / 256 / 256 / 256 / 256 / 256 / 256 / 256 % 256 * 256 + x / 256 / 256 / 256 / 256 / 256 / 256 % 256) * 65536 + (x / 256 / 256 / 256 / 256 / 256 % 256 * 256 + x / 256 / 256 / 256 / 256 % 256)) * 4294967296 + ((x / 256 / 256 / 256 % 256 * 256 + x / 256 / 256 % 256) * 65536 + (x / 256 % 256 * 256 + x % 256)) ≡ x
eight-value x h = omega arith

byte-value : (x : ℕ) → x < 256 → x % 256 ≡ x
byte-value x h = omega arith

pub two-value : (x : ℕ) → x < 65536 → x / 256 % 256 * 256 + x % 256 ≡ x
two-value x h = omega arith

module _ (l : List ℕ) (k : ℕ) (h : Below 256 l) where
  two_at : two_of (map digit (hex l)) k ≡ get_or l k 0 * 256 + get_or l (k + 1) 0
  unfolding two_of
  two_at = rw (byte-back l k h, byte-back l (k + 1) h) refl

module _ (l : List ℕ) (k : ℕ) (h : Below 256 l) where
  four-at : four_of (map digit (hex l)) k ≡ (get_or l k 0 * 256 + get_or l (k + 1) 0) * 65536 + (get_or l (k + 2) 0 * 256 + get_or l (k + 2 + 1) 0)
  unfolding four_of
  four-at = rw (two_at l k h, two_at l (k + 2) h) refl

module _ (l : List ℕ) (k : ℕ) (h : Below 256 l) where
  eight-at : eight_of (map digit (hex l)) k
      ≡ ((get_or l k 0 * 256 + get_or l (k + 1) 0) * 65536 + (get_or l (k + 2) 0 * 256 + get_or l (k + 2 + 1) 0)) * 4294967296
      + ((get_or l (k + 4) 0 * 256 + get_or l (k + 4 + 1) 0) * 65536 + (get_or l (k + 4 + 2) 0 * 256 + get_or l (k + 4 + 2 + 1) 0))
  unfolding eight_of
  eight-at = rw (four-at l k h, four-at l (k + 4) h) refl

-- ---- lines

good-line : (l : List ℕ) → Below 256 l → good_line (whole (hex l)) ≡ true
unfolding good_line
good-line l h = digits-all l h

-- a line of so many bytes whose first is the kind
formed-line : (kind : ℕ) (l : List ℕ) → Below 256 (kind ∷ l) → formed kind (length (kind ∷ l) * 2) (good_line (whole (hex (kind ∷ l)))) (length (hex (kind ∷ l))) (digits_of (whole (hex (kind ∷ l)))) ≡ true
unfolding formed digits_of
formed-line kind l h =
    rw (good-line (kind ∷ l) h, length-hex (kind ∷ l), byte-back (kind ∷ l) 0 h, eq-eqb (length (kind ∷ l) * 2) (length (kind ∷ l) * 2) refl, eq-eqb kind kind refl) refl

-- ---- a step

module _ (x y z : ℕ) where
  abbrev step_line : Line
  step_line = whole (hex (step_bytes x y z))

  pub step-below : Below 256 (step_bytes x y z)
  unfolding step_bytes
  step-below =
      (lit< tt, below-append 256 (octets 8 x) (octets 8 y ++ octets 8 z) (octets-below 8 x) (below-append 256 (octets 8 y) (octets 8 z) (octets-below 8 y) (octets-below 8 z)))

  is-step : is_step (good_line step_line) (length step_line.bytes) (digits_of step_line) ≡ true
  unfolding step_bytes octets
  is-step = formed-line 176 (octets 8 x ++ (octets 8 y ++ octets 8 z)) step-below

  pub step-concludes : concludes step_line ≡ false
  unfolding formed step_bytes octets
  step-concludes = rw (good-line (step_bytes x y z) step-below, length-hex (step_bytes x y z)) refl

  word_at : (i : ℕ) → word_of (good_line step_line) (length step_line.bytes) (digits_of step_line) i ≡ eight_of (digits_of step_line) (i * 8 + 1)
  unfolding word_of
  word_at i = rw is-step refl

  pub step-first : x < 18446744073709551616 → word_of (good_line step_line) (length step_line.bytes) (digits_of step_line) 0 ≡ x
  unfolding digits_of step_bytes octets
  step-first h = word_at 0 ∙ eight-at (step_bytes x y z) 1 step-below ∙ eight-value x h

  pub step-second : y < 18446744073709551616 → word_of (good_line step_line) (length step_line.bytes) (digits_of step_line) 1 ≡ y
  unfolding digits_of step_bytes octets
  step-second h = word_at 1 ∙ eight-at (step_bytes x y z) 9 step-below ∙ eight-value y h

  pub step-third : z < 18446744073709551616 → word_of (good_line step_line) (length step_line.bytes) (digits_of step_line) 2 ≡ z
  unfolding digits_of step_bytes octets
  step-third h = word_at 2 ∙ eight-at (step_bytes x y z) 17 step-below ∙ eight-value z h

-- ---- a conclusion

pub record Narrow (c : Conclusion) : Type 0 where
  pub literal : c.literal < 256
  pub first : c.first < 4294967296
  pub difference : c.difference < 65536

module _ (c : Conclusion) where
  abbrev end_line : Line
  end_line = whole (hex (end_bytes c))

  end_below : Below 256 (end_bytes c)
  unfolding end_bytes cited_bytes
  end_below = (
    lit< tt,
    below-append 256 (octets 1 c.literal) (octets 4 c.first ++ (octets 4 0 ++ (octets 2 c.difference ++ octets 1 0))) (octets-below 1 c.literal)
        (below-append 256 (octets 4 c.first) (octets 4 0 ++ (octets 2 c.difference ++ octets 1 0)) (octets-below 4 c.first)
        (below-append 256 (octets 4 0) (octets 2 c.difference ++ octets 1 0) (octets-below 4 0)
        (below-append 256 (octets 2 c.difference) (octets 1 0) (octets-below 2 c.difference) (octets-below 1 0)))),
  )

  pub end-concludes : concludes end_line ≡ true
  unfolding end_bytes cited_bytes octets
  end-concludes = formed-line 177 (octets 1 c.literal ++ cited_bytes c.first c.difference) end_below

  pub end_back : Narrow c → conclusion_of (digits_of end_line) ≡ c
  unfolding conclusion_of digits_of end_bytes cited_bytes octets
  end_back n =
      rw (byte-back (end_bytes c) 1 end_below, four-at (end_bytes c) 2 end_below, two_at (end_bytes c) 10 end_below, four-value c.first n.first, two-value c.difference n.difference, byte-value c.literal n.literal) refl
