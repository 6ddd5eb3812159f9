-- Digits, bytes as two digits, and lines.
--     hex-append, length-hex, length-frame    how digits follow each other, and how many there are
--     Framing                                 some fields of a line are stored
-- Assumes nothing.
use mathlib.Core.List.{List, [], ◌∷◌, ◌++◌}
use mathlib.Core.Path.{◌≡◌, refl, sym, ap, ◌∙◌}
use Prim.Native.Nat.{ℕ, ◌+◌, ◌-◌, ◌*◌, ◌/◌, ◌%◌, ◌≤◌, ◌<◌}
use native.Mathlib.Numerals.{add-one}
use native.Mathlib.Omega.{arith}
use borrow.Author.Rules.{rules}
use borrow.Author.Tests.{lt-ltb, le-ltb}
use lib.ListN.{length, get_or, set, take, length-append, length-set}
use lib.Seq.{sets, length-sets, take-suc, take_all, length-take-le}
use Rattle.meaning.specs.Text.{linefeed}
use Rattle.meaning.specs.Writing.{digit_of, hex, frame}
use Rattle.reply_lines.specs.Pieces.{Put, LineRoom}
use Rattle.reply_lines.proofs.Stores.{sets-append}

pub digit_low : (v : ℕ) → v < 10 → 48 + v ≡ digit_of v
unfolding digit_of
digit_low v h = rw (digit_of, lt-ltb v 10 h)

pub digit-high : (v : ℕ) → 10 ≤ v → 65 + (v - 10) ≡ digit_of v
unfolding digit_of
digit-high v h = rw (digit_of, le-ltb v 10 h) (omega arith)

pub byte-stored : (l : List ℕ) (at b d e : ℕ) → d ≡ digit_of (b / 16) → e ≡ digit_of (b % 16) → set (set l at d) (at + 1) e ≡ sets l at (hex (b ∷ []))
unfolding hex
byte-stored l at b d e p q = rw (add-one at, p, q)

pub next-inside : (l : List ℕ) (at d : ℕ) → at + 2 ≤ length l → at + 1 < length (set l at d)
next-inside l at d h = omega (arith, length-set l at d)

pub hex-append : (l m : List ℕ) → hex (l ++ m) ≡ hex l ++ hex m
unfolding hex
hex-append [] m = refl
hex-append (b ∷ l) m = rw (hex-append l m)

pub length-hex : (l : List ℕ) → length (hex l) ≡ length l * 2
unfolding hex
length-hex [] = refl
length-hex (b ∷ l) = omega (arith, length-hex l)

pub length-frame : (l : List ℕ) → length (frame l) ≡ length l * 2 + 1
unfolding frame
length-frame l = length-append (hex l) (linefeed ∷ []) ∙ ap (λ (k : ℕ). k + 1) (length-hex l)

-- the first k of some fields are stored from a place on
pub record Framing (fields lent : List ℕ) (at k : ℕ) (after : List ℕ) : Type 0 where
  pub stored : after ≡ sets lent at (hex (take k fields))
  pub long : length after ≡ length lent

pub framing-start : (fields lent : List ℕ) (at : ℕ) → Framing fields lent at 0 lent
unfolding hex
framing-start fields lent at = record { stored = refl; long = refl }

pub framing-step : {fields lent after next : List ℕ} {at k : ℕ} → Framing fields lent at k after → k < length fields
    → next ≡ sets after (at + 2 * k) (hex (get_or fields k 0 ∷ [])) → Framing fields lent at (k + 1) next
framing-step {fields} {lent} {after} {next} {at} {k} f h e =
    record {
      stored =
          e ∙ ap (λ (m : List ℕ). sets m (at + 2 * k) p) f.stored ∙ ap (λ (j : ℕ). sets (sets lent at q) (at + j) p) there
          ∙ sym (sets-append q p lent at)
          ∙ ap (sets lent at) (sym (hex-append (take k fields) (get_or fields k 0 ∷ [])) ∙ ap hex (sym (take-suc fields k 0 h)))
          ∙ ap (λ (j : ℕ). sets lent at (hex (take j fields))) (sym (add-one k));
      long = ap length e ∙ length-sets after (at + 2 * k) p ∙ f.long;
    }
  where
    p : List ℕ
    p = hex (get_or fields k 0 ∷ [])

    q : List ℕ
    q = hex (take k fields)

    there : 2 * k ≡ length q
    there = omega (arith, length-hex (take k fields), length-take-le k fields (omega arith))

pub framing-done : (fields : List ℕ) {lent after : List ℕ} {at k n : ℕ} → length fields ≡ 8 → LineRoom n at lent → Framing (take n fields) lent at k after
    → length (take n fields) ≤ k → Put lent at (frame (take n fields)) (at + 2 * n + 1) (set after (at + 2 * n) 10)
unfolding frame
framing-done fields {lent} {after} {at} {k} {n} e r f h =
    record {
      place = omega (arith, length-frame p, size);
      stored =
          ap (λ (m : List ℕ). set m (at + 2 * n) 10) (f.stored ∙ ap (λ (l : List ℕ). sets lent at (hex l)) (take_all k p h))
          ∙ ap (λ (j : ℕ). set (sets lent at (hex p)) (at + j) 10) there ∙ sym (sets-append (hex p) (10 ∷ []) lent at);
    }
  where
    p : List ℕ
    p = take n fields

    size : length p ≡ n
    size = length-take-le n fields (omega (arith, r.few))

    there : 2 * n ≡ length (hex p)
    there = omega (arith, length-hex p, size)

pub ruleset mine = (rules, digit_low, digit-high, next-inside, byte-stored, framing-start, framing-step, framing-done)
