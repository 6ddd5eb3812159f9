-- The fields of a legible line, read from the text: each two digits are a field.
--     field_is                             what the function on a field returns
--     fields-length, field-at              how many fields a line has, and where each stands
--     value-byte                           a field of a legible line is below 256
-- Assumes nothing.
use mathlib.Core.List.{List, [], ◌∷◌}
use mathlib.Core.Path.{◌≡◌, refl, ap, ◌∙◌}
use Prim.Native.Nat.{ℕ, zero, suc, ◌+◌, ◌-◌, ◌*◌, ◌/◌, ◌<◌, ◌≤◌}
use native.Mathlib.Omega.{arith}
use lib.ListN.{length, get_or, drop}
use lib.Seq.{get_or-take, get_or-drop}
use borrow.Author.Rules.{rules}
use Rattle.meaning.specs.Text.{digit, fields, field_at}
use Rattle.text_lines.specs.Lines.{Legible, value_at}
use Rattle.text_lines.proofs.Scan.{part, part_length}

pub field_is : (text : List ℕ) (at v w x y : ℕ) → v ≡ digit (get_or text at 0) → w ≡ v → x ≡ digit (get_or text (at + 1) 0) → y ≡ x
    → w * 16 + y ≡ value_at text at
unfolding value_at
field_is text at v w x y e f g h = rw (← e, ← g, f, h)

pub fields-length : (l : List ℕ) → length (fields l) ≡ length l / 2
unfolding fields
fields-length [] = refl
fields-length (a ∷ []) = refl
fields-length (a ∷ b ∷ l) = omega (arith, fields-length l)

fields_at : (k : ℕ) (l : List ℕ) → k * 2 + 1 < length l → field_at (fields l) k ≡ value_at l (k * 2)
unfolding fields value_at
fields_at k [] h = absurd (omega arith)
fields_at k (a ∷ []) h = absurd (omega arith)
fields_at zero (a ∷ b ∷ l) h = refl
fields_at (suc k) (a ∷ b ∷ l) h =
    let e : suc k * 2 ≡ suc (suc (k * 2)) = omega arith in
    let f : suc k * 2 + 1 ≡ suc (suc (k * 2 + 1)) = omega arith in
    fields_at k l (omega arith) ∙ rw (f, e)

abbrev pub fields_of : List ℕ → ℕ → ℕ → List ℕ
fields_of text at end = fields (part text at end)

module _ (text : List ℕ) (at end : ℕ) (g : Legible text at end) where
  long : length (part text at end) ≡ end - at
  long = part_length text at end (omega (arith, g.from)) (omega (arith, g.inside))

  pub fields-count : length (fields_of text at end) ≡ (end - at) / 2
  fields-count = fields-length (part text at end) ∙ ap (λ (n : ℕ). n / 2) long

  part_at : (k : ℕ) → k < end - at → get_or (part text at end) k 0 ≡ get_or text (at + k) 0
  part_at k h = get_or-take (end - at) (drop at text) k 0 h ∙ get_or-drop at text k 0

  pub field-at : (k : ℕ) → k * 2 + 1 < end - at → field_at (fields_of text at end) k ≡ value_at text (at + k * 2)
  unfolding value_at
  field-at k h =
      let e : at + (k * 2 + 1) ≡ at + k * 2 + 1 = omega arith in
      fields_at k (part text at end) (rw long h) ∙ rw (part_at (k * 2) (omega arith), part_at (k * 2 + 1) h, e)

  pub value-byte : (p : ℕ) → at ≤ p → p + 1 < end → value_at text p < 256
  unfolding value_at
  value-byte p a h = omega (arith, g.digits p a (omega arith), g.digits (p + 1) (omega arith) h)

pub ruleset mine = (rules, field_is)
