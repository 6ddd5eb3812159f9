-- What is found at a place of a text: a run of digits, a line, a field.
--     Run, Legible, LineAt   where a run of digits ends; a legible line; what the search for a line's end answers
--     value_at                the field whose first digit stands at a place
-- Assumes nothing.
use Rattle.std.specs.Prelude.{false, Result, Ok, Err, List, ◌∷◌, ◌≡◌, ℕ, ◌+◌, ◌-◌, ◌*◌, ◌%◌, ◌<◌, ◌≤◌, min, length, get_or, drop}
use Rattle.meaning.specs.Text as T
use Rattle.meaning.specs.Text.{digit, lines_of, legible, bad_byte, furthest}
use Rattle.text_lines.specs.declared.lines.Illegible as I

-- the bytes from one place to before another are digits
abbrev pub Digits : List ℕ → ℕ → ℕ → Type 0
Digits text at end = (k : ℕ) → at ≤ k → k < end → digit (get_or text k 0) < 16

pub record Run (text : List ℕ) (at end : ℕ) : Type 0 where
  pub from : at ≤ end
  pub inside : end ≤ length text
  pub digits : Digits text at end
  pub stops : end < length text → 16 ≤ digit (get_or text end 0)

pub record Legible (text : List ℕ) (at end : ℕ) : Type 0 where
  pub from : at < end
  pub inside : end < length text
  pub digits : Digits text at end
  pub even : (end - at) % 2 ≡ 0
  pub feed : get_or text end 0 ≡ 10

-- the line that begins at a place is refused by 1, at a byte of it
pub record Illegible (text : List ℕ) (at offset : ℕ) : Type 0 where
  pub line : T.Line
  pub later : List T.Line
  pub lines : lines_of (drop at text) ≡ line ∷ later
  pub bad : legible line ≡ false
  pub byte : min furthest (bad_byte line) ≡ offset

abbrev pub LineAt : List ℕ → ℕ → Result ℕ I.Illegible → Type 0
LineAt text at (Ok end) = Legible text at end
LineAt text at (Err e) = Illegible text at e.byte

unfoldable pub value_at : List ℕ → ℕ → ℕ
value_at text at = digit (get_or text at 0) * 16 + digit (get_or text (at + 1) 0)
