-- What the fields of a legible line name, or the byte of the field that names no row.
--     found_in, row_from, argument_of     the look-up of a row, and of an argument
--     TermLine, TwoFields               what is asked of a line with a symbol, and of a symbol
--     symbol_at, term_from               a symbol, and a symbol over rows, where each is there
-- Assumes nothing.
use Rattle.std.specs.Prelude.{List, [], ◌∷◌, ◌≡◌, ℕ, ◌+◌, ◌-◌, ◌*◌, ◌<◌, ltb, length, Option, Some, None, Result, Ok, cond}
use Rattle.std.specs.Option.{ok_or}
use Rattle.text_lines.specs.Given.{given}
use Rattle.text_lines.specs.Lines.{Legible, value_at}
use Rattle.text_lines.specs.declared.entries.NoRow.{NoRow}
use Rattle.text_lines.specs.declared.entries.Term.{Term}

abbrev pub found_in : ℕ → ℕ → Option ℕ
found_in n v = cond (ltb v n) (Some v) None

-- the field whose first digit is byte o names a row, or is refused
abbrev pub row_from : ℕ → ℕ → ℕ → Result ℕ NoRow
row_from o n v = ok_or (found_in n v) (record { byte = o })

-- argument k of the line at a place, or 0 past the last
unfoldable pub argument_of : List ℕ → ℕ → ℕ → ℕ → ℕ → Result ℕ NoRow
argument_of text at k count n = cond (ltb k count) (row_from (8 + k * 2) n (value_at text (at + 8 + k * 2))) (Ok 0)

-- a legible line that is as long as a line with so many arguments
pub record TermLine (text : List ℕ) (at end count : ℕ) : Type 0 where
  pub legible : Legible text at end
  pub size : end - at ≡ 8 + count * 2

-- two fields, each below 256
pub record TwoFields (text : List ℕ) (at : ℕ) : Type 0 where
  pub inside : at + 3 < length text
  pub high : value_at text at < 256
  pub low : value_at text (at + 2) < 256

unfoldable pub symbol_at : List ℕ → ℕ → ℕ
symbol_at text at = value_at text at * 256 + value_at text (at + 2)

unfoldable pub term_from : List ℕ → ℕ → ℕ → ℕ → Result Term NoRow
term_from text at count n =
    given (argument_of text at 0 count n)
    (λ a. given (argument_of text at 1 count n)
    (λ b. given (argument_of text at 2 count n)
    (λ c. given (argument_of text at 3 count n)
    (λ d. Ok (record { head = symbol_at text (at + 2); count = count; places = a ∷ b ∷ c ∷ d ∷ [] })))))
