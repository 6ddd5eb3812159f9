-- What one legible line of a kind adds, or its fault, by the fields at their places: tests 5 to 7.
--     pair_in, variable_in      two rows; a variable
--     term_in                  a symbol over rows
--     entry_as                 any of these as an entry
-- Assumes nothing.
use Rattle.std.specs.Prelude.{Bool, List, ℕ, ◌+◌, eqb, ltb, Result, Ok, Err, cond}
use Rattle.std.specs.Option.{ok_or}
use Rattle.text_lines.specs.Given.{given}
use Rattle.text_lines.specs.Lines.{value_at}
use Rattle.text_lines.specs.Entries.{found_in, term_from}
use Rattle.text_lines.specs.declared.entries.NoRow.{NoRow}
use Rattle.text_lines.specs.declared.entries.Pair.{Pair}
use Rattle.text_lines.specs.declared.entries.Term.{Term}
use Rattle.runs.specs.Limits.{most_variables, arg_places}
use Rattle.text_reader.specs.Agree.{clashes_in}
use Rattle.text_reader.specs.declared.entries.Entry.{Entry}
use Rattle.text_reader.specs.declared.faults.Fault.{Fault}
use Rattle.text_reader.specs.declared.faults.Fault.TheVariants.{NoRoom, RowMissing, OtherCount}

-- the field whose first digit is byte o of the line names a row, or is refused
abbrev pub row_of : ℕ → ℕ → ℕ → Result ℕ Fault
row_of o n v = ok_or (found_in n v) (RowMissing o)

unfoldable pub pair_in : List ℕ → ℕ → Bool → ℕ → Result Pair Fault
pair_in text at room n =
    cond room
    (given (row_of 2 n (value_at text (at + 2))) (λ p. given (row_of 4 n (value_at text (at + 4))) (λ q. Ok (record { left = p; right = q }))))
    (Err NoRoom)

unfoldable pub variable_in : List ℕ → ℕ → Bool → Result ℕ Fault
variable_in text at room =
    cond room (cond (ltb (value_at text (at + 2)) most_variables) (Ok (value_at text (at + 2))) (Err NoRoom)) (Err NoRoom)

abbrev pub rows_named : Result Term NoRow → Result Term Fault
rows_named (Ok t) = Ok t
rows_named (Err e) = Err (RowMissing e.byte)

abbrev pub agreeing : (ℕ → ℕ → ℕ) → Result Term Fault → Result Term Fault
agreeing clashes (Ok t) = cond (eqb (clashes t.head t.count) 0) (Ok t) (Err OtherCount)
agreeing clashes (Err f) = Err f

unfoldable pub term_in : List ℕ → ℕ → ℕ → Bool → ℕ → List ℕ → List ℕ → ℕ → Result Term Fault
term_in text at count room n symbols counts m =
    agreeing (λ f k. clashes_in symbols counts f k m)
    (cond room (cond (ltb arg_places count) (Err NoRoom) (rows_named (term_from text at count n))) (Err NoRoom))

abbrev pub entry_as : {A : Type 0} → (A → Entry) → Result A Fault → Result Entry Fault
entry_as make (Ok x) = Ok (make x)
entry_as make (Err f) = Err f
