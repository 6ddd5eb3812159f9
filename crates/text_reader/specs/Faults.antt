-- The refusal of a fault: its number, and the byte of the line that it names.
-- Assumes nothing.
use Rattle.std.specs.Prelude.{ℕ}
use Rattle.replies.specs.declared.Refusal.{Refusal}
use Rattle.text_reader.specs.declared.faults.Fault.{Fault}
use Rattle.text_reader.specs.declared.faults.Fault.TheVariants.{Illegible, UnlistedKind, WrongLength, LowerRank, NoRoom, RowMissing, OtherCount}

abbrev pub number_of : Fault → ℕ
number_of (Illegible o) = 1
number_of UnlistedKind = 2
number_of WrongLength = 3
number_of LowerRank = 4
number_of NoRoom = 5
number_of (RowMissing o) = 6
number_of OtherCount = 7

abbrev pub byte_of : Fault → ℕ
byte_of (Illegible o) = o
byte_of UnlistedKind = 0
byte_of WrongLength = 0
byte_of LowerRank = 0
byte_of NoRoom = 0
byte_of (RowMissing o) = o
byte_of OtherCount = 0

abbrev pub refusal_of : ℕ → Fault → Refusal
refusal_of line f = record { number = number_of f; line = line; offset = byte_of f }
