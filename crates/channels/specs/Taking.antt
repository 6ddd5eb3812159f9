-- What was read.
--     piece_space    how many bytes of an input without a limit are taken at once
--     again_by       by the kind of the error: a signal interrupted the call, which is tried again
--     taken_of       what became of a read: so many bytes, or the input could not be read
--     Takes         the bytes that were read stand at the front of the space
--     Read          these are all bytes that were read
-- Assumes nothing.
use Rattle.std.specs.Prelude.{◌≡◌, ℕ, ◌≤◌, Bool, true, false, List, length, Result, Ok, Err, IfOk}
use Rattle.std.specs.declared.io.Error.{Error}
use Rattle.std.specs.declared.io.ErrorKind.{ErrorKind}
use Rattle.std.specs.declared.io.ErrorKind.TheVariants.{Interrupted}
use Rattle.channels.specs.declared.input.Unread.{Unread}

abbrev pub piece_space : ℕ
piece_space = 8192

abbrev pub again_by : ErrorKind → Bool
again_by Interrupted = true
again_by kind = false

abbrev pub taken_of : Result ℕ Error → Result ℕ Unread
taken_of (Ok n) = Ok n
taken_of (Err e) = Err (record {})

abbrev pub Takes : Result ℕ Unread → List ℕ → Type 0
Takes r space = IfOk r (λ n. n ≤ length space)

pub record Read (r : Result ℕ Unread) (input : List ℕ) : Type 0 where
  pub all : r ≡ Ok (length input)
