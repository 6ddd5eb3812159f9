-- What became of bytes that were handed over.
--     stop_of               by the kind of the error: nobody reads any more, or a failure
--     none_taken, both_of    nothing yet; one part, and then another
--     Counts               as many were taken as there were, by 64 bits
--     Sent, sent_of        what became of them: so many were taken, or why not all were
--     Carries              where every byte was taken, they were counted
--     Delivers             then they are an output of which something holds
-- Assumes nothing.
use Rattle.std.specs.Prelude.{◌≡◌, ℕ, ◌+◌, ◌%◌, ◌^◌, List, length, Result, Ok, Err, IfOk}
use Rattle.std.specs.IoError.{error_kind}
use Rattle.std.specs.declared.io.Error.{Error}
use Rattle.std.specs.declared.io.ErrorKind.{ErrorKind}
use Rattle.std.specs.declared.io.ErrorKind.TheVariants.{BrokenPipe}
use Rattle.channels.specs.declared.output.Stop.{Stop}
use Rattle.channels.specs.declared.output.Stop.TheVariants.{Left, Failed}
use Rattle.channels.specs.declared.output.Taken.{Taken}
use Rattle.channels.specs.declared.output.Untaken.{Untaken}

abbrev pub stop_of : ErrorKind → Stop
stop_of BrokenPipe = Left
stop_of kind = Failed

abbrev pub none_taken : Taken
none_taken = record { count = 0 }

abbrev pub both_of : Taken → Taken → Taken
both_of a b = record { count = (a.count + b.count) % 2 ^ 64 }

pub record Counts (bytes : List ℕ) (t : Taken) : Type 0 where
  pub size : t.count ≡ length bytes % 2 ^ 64

abbrev pub Sent : Type 0
Sent = Result Taken Untaken

abbrev pub sent_of : Result ℕ Error → Sent
sent_of (Ok n) = Ok (record { count = n })
sent_of (Err e) = Err (record { why = stop_of (error_kind e) })

abbrev pub Carries : List ℕ → Sent → Type 0
Carries bytes s = IfOk s (Counts bytes)

abbrev pub Delivers : (List ℕ → Type 0) → Sent → Type 0
Delivers Prints s = IfOk s (λ t. (out : List ℕ) × Prints out × Counts out t)
