-- What a program says of its run.
--     place_of     the descriptor that a byte names: the digits 3 to 9
--     status_of    the digit 0 for a reply that was taken whole or that nobody reads any more, 1 for one that could not be written
-- Assumes nothing.
use Rattle.std.specs.Prelude.{ℕ, ◌-◌, true, false, ℤ, pos, nat_lt, Option, Some, None, Ok, Err}
use Rattle.channels.specs.declared.output.Stop.{Stop}
use Rattle.channels.specs.declared.output.Stop.TheVariants.{Left, Failed}
use Rattle.channels.specs.Sending.{Sent}

abbrev pub place_of : ℕ → Option ℤ
place_of b = elim (nat_lt b 51) [ true ↦ None | false ↦ elim (nat_lt 57 b) [ true ↦ None | false ↦ Some (pos (b - 48)) ] ]

abbrev pub status_by : Stop → ℕ
status_by Left = 48
status_by Failed = 49

abbrev pub status_of : Sent → ℕ
status_of (Ok t) = 48
status_of (Err e) = status_by e.why
