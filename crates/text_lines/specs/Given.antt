-- What follows where nothing failed.
-- Assumes nothing.
use Rattle.std.specs.Prelude.{Result, Ok, Err}

abbrev pub given : {A B E : Type 0} → Result A E → (A → Result B E) → Result B E
given (Ok x) next = next x
given (Err e) next = Err e
