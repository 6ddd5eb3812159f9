-- The order of the refusals: the reader's, then 8, then 9.
--     Low                            a stated difference's number is below the most statements
--     contradicted_by                the refusal that names a difference
--     unless_empty, judged_by, ruled_by what is answered for so many literals, with a contradiction, and after what the reader said
-- Assumes nothing.
use Rattle.std.specs.Prelude.{◌≡◌, ℕ, zero, suc, ◌+◌, ◌<◌, Option, Some, None, Result, Ok, Err}
use Rattle.runs.specs.Limits.{most_statements}
use Rattle.replies.specs.declared.Refusal.{Refusal}

pub record Low (r : Option ℕ) : Type 0 where
  pub low : (n : ℕ) → r ≡ Some n → n < most_statements

abbrev pub unless_empty : ℕ → Result (Unit {0}) Refusal → Result (Unit {0}) Refusal
unless_empty zero other = Err (record { number = 8; line = 0; offset = 0 })
unless_empty (suc n) other = other

abbrev pub contradicted_by : ℕ → Refusal
contradicted_by n = record { number = 9; line = n + 1; offset = 0 }

abbrev pub judged_by : ℕ → Option ℕ → Result (Unit {0}) Refusal
judged_by literals (Some n) = unless_empty literals (Err (contradicted_by n))
judged_by literals None = unless_empty literals (Ok tt)

abbrev pub ruled_by : Result (Unit {0}) Refusal → ℕ → Option ℕ → Result (Unit {0}) Refusal
ruled_by (Err x) literals clash = Err x
ruled_by (Ok u) literals clash = judged_by literals clash
