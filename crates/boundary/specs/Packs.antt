-- What the parts return: the number of an outcome or of an answer, and the rows that an outcome leaves.
--     packed_by, packed_outcome, packed_answer   a refusal, the finder's outcome and the normaliser's answer as numbers
--     handed_by                                the caller's rows after an outcome
--     Told                                    a reply's number, and the caller's rows after it
--     Small                                   an answer of no more bytes than a normal text has
-- Assumes nothing.
use Rattle.std.specs.Prelude.{List, ◌≡◌, ℕ, ◌+◌, ◌*◌, ◌≤◌, Result, Ok, Err}
use Rattle.meaning.specs.Packing.{packed_refusal}
use Rattle.replies.specs.Told.{meant}
use Rattle.replies.specs.declared.Refusal.{Refusal}
use Rattle.replies.specs.declared.Outcome.{Outcome}
use Rattle.replies.specs.declared.Outcome.TheVariants as O
use Rattle.replies.specs.declared.Reply.{Reply}
use Rattle.normaliser.specs.Claims.{normal_limit}

abbrev pub packed_by : Refusal → ℕ
packed_by x = packed_refusal (meant x)

abbrev pub packed_outcome : Outcome → ℕ
packed_outcome (O.Breach n) = 8 + 256 * n
packed_outcome O.Clear = 9
packed_outcome (O.Refused x) = packed_by x

abbrev pub handed_by : Outcome → List ℕ → List ℕ → List ℕ
handed_by (O.Breach n) places rows = places
handed_by O.Clear places rows = rows
handed_by (O.Refused x) places rows = rows

-- a reply's number, and the caller's rows after it
pub record Told (reply : Reply) (rows : List ℕ) (number : ℕ) (after : List ℕ) : Type 0 where
  pub packed : number ≡ packed_outcome reply.outcome
  pub handed : after ≡ handed_by reply.outcome reply.places rows

pub record Small (answer : Result ℕ Refusal) : Type 0 where
  pub few : (n : ℕ) → answer ≡ Ok n → n ≤ normal_limit

abbrev pub packed_answer : Result ℕ Refusal → ℕ
packed_answer (Ok n) = 256 * n
packed_answer (Err x) = packed_by x
