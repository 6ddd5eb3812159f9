-- What the function over records for other languages claims of the number that it returns and of the caller's space.
--     packed_rows    a reply of the finder over records as a number: 11 where there is none
--     handed_rows    the caller's places after a reply: those of a breach, else as they were
--     AnswersRows   the reply to records, statements and a rule, so told
-- Assumes nothing.
use Rattle.std.specs.Prelude.{List, ◌≡◌, ℕ, Option, Some, None}
use Rattle.replies.specs.declared.Reply.{Reply}
use Rattle.records.specs.declared.ClauseColumns.{ClauseColumns}
use Rattle.records.specs.declared.Row.{Row}
use Rattle.records.specs.declared.Statements.{Statements}
use Rattle.records.specs.Claims.{FindsRows}
use Rattle.boundary.specs.Packs.{packed_outcome, handed_by}

abbrev pub packed_rows : Option Reply → ℕ
packed_rows (Some r) = packed_outcome r.outcome
packed_rows None = 11

abbrev pub handed_rows : Option Reply → List ℕ → List ℕ
handed_rows (Some r) places = handed_by r.outcome r.places places
handed_rows None places = places

pub record AnswersRows (rows : List Row) (s : Statements) (k : ClauseColumns) (places : List ℕ) (number : ℕ) (after : List ℕ) : Type 0 where
  pub reply : Option Reply
  pub finds : FindsRows rows s k reply
  pub packed : number ≡ packed_rows reply
  pub handed : after ≡ handed_rows reply places
