-- What is claimed of a text that was read, closed and ruled on.
--     rows_in .. literals_in     the filled parts of the runs that were told
--     context_in, clause_in      the context and the rule that they say
--     Ruling                   a text is refused, or its rule is ready
--     ClosesText               what was read, the representatives of its rows, and the first contradiction
--     Rules                    what is answered, what was read, and the representatives
-- Assumes nothing.
use Rattle.std.specs.Prelude.{List, [], ◌≡◌, ℕ, take, Result, Ok, Err}
use Rattle.meaning.specs.Context.{Context, differences}
use Rattle.meaning.specs.Rules.{Clause}
use Rattle.meaning.specs.ByTable.{clash_of}
use Rattle.meaning.specs.Equality.{Consistent, rep_at, Promise}
use Rattle.meaning.specs.Text.{narrow, Read, taken, read}
use Rattle.meaning.specs.Replies.{refused, Replies}
use Rattle.runs.specs.Limits.{most_rows}
use Rattle.runs.specs.Runs.{context_of, clause_of}
use Rattle.replies.specs.Told.{meant}
use Rattle.replies.specs.declared.Refusal.{Refusal}
use Rattle.text_runs.specs.Reads.{Reads}
use Rattle.text_runs.specs.declared.Told.{Told}
use Rattle.classes.specs.Claims.{clashing}
use Rattle.ruling.specs.declared.Closed.{Closed}
use Rattle.ruling.specs.declared.Ruled.{Ruled}

abbrev pub rows_in : Told → List ℕ
rows_in t = take t.filled.rows t.rows

abbrev pub said_in : Told → List ℕ
said_in t = take t.filled.said t.said

abbrev pub patterns_in : Told → List ℕ
patterns_in t = take t.filled.patterns t.patterns

abbrev pub literals_in : Told → List ℕ
literals_in t = take t.filled.literals t.literals

abbrev pub context_in : Told → Context
context_in t = context_of (rows_in t) (said_in t)

abbrev pub clause_in : Told → Clause
clause_in t = clause_of (patterns_in t) (literals_in t)

-- as the finder replies to it; where it is ready, the finder's reply is a breach or none
pub data Ruling (text : List ℕ) : Result (Unit {0}) Refusal → Type 0 where
  refuses : (x : Refusal) → Replies narrow text (refused (meant x)) → Ruling text (Err x)
  ready : (s : Read) → read narrow text ≡ taken s → (s.clause.literals ≡ [] → ⊥) → Consistent s.ledger.context → Ruling text (Ok tt)

-- where the reader refuses, the runs are those of the empty text, and the table holds each place's own number
pub record ClosesText (text : List ℕ) (r : Closed) : Type 0 where
  pub told : Reads text r.told
  pub closed : Promise (context_in r.told) most_rows r.table
  pub clashes : clashing r.clash ≡ clash_of (rep_at r.table) (differences (context_in r.told))

pub record Rules (text : List ℕ) (r : Ruled) : Type 0 where
  pub ruled : Ruling text r.answer
  pub told : Reads text r.told
  pub closed : Promise (context_in r.told) most_rows r.table
