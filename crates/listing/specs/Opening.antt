-- What an input that is made ready to be listed holds.
--     done_state            where there is nothing to list
--     limited_by, Headed    refusal 11 before everything else; the line and the state of an answer
--     Begins               what is printed first, and where the list begins
--     Opens                with what was read and ruled on, laid out for a search, every place of it
-- Assumes nothing.
use Rattle.std.specs.Prelude.{true, false, List, [], ◌≡◌, ℕ, ◌≤◌, ◌<◌, ltb, length, Result, Ok, Err}
use Rattle.meaning.specs.Rules.{nothing}
use Rattle.meaning.specs.Replies.{refused, refusal, printed, input_limit}
use Rattle.replies.specs.declared.Refusal.{Refusal}
use Rattle.replies.specs.Told.{meant}
use Rattle.hunting.specs.Laid.{Lays}
use Rattle.ruling.specs.Claims.{rows_in, said_in, patterns_in, literals_in, Ruling, Rules}
use Rattle.ruling.specs.declared.Ruled.{Ruled}
use Rattle.reply_lines.specs.Prints.{Prints}
use Rattle.reply_lines.specs.declared.Line.{Line}
use Rattle.listing.specs.declared.State.{State}
use Rattle.listing.specs.declared.opening.Opened.{Opened}
use Rattle.listing.specs.Filling.{start_state, state_after}

abbrev pub done_state : State
done_state = state_after nothing

unfoldable pub limited_by : ℕ → Result (Unit {0}) Refusal → Result (Unit {0}) Refusal
limited_by length answer = elim (ltb input_limit length) [ true ↦ Err (record { number = 11; line = 0; offset = 0 }) | false ↦ answer ]

pub data Headed (answer : Result (Unit {0}) Refusal) (l : Line) : State → Type 0 where
  starts : answer ≡ Ok tt → Prints [] l.bytes l.len → Headed answer l start_state
  ends : (x : Refusal) → answer ≡ Err x → Prints (printed (refused (meant x))) l.bytes l.len → Headed answer l done_state

-- 11, then as the finder refuses, or nothing yet
pub data Begins (input : List ℕ) (l : Line) : State → Type 0 where
  long : input_limit < length input → Prints (printed (refused (refusal 11 0))) l.bytes l.len → Begins input l done_state
  refuses : length input ≤ input_limit → (x : Refusal) → Ruling input (Err x)
      → Prints (printed (refused (meant x))) l.bytes l.len → Begins input l done_state
  ready : length input ≤ input_limit → Ruling input (Ok tt) → Prints [] l.bytes l.len → Begins input l start_state

-- where the reader refuses, it is the empty text that is laid out
pub record Opens (input : List ℕ) (o : Opened) : Type 0 where
  pub begins : Begins input o.line o.state
  pub read : Ruled
  pub rules : Rules input read
  pub lays : Lays (rows_in read.told) (said_in read.told) (patterns_in read.told) (literals_in read.told) read.table o.laid
