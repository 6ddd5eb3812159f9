-- The line that comes at a state, with the state after it.
--     Told                 a line, and the state after it
--     Tells                what is told of an answer: its line with the state after it, or nothing
--     Entered, EntryAt     what comes at a state, as a line with the state after it; or nothing comes
-- Assumes nothing.
use Rattle.std.specs.Prelude.{List, map, ◌≡◌, ℕ, take, Option, None, IsSomeAnd, MatchOption}
use Rattle.meaning.specs.Context.{Context}
use Rattle.meaning.specs.Rules.{Clause, Found}
use Rattle.meaning.specs.Replies.{breach, none, reply_of, printed}
use Rattle.search.specs.declared.Kind.{Kind}
use Rattle.search.specs.declared.Kind.TheVariants as S
use Rattle.reply_lines.specs.Pieces.{low8}
use Rattle.reply_lines.specs.Prints.{Prints}
use Rattle.listing.specs.declared.State.{State}
use Rattle.listing.specs.declared.State.TheVariants.{After, Done}
use Rattle.listing.specs.declared.Entry.{Entry}
use Rattle.listing.specs.Filling.{state_after, Comes, Stopped}

pub record Told (line : List ℕ) (next : State) (e : Entry) : Type 0 where
  pub prints : Prints line e.line.bytes e.line.len
  pub state : e.next ≡ next

abbrev pub Tells : Kind → List ℕ → Option Entry → Type 0
Tells (S.Breach n) places o = IsSomeAnd o (Told (printed (breach (map low8 (take n places)))) (After places))
Tells S.Clear places o = IsSomeAnd o (Told (printed none) Done)
Tells S.Unfit places o = o ≡ None

pub record Entered (c : Context) (table : List ℕ) (k : Clause) (s : State) (e : Entry) : Type 0 where
  pub what : Found
  pub comes : Comes c table k s what
  pub told : Told (printed (reply_of what)) (state_after what) e

abbrev pub EntryAt : Context → List ℕ → Clause → State → Option Entry → Type 0
EntryAt c table k s o = MatchOption o (Stopped s) (Entered c table k s)
