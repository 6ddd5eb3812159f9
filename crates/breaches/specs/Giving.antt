-- What is handed over.
--     piece_room        how many bytes a piece of the list has room for
--     Heads            what comes before the list: nothing, or all that has to be printed
--     Gives            the lines that come at a state, as many as a piece has room for, and where the list goes on
--     ListedFrom       the pieces from a state on, until the list is done
-- Assumes nothing.
use Rattle.std.specs.Prelude.{List, [], ℕ}
use Rattle.meaning.specs.Text.{narrow}
use Rattle.meaning.specs.Listing.{BreachesPrints}
use Rattle.meaning.specs.Context.{Context}
use Rattle.meaning.specs.Rules.{Clause}
use Rattle.listing.specs.declared.State.{State}
use Rattle.listing.specs.Filling.{Runs, Pieces}
use Rattle.channels.specs.declared.output.Taken.{Taken}
use Rattle.channels.specs.Sending.{Counts}

abbrev pub piece_room : ℕ
piece_room = 8192

pub data Heads (input : List ℕ) : List ℕ → Type 0 where
  alone : (line : List ℕ) → BreachesPrints narrow input line → Heads input line
  before : Heads input []

pub record Gives (c : Context) (table : List ℕ) (k : Clause) (s : State) (taken : Taken) (next : State) : Type 0 where
  pub bytes : List ℕ
  pub runs : Runs c table k piece_room s bytes next
  pub counts : Counts bytes taken

abbrev pub ListedFrom : Context → List ℕ → Clause → State → List ℕ → Type 0
ListedFrom c table k s out = Pieces c table k (λ _. piece_room) 0 s out
