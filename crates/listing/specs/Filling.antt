-- What `fill` writes and answers, and what its pieces are.
--     Fitted                     a context and a rule are well-formed, within the limits
--     Lent                       what `fill` is lent: what was laid out for a search, and what is known of pairs
--     start_state, done_by         where a list begins; whether it is written to its end
--     state_after                 where it stands after what was found
--     comes_by, Comes, Stopped    what comes at a state; a state at which nothing comes
--     Runs                       whole lines from a state on, as many as there is room for
--     Fills                      the answer, and the lent space afterwards
--     Pieces                     pieces joined, each with a room of its own, until nothing is left
-- Assumes nothing.
use Rattle.std.specs.Prelude.{Bool, true, false, List, [], ◌++◌, ◌≡◌, ℕ, suc, ◌-◌, ◌≤◌, ◌<◌, length, drop}
use Rattle.meaning.specs.Context.{Context}
use Rattle.meaning.specs.Rules.{Clause, variables, Found, found, nothing}
use Rattle.meaning.specs.Replies.{breach, reply_of, places_of, printed}
use Rattle.meaning.specs.Formed.{Formed}
use Rattle.runs.specs.Limits.{most_rows, most_variables}
use Rattle.differing.specs.Knowing.{Knows}
use Rattle.search.specs.Finding.{found_by, later_by}
use Rattle.hunting.specs.Laid.{context_in, Sound}
use Rattle.hunting.specs.declared.Laid.{Laid}
use Rattle.listing.specs.declared.State.{State}
use Rattle.listing.specs.declared.State.TheVariants.{Start, After, Done}
use Rattle.listing.specs.declared.Filled.{Filled}

pub record Fitted (c : Context) (k : Clause) : Type 0 where
  pub formed : Formed c k
  pub rows_few : length c.rows ≤ most_rows
  pub variables-few : variables k.patterns ≤ most_variables

pub record Lent (l : Laid) (known : List ℕ) : Type 0 where
  pub sound : Sound l
  pub knows : Knows (context_in l) known

-- ---- states

abbrev pub start_state : State
start_state = Start

abbrev pub done_by : State → Bool
done_by Start = false
done_by (After places) = false
done_by Done = true

abbrev pub state_after : Found → State
state_after (found a) = After (places_of (breach a))
state_after nothing = Done

-- the first breach, the first after an assignment, and nothing more
unfoldable pub comes_by : Context → List ℕ → Clause → State → Found
comes_by c table k Start = found_by c table k
comes_by c table k (After places) = later_by c table k places
comes_by c table k Done = nothing

pub record Comes (c : Context) (table : List ℕ) (k : Clause) (s : State) (r : Found) : Type 0 where
  pub fitted : Fitted c k
  pub going : s ≡ Done → ⊥
  pub what : r ≡ comes_by c table k s

pub record Stopped (s : State) : Type 0 where
  pub done : s ≡ Done

-- ---- lines

-- the `08` line of a breach, or the `09` line where there is none; a line for which there is no room waits
pub data Runs (c : Context) (table : List ℕ) (k : Clause) : ℕ → State → List ℕ → State → Type 0 where
  stops : (room : ℕ) (s : State) → Stopped s → Runs c table k room s [] (state_after nothing)
  waits : (room : ℕ) (s : State) (r : Found) → Comes c table k s r → room < length (printed (reply_of r)) → Runs c table k room s [] s
  writes : (room : ℕ) (s : State) (r : Found) → Comes c table k s r → length (printed (reply_of r)) ≤ room → (bytes : List ℕ) (t : State)
      → Runs c table k (room - length (printed (reply_of r))) (state_after r) bytes t → Runs c table k room s (printed (reply_of r) ++ bytes) t

pub record Fills (c : Context) (table : List ℕ) (k : Clause) (s : State) (lent : List ℕ) (r : Filled) (after : List ℕ) : Type 0 where
  pub bytes : List ℕ
  pub runs : Runs c table k (length lent) s bytes r.next
  pub used : r.used ≡ length bytes
  pub stored : after ≡ bytes ++ drop (length bytes) lent

-- the pieces from piece i on, where each has its own room
pub data Pieces (c : Context) (table : List ℕ) (k : Clause) (room : ℕ → ℕ) : ℕ → State → List ℕ → Type 0 where
  over : (i : ℕ) (s : State) → s ≡ Done → Pieces c table k room i s []
  piece : (i : ℕ) (s : State) (bytes : List ℕ) (t : State) (rest : List ℕ) → Runs c table k (room i) s bytes t → Pieces c table k room (suc i) t rest
      → Pieces c table k room i s (bytes ++ rest)
