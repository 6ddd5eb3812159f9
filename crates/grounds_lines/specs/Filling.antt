-- What `fill` writes and answers.
--     step_count, item_count                  how many steps there are to write, no more than the shortest column has places; with the conclusions, 16 at most
--     line_in, frames_from                the line of an item; the lines of all items from one on
--     fitting                           how many whole pieces of some have room
--     count_from, fills_from              how many lines are written, and what is written
--     Fills                             the answer, and the lent space afterwards
--     ItemRoom                          there is room for the line of an item
-- Assumes nothing.
use Rattle.std.specs.Prelude.{true, false, List, ◌++◌, ◌≡◌, ℕ, zero, suc, ◌+◌, ◌-◌, ◌≤◌, ◌<◌, min, leb, length, drop}
use Rattle.runs.specs.Limits.{most_literals}
use Rattle.grounds_verdict.specs.declared.Conclusions.{Conclusions}
use Rattle.reply_lines.specs.Pieces.{run}
use Rattle.grounds_lines.specs.Lines.{item_frame, size_at}
use Rattle.grounds_lines.specs.declared.Filled.{Filled}

abbrev pub step_count : List (List ℕ) → ℕ → ℕ
step_count steps many = min many (length steps)

abbrev pub item_count : List (List ℕ) → ℕ → ℕ → ℕ
item_count steps many literals = step_count steps many + min literals most_literals

abbrev pub line_in : List (List ℕ) → ℕ → Conclusions → ℕ → List ℕ
line_in steps many d = item_frame steps (step_count steps many) d

abbrev pub frames_from : List (List ℕ) → ℕ → Conclusions → ℕ → ℕ → List ℕ
frames_from steps many d literals p =
    run (line_in steps many d) p (item_count steps many literals - p)

-- of the k pieces from piece p on
unfoldable pub fitting : (ℕ → List ℕ) → ℕ → ℕ → ℕ → ℕ
fitting piece room p zero = zero
fitting piece room p (suc k) =
    elim (leb (length (piece p)) room) [ true ↦ suc (fitting piece (room - length (piece p)) (suc p) k) | false ↦ zero ]

abbrev pub count_from : List (List ℕ) → ℕ → Conclusions → ℕ → ℕ → ℕ → ℕ
count_from steps many d literals p room =
    fitting (line_in steps many d) room p (item_count steps many literals - p)

abbrev pub fills_from : List (List ℕ) → ℕ → Conclusions → ℕ → ℕ → ℕ → List ℕ
fills_from steps many d literals p room =
    run (line_in steps many d) p (count_from steps many d literals p room)

pub record Fills (steps : List (List ℕ)) (many : ℕ) (d : Conclusions) (literals from : ℕ) (lent : List ℕ) (r : Filled) (after : List ℕ) : Type 0 where
  pub next : r.next ≡ from + count_from steps many d literals from (length lent)
  pub used : r.used ≡ length (fills_from steps many d literals from (length lent))
  pub stored : after ≡ fills_from steps many d literals from (length lent) ++ drop r.used lent

pub record ItemRoom (steps : List (List ℕ)) (n p : ℕ) (lent : List ℕ) (at : ℕ) : Type 0 where
  pub inside : n ≤ length steps
  pub few : p < n + most_literals
  pub room : at + size_at n p ≤ length lent
