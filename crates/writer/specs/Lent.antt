-- What the writer's functions ask and leave, over runs as they are lent.
--     BrokenIn, EntriesIn, ClosedIn   a breach; with the keys and the numbers of all entries; with closed classes
--     closed_in                     classes closed by the stated equations
--     ShowsIn, DrawsIn              it is shown; the answer for it
--     SeekableBy, SoughtBy          what the search asks, and the answer for what was found
-- Assumes nothing.
use Rattle.std.specs.Prelude.{List, ℕ}
use Rattle.grounds_laws.specs.Classes.{State}
use Rattle.writer.specs.Drawing.{Broken, Entries, Closed, closed_by, Shows}
use Rattle.writer.specs.Seeking.{Draws, Seekable, Sought}
use Rattle.writer.specs.declared.Grounds.{Grounds}
use Rattle.writer.specs.declared.Problem.{Problem}
use Rattle.writer.specs.declared.drawing.Breach.{Breach}
use Rattle.writer.specs.declared.drawing.Support.{Support}

module _ (b : Breach) where
  abbrev pub EntriesIn : Type 0
  EntriesIn = Entries b.problem.rows.now b.problem.said.now b.problem.patterns.now b.problem.literals.now b.asg b.keys.now b.numbers.now

  abbrev pub ClosedIn : List ℕ → List ℕ → List (List ℕ) → Type 0
  ClosedIn cells table steps =
      Closed b.problem.rows.now b.problem.said.now b.problem.patterns.now b.problem.literals.now b.asg b.keys.now b.numbers.now cells table steps

  abbrev pub closed_in : State
  closed_in = closed_by b.keys.now b.numbers.now b.problem.said.now

module _ (p : Problem) where
  abbrev pub BrokenIn : List ℕ → Type 0
  BrokenIn a = Broken p.rows.now p.said.now p.patterns.now p.literals.now a

  abbrev pub ShowsIn : List ℕ → List (List ℕ) → Support → List (List ℕ) → Type 0
  ShowsIn a steps s steps' = Shows p.rows.now p.said.now p.patterns.now p.literals.now a steps s steps'

  abbrev pub DrawsIn : ℕ → List ℕ → List (List ℕ) → Grounds → List (List ℕ) → Type 0
  DrawsIn n a steps r steps' = Draws p.rows.now p.said.now p.patterns.now p.literals.now n a steps r steps'

  abbrev pub SeekableBy : List ℕ → Type 0
  SeekableBy table = Seekable p.rows.now p.said.now p.patterns.now p.literals.now table

  abbrev pub SoughtBy : List ℕ → List (List ℕ) → Grounds → List (List ℕ) → Type 0
  SoughtBy table steps r steps' = Sought p.rows.now p.said.now p.patterns.now p.literals.now table steps r steps'
