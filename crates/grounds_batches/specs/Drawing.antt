-- All that the writer does for the literals of a rule, one after the other.
--     Drawn            a column, what is written, and for each literal a step and a stated difference
--     blank_drawn       before the first
--     draw_said         one literal, by its steps and conclusion: what the conclusion rests on, and the conclusion with its new number
--     draw_one          the same, by closed classes
--     drawn_to, drawn   the first literals; all of them
--     end_written       conclusion j, counted from 0
--     CitedLater       a later step cites a step
--     Used             a step is cited by a later one, or by a conclusion
--     owned_by          how many of some steps an owner has
-- Assumes nothing.
use Rattle.std.specs.Prelude.{true, false, List, [], ◌∷◌, ◌≡◌, ℕ, suc, ◌<◌, eqb, length, set, replicate}
use Rattle.meaning.specs.Context.{Row}
use Rattle.meaning.specs.Rules.{Literal}
use Rattle.meaning.specs.Grounds.{Step, Conclusion, step_at, number_in, literal_at}
use Rattle.meaning.specs.GroundColumns.{conclusion_from}
use Rattle.runs.specs.Limits.{most_literals}
use Rattle.grounds_laws.specs.Limits.{number_run}
use Rattle.grounds_laws.specs.Draft.{count_in}
use Rattle.grounds_laws.specs.Classes.{State, upto}
use Rattle.grounds_laws.specs.Concluding.{Said, said, resumed, owner_of}
use Rattle.grounds_batches.specs.Sending.{new_of, Out, out_of, batch}

pub record Drawn : Type 0 where
  pub cells : List ℕ
  pub out : Out
  pub ends : List ℕ
  pub differences : List ℕ

-- before the first: a column, and the words of steps
unfoldable pub blank_drawn : List ℕ → List (List ℕ) → Drawn
blank_drawn cells steps =
    record { cells = cells; out = out_of (replicate number_run 0) 0 steps; ends = replicate most_literals 0; differences = replicate most_literals 0 }

-- literal j, counted from 0, by what is said for it
unfoldable pub draw_said : ℕ → ℕ → ℕ → ℕ → Said → Drawn → Drawn
draw_said rows from owner j s d =
    let o : Out = batch rows from owner s.cells s.first d.out in
    record {
      cells = s.cells;
      out = o;
      ends = set d.ends j (new_of o.news s.first);
      differences = set d.differences j s.difference;
    }

-- of n entries, by the keys of all, their numbers, the context's rows and its stated differences; from closed classes
module _ (n : ℕ) (ks : List Row) (ns : List ℕ) (rows : ℕ) (diffs : List (ℕ × ℕ)) (closed : State) (ls : List Literal) where
  unfoldable pub draw_one : ℕ → Drawn → Drawn
  draw_one j d =
      draw_said rows (count_in closed.cells) (owner_of j (literal_at ls j)) j (said n ks ns rows diffs (literal_at ls j) (resumed closed d.cells)) d

  -- the first j
  unfoldable pub drawn_to : ℕ → Drawn → Drawn
  drawn_to j d = upto j draw_one d

  unfoldable pub drawn : List (List ℕ) → Drawn
  drawn steps = drawn_to (length ls) (blank_drawn closed.cells steps)

abbrev pub end_written : Drawn → ℕ → Conclusion
end_written d j = conclusion_from d.ends d.differences j

-- place p is step p + 1
pub record CitedLater (steps : List Step) (p : ℕ) : Type 0 where
  pub place : ℕ
  pub later : p < place
  pub inside : place < length steps
  pub citing : 2 < (step_at steps place).kind
  pub which : ℕ
  pub among : which < 4
  pub number : number_in (step_at steps place) which ≡ suc p

-- of some steps and n conclusions
pub data Used (steps : List Step) (end : ℕ → Conclusion) (n p : ℕ) : Type 0 where
  by-step : CitedLater steps p → Used steps end n p
  by_end : (j : ℕ) → j < n → (end j).first ≡ suc p → Used steps end n p

-- owner 0 is shared, and owner n is literal n
unfoldable pub owned_by : ℕ → List Step → ℕ
owned_by o [] = 0
owned_by o (s ∷ ss) = elim (eqb s.owner o) [ true ↦ suc (owned_by o ss) | false ↦ owned_by o ss ]
