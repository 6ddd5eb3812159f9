-- What the writer's functions ask and leave that look for a breach.
--     bare_with, refused_with   the answer with nothing written
--     Draws                   the answer for a breach, and the run afterwards
--     outcome_by               what is told for the search's answer; for a failure refusal 0, which is no text's
--     Seekable, Sought        what the search asks, and the answer for what was found
-- Assumes nothing.
use Rattle.std.specs.Prelude.{List, ◌≡◌, ℕ, replicate}
use Rattle.meaning.specs.Context.{Context}
use Rattle.meaning.specs.Rules.{range_of, Clause, Breach, Found, found, nothing}
use Rattle.meaning.specs.Replies.{reply_of, places_of}
use Rattle.runs.specs.Limits.{most_variables, unused_place}
use Rattle.runs.specs.Runs.{context_of, clause_of}
use Rattle.replies.specs.declared.Refusal.{Refusal}
use Rattle.replies.specs.Told.{told_by, told_of}
use Rattle.replies.specs.declared.Outcome.{Outcome}
use Rattle.replies.specs.declared.Outcome.TheVariants as O
use Rattle.search.specs.Finding.{found_by}
use Rattle.search.specs.declared.Kind.{Kind}
use Rattle.search.specs.declared.Kind.TheVariants as S
use Rattle.hunting.specs.Laid.{Ready}
use Rattle.writer.specs.Claims.{no_conclusions, Bare, Shown}
use Rattle.writer.specs.declared.Grounds.{Grounds}

unfoldable pub bare_with : Outcome → List ℕ → Grounds
bare_with outcome places = record { outcome = outcome; places = places; steps = 0; literals = 0; conclusions = no_conclusions }

unfoldable pub refused_with : Refusal → Grounds
refused_with x = bare_with (O.Refused x) (replicate most_variables unused_place)

pub record Draws (rows said patterns literals : List ℕ) (n : ℕ) (a : List ℕ) (steps : List (List ℕ)) (r : Grounds) (steps' : List (List ℕ)) : Type 0 where
  pub outcome : r.outcome ≡ O.Breach n
  pub places : r.places ≡ a
  pub shown : Shown steps r steps' (context_of rows said) (clause_of patterns literals)

-- ---- the search

abbrev pub outcome_by : Kind → Outcome
outcome_by (S.Breach n) = O.Breach n
outcome_by S.Clear = O.Clear
outcome_by S.Unfit = O.Refused (record { number = 0; line = 0; offset = 0 })

-- the answer for what was found, and the run afterwards
module _ (steps : List (List ℕ)) (r : Grounds) (steps' : List (List ℕ)) where
  abbrev pub LeavesFor : Context → Clause → Found → Type 0
  LeavesFor c k (found a) = Shown steps r steps' c k
  LeavesFor c k nothing = Bare steps r steps'

module _ (rows said patterns literals table : List ℕ) where
  abbrev found_in : Found
  found_in = found_by (context_of rows said) table (clause_of patterns literals)

  -- well-formed runs and their closing, by which what is found is a breach
  pub record Seekable : Type 0 where
    pub ready : Ready rows said patterns literals table
    pub breach : (a : List ℕ) → found_in ≡ found a → Breach (context_of rows said) (range_of (context_of rows said)) (clause_of patterns literals) a

  pub record Sought (steps : List (List ℕ)) (r : Grounds) (steps' : List (List ℕ)) : Type 0 where
    pub what : Found
    pub finds : found_in ≡ what
    pub told : told_by r.outcome ≡ told_of (reply_of what)
    pub places : r.places ≡ places_of (reply_of what)
    pub leaves : LeavesFor steps r steps' (context_of rows said) (clause_of patterns literals) what
