-- What the writer claims of its answers.
--     Answers               the reply to a text: refused as the finder refuses, then 10 where there is no room, also where there is no breach, then the finder's reply
--     Kept                  a run with its first steps written
--     no_conclusions, Bare   no conclusion; no step, no conclusion, and the run as before
--     steps_in               the first steps of a run
--     Shown, ShownFor       steps and conclusions that are accepted, few in all and for each owner, each step cited by a later one or a conclusion; for the rule that a text says
--     Leaves                what is written for a reply
--     Writes                the answer to a text, and the lent run afterwards
-- The choice of the steps is free. Assumes nothing.
use Rattle.std.specs.Prelude.{List, ◌≡◌, ℕ, suc, ◌≤◌, ◌<◌, length, take, drop, replicate}
use Rattle.meaning.specs.Context.{Context}
use Rattle.meaning.specs.Rules.{Clause, Found}
use Rattle.meaning.specs.Text.{narrow, Refusal, Read, taken, read}
use Rattle.meaning.specs.Replies as M
use Rattle.meaning.specs.Replies.{breach, none, refused, refusal, reply_of, places_of, Replies}
use Rattle.meaning.specs.Grounds.{Step, Verified, accepted, conclusion_for}
use Rattle.runs.specs.Limits.{most_literals}
use Rattle.grounds_steps.specs.Steps.{steps_of, most_each, most_steps}
use Rattle.grounds_verdict.specs.declared.Conclusions.{Conclusions}
use Rattle.grounds_judgement.specs.Claims.{concluded_in}
use Rattle.replies.specs.Told.{told_by, told_of}
use Rattle.grounds_batches.specs.Drawing.{Used, owned_by}
use Rattle.writer.specs.declared.Grounds.{Grounds}

pub data Answers (text : List ℕ) (room : ℕ) : M.Reply → Type 0 where
  refuses : (f : Refusal) → Replies narrow text (refused f) → Answers text room (refused f)
  lacks : (q : Found) → Replies narrow text (reply_of q) → room < most_steps → Answers text room (refused (refusal 10 0))
  replies : (q : Found) → Replies narrow text (reply_of q) → most_steps ≤ room → Answers text room (reply_of q)

-- ---- what is written

-- every place after the first n is as before
pub record Kept (n : ℕ) (before after : List (List ℕ)) : Type 0 where
  pub long : length after ≡ length before
  pub rest : drop n after ≡ drop n before

unfoldable pub no_conclusions : Conclusions
no_conclusions = record { firsts = replicate most_literals 0; differences = replicate most_literals 0 }

-- the first n steps of a run
abbrev pub steps_in : ℕ → List (List ℕ) → List Step
steps_in n steps = steps_of (take n steps)

-- by the run before and after
module _ (steps : List (List ℕ)) (r : Grounds) (steps' : List (List ℕ)) where
  pub record Bare : Type 0 where
    pub count : r.steps ≡ 0
    pub literals : r.literals ≡ 0
    pub conclusions : r.conclusions ≡ no_conclusions
    pub words : steps' ≡ steps

  pub record Shown (c : Context) (k : Clause) : Type 0 where
    pub literals : r.literals ≡ length k.literals
    pub few : r.steps ≤ most_steps
    pub few_each : (owner : ℕ) → owned_by owner (steps_in r.steps steps') ≤ most_each
    pub verified : Verified c k r.places (steps_in r.steps steps') (concluded_in r.conclusions) accepted
    pub used : (p : ℕ) → p < r.steps
        → Used (steps_in r.steps steps') (λ j. conclusion_for (suc j) (concluded_in r.conclusions)) r.literals p
    pub words : Kept r.steps steps steps'

  pub record ShownFor (text : List ℕ) : Type 0 where
    pub said : Read
    pub reads : read narrow text ≡ taken said
    pub shown : Shown said.ledger.context said.clause

  abbrev pub Leaves : List ℕ → M.Reply → Type 0
  Leaves text (breach a) = ShownFor text
  Leaves text none = Bare
  Leaves text (refused f) = Bare

pub record Writes (text : List ℕ) (steps : List (List ℕ)) (r : Grounds) (steps' : List (List ℕ)) : Type 0 where
  pub reply : M.Reply
  pub answers : Answers text (length steps) reply
  pub told : told_by r.outcome ≡ told_of reply
  pub places : r.places ≡ places_of reply
  pub leaves : Leaves steps r steps' text reply
