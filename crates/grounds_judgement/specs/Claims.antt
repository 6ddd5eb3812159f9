-- What the checker of grounds claims of its answers.
--     Outcome           the verdict on the grounds, or the refusal of the text
--     judgement_of      the answer as a judgement; a verdict's number and values are `case_of` and `details_of` of `meaning`
--     concluded_in      the conclusions, one for each literal
--     JudgesTo         the answer to grounds, by a text
-- Assumes nothing.
use Rattle.std.specs.Prelude.{List, ℕ, Result, Ok, Err}
use Rattle.meaning.specs.Text.{narrow}
use Rattle.replies.specs.declared.Refusal.{Refusal}
use Rattle.replies.specs.Told.{meant}
use Rattle.grounds_steps.specs.Steps.{steps_of}
pub use Rattle.grounds_verdict.specs.Tests.{concluded_in}
use Rattle.grounds_verdict.specs.Claims.{verdict_of}
use Rattle.grounds_verdict.specs.declared.Conclusions.{Conclusions}
use Rattle.grounds_verdict.specs.declared.Fault.{Fault}
use Rattle.grounds_judgement.specs.Judgements.{Judgement, judged, refused, Judges}

abbrev pub Outcome : Type 0
Outcome = Result (Result (Unit {0}) Fault) Refusal

abbrev pub judgement_of : Result (Result (Unit {0}) Fault) Refusal → Judgement
judgement_of (Ok r) = judged (verdict_of r)
judgement_of (Err x) = refused (meant x)

pub record JudgesTo (text a : List ℕ) (steps : List (List ℕ)) (d : Conclusions) (r : Result (Result (Unit {0}) Fault) Refusal) : Type 0 where
  pub judges : Judges a (steps_of steps) (concluded_in d) narrow text (judgement_of r)
