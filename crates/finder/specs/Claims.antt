-- What the finder claims of its answers.
--     Filled                      as much of each run is filled as there is
--     refused_with, answered_with   the reply that is a refusal, and the one that a search's answer gives
--     Prepared, Prepares          a text that is ready to be searched, or its refusal
--     Finds                       the reply to a text, with the four places handed over
-- Assumes nothing.
use Rattle.std.specs.Prelude.{List, ◌≡◌, ℕ, ◌≤◌, length, replicate, Result, Ok, Err}
use Rattle.meaning.specs.Text.{narrow}
use Rattle.meaning.specs.Replies as M
use Rattle.meaning.specs.Replies.{refused, places_of, Replies}
use Rattle.search.specs.declared.Kind.{Kind}
use Rattle.search.specs.declared.Kind.TheVariants as S
use Rattle.replies.specs.declared.Refusal.{Refusal}
use Rattle.replies.specs.declared.Outcome.TheVariants.{Breach, Clear, Refused}
use Rattle.replies.specs.declared.Reply.{Reply}
use Rattle.runs.specs.Limits.{most_variables, unused_place}
use Rattle.text_runs.specs.declared.Told.{Told}
use Rattle.replies.specs.Told.{meant, told_by, told_of}
use Rattle.hunting.specs.Laid.{Lays}
use Rattle.hunting.specs.declared.Laid.{Laid}
use Rattle.ruling.specs.Claims.{rows_in, said_in, patterns_in, literals_in, Rules}
use Rattle.ruling.specs.declared.Ruled.{Ruled}

pub record Filled (t : Told) : Type 0 where
  pub in_rows : t.filled.rows ≤ length t.rows
  pub in-said : t.filled.said ≤ length t.said
  pub in-patterns : t.filled.patterns ≤ length t.patterns
  pub in-literals : t.filled.literals ≤ length t.literals

unfoldable pub refused_with : Refusal → Reply
refused_with x = record { outcome = Refused x; places = replicate most_variables unused_place }

abbrev pub answered_with : Kind → List ℕ → Reply
answered_with (S.Breach n) places = record { outcome = Breach n; places = places }
answered_with S.Clear places = record { outcome = Clear; places = places }
answered_with S.Unfit places = record { outcome = Refused (record { number = 0; line = 0; offset = 0 }); places = places }

-- what was read, closed and ruled on, laid out for a search
pub record Prepared (text : List ℕ) (l : Laid) : Type 0 where
  pub read : Ruled
  pub rules : Rules text read
  pub ready : read.answer ≡ Ok tt
  pub lays : Lays (rows_in read.told) (said_in read.told) (patterns_in read.told) (literals_in read.told) read.table l

-- or the refusal
abbrev pub Prepares : List ℕ → Result Laid Refusal → Type 0
Prepares text (Ok l) = Prepared text l
Prepares text (Err x) = Replies narrow text (refused (meant x))

pub record Finds (text : List ℕ) (r : Reply) : Type 0 where
  pub reply : M.Reply
  pub replies : Replies narrow text reply
  pub told : told_by r.outcome ≡ told_of reply
  pub places : r.places ≡ places_of reply
