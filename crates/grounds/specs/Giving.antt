-- What is handed over.
--     Ready            an input was answered, with room for all steps
--     GroundsPrints    what has to be printed for it: the finder program's line, and the lines of the grounds that stand in the run
--     Comes            the lines of the items from one to before another
--     Gives            a piece of the lines, and which item comes next
-- Assumes nothing.
use Rattle.std.specs.Prelude.{List, ◌++◌, ◌≡◌, ℕ, ◌≤◌, ◌<◌, length}
use Rattle.meaning.specs.Text.{narrow}
use Rattle.meaning.specs.Replies.{FindPrints}
use Rattle.grounds_verdict.specs.declared.Conclusions.{Conclusions}
use Rattle.grounds_steps.specs.Steps.{most_steps}
use Rattle.grounds_lines.specs.Filling.{item_count, frames_from}
use Rattle.grounds_lines.specs.Opening.{Opens}
use Rattle.grounds_lines.specs.declared.opening.Opened.{Opened}
use Rattle.channels.specs.declared.output.Taken.{Taken}
use Rattle.channels.specs.Sending.{Counts}

-- by the run before and after
pub record Ready (input : List ℕ) (o : Opened) (steps' : List (List ℕ)) : Type 0 where
  pub steps : List (List ℕ)
  pub room : most_steps ≤ length steps
  pub opens : Opens input steps o steps'

pub record GroundsPrints (input out : List ℕ) : Type 0 where
  pub opened : Opened
  pub steps : List (List ℕ)
  pub ready : Ready input opened steps
  pub line : List ℕ
  pub finds : FindPrints narrow input line
  pub whole : out ≡ line ++ frames_from steps opened.steps opened.conclusions opened.literals 0

pub record Comes (steps : List (List ℕ)) (many : ℕ) (d : Conclusions) (literals from next : ℕ) (bytes : List ℕ) : Type 0 where
  pub whole : frames_from steps many d literals from ≡ bytes ++ frames_from steps many d literals next
  pub later : from < item_count steps many literals → from < next

pub record Gives (steps : List (List ℕ)) (many : ℕ) (d : Conclusions) (literals from next : ℕ) (taken : Taken) : Type 0 where
  pub bytes : List ℕ
  pub comes : Comes steps many d literals from next bytes
  pub counts : Counts bytes taken
