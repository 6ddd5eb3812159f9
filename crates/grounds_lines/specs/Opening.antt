-- What is printed first for an input, and what the frames are printed from.
--     Empty     nothing was written
--     Handed    what the writer answered is handed on
--     Opens     refusal 11 with nothing written, else the line of the writer's reply, and what it wrote
-- Assumes nothing.
use Rattle.std.specs.Prelude.{List, ◌≡◌, ℕ, ◌≤◌, ◌<◌, length}
use Rattle.meaning.specs.Replies.{refused, refusal, printed, input_limit}
use Rattle.reply_lines.specs.Prints.{Prints}
use Rattle.writer.specs.Claims.{no_conclusions, Writes}
use Rattle.writer.specs.declared.Grounds.{Grounds}
use Rattle.grounds_lines.specs.declared.opening.Opened.{Opened}

pub record Empty (o : Opened) : Type 0 where
  pub steps : o.steps ≡ 0
  pub literals : o.literals ≡ 0
  pub conclusions : o.conclusions ≡ no_conclusions

pub record Handed (r : Grounds) (o : Opened) : Type 0 where
  pub steps : o.steps ≡ r.steps
  pub literals : o.literals ≡ r.literals
  pub conclusions : o.conclusions ≡ r.conclusions

-- by the run before and after
pub data Opens (input : List ℕ) (steps : List (List ℕ)) (o : Opened) : List (List ℕ) → Type 0 where
  long : input_limit < length input → Prints (printed (refused (refusal 11 0))) o.line.bytes o.line.len → Empty o
      → Opens input steps o steps
  replies : length input ≤ input_limit → (r : Grounds) (steps' : List (List ℕ)) (w : Writes input steps r steps')
      → Prints (printed w.reply) o.line.bytes o.line.len → Handed r o
      → Opens input steps o steps'
