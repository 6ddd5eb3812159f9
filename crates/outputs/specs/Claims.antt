-- What the functions claim that give a program's output.
--     PrintsFound              the finder program's line for an input, and zeros after it
--     normal_limit              the most bytes that a normal text has, of `normaliser`
--     PartsOf, PrintsNormal    what the normaliser program prints: bytes of the lent space, or a line; and the space afterwards
-- Assumes nothing.
use Rattle.std.specs.Prelude.{List, [], ◌≡◌, ℕ, ◌≤◌, ◌<◌, length}
use Rattle.meaning.specs.Text.{narrow}
use Rattle.meaning.specs.Replies.{refused, refusal, printed, input_limit, FindPrints, Written, wrote, unwritten, Writes}
use Rattle.reply_lines.specs.Prints.{Prints}
pub use Rattle.normaliser.specs.Claims.{normal_limit}
use Rattle.reply_lines.specs.declared.Line.{Line}
use Rattle.outputs.specs.declared.Parts.{Parts}

pub record PrintsFound (input : List ℕ) (r : Line) : Type 0 where
  pub line : List ℕ
  pub prints : FindPrints narrow input line
  pub front : Prints line r.bytes r.len

abbrev pub PartsOf : Written → Parts → Type 0
PartsOf (wrote n) r = (r.text ≡ n) × Prints [] r.line.bytes r.line.len
PartsOf (unwritten x) r = (r.text ≡ 0) × Prints (printed (refused x)) r.line.bytes r.line.len

-- refusal 11 before everything else; else the normaliser's answer
pub data Answers (input space : List ℕ) : Written → List ℕ → Type 0 where
  over : input_limit < length input → Answers input space (unwritten (refusal 11 0)) space
  within : length input ≤ input_limit → (a : Written) (after : List ℕ) → Writes narrow input space a after → Answers input space a after

pub record PrintsNormal (input space : List ℕ) (r : Parts) (after : List ℕ) : Type 0 where
  pub answer : Written
  pub answers : Answers input space answer after
  pub parts : PartsOf answer r
