-- The line that stands at the front of some bytes.
--     line_space how many they are: enough for the line of any reply
--     Prints    the first bytes are the line, the others 0, and the length is the line's
--     line_by    the line of an outcome and the rows of its variables
-- Assumes nothing.
use Rattle.std.specs.Prelude.{List, ◌++◌, map, ◌≡◌, ℕ, ◌-◌, length, take, replicate}
use Rattle.meaning.specs.Replies.{breach, none, refused, printed}
use Rattle.replies.specs.Told.{meant}
use Rattle.replies.specs.declared.Outcome.{Outcome}
use Rattle.replies.specs.declared.Outcome.TheVariants.{Breach, Clear, Refused}
use Rattle.reply_lines.specs.Pieces.{low8}

abbrev pub line_space : ℕ
line_space = 32

pub record Prints (line bytes : List ℕ) (len : ℕ) : Type 0 where
  pub size : len ≡ length line
  pub front : bytes ≡ line ++ replicate (line_space - length line) 0

abbrev pub line_by : Outcome → List ℕ → List ℕ
line_by (Breach n) places = printed (breach (map low8 (take n places)))
line_by Clear places = printed none
line_by (Refused x) places = printed (refused (meant x))
