-- What the program claims of a run. No contract can name what is read, so each claim says only that there is an input.
--     taken_by                 whether the input goes on after a piece: it ended with one that is not full
--     parser_of                the parser behind what was taken in
--     Takes                   an input was taken in
--     TakesPiece, TakesAll    a piece, of at least a byte where there may be more; all pieces, more than can be counted where there may still be more
--     Spaces, Ready           the spaces are long enough; they were, and an input was taken in from the start to its end
--     Verified, Verifies      a line is the one that an input asks for; it stands at the front of an array
-- Assumes nothing.
use Rattle.std.specs.Prelude.{true, false, List, ◌≡◌, ℕ, ◌≤◌, ◌<◌, ltb, length}
use Rattle.meaning.specs.Text.{narrow}
use Rattle.meaning.specs.Replies.{input_limit}
use Rattle.grounds_intake.specs.Machine.{Memory, memory, fresh, fed}
use Rattle.grounds_intake.specs.declared.Parser.{Parser}
use Rattle.grounds_replies.specs.Replies.{step_limit, VerifyPrints}
use Rattle.reply_lines.specs.Prints.{Prints}
use Rattle.reply_lines.specs.declared.Line.{Line}
use Rattle.channels.specs.Taking.{piece_space}
use Rattle.verify.specs.declared.Taken.{Taken}
use Rattle.verify.specs.declared.Taken.TheVariants.{More, Ended}

abbrev pub taken_by : Parser → ℕ → Taken
taken_by p n = elim (ltb n piece_space) [ true ↦ Ended p | false ↦ More p ]

abbrev pub parser_of : Taken → Parser
parser_of (More p) = p
parser_of (Ended p) = p

pub record Takes (m : Memory) (p : Parser) (text : List ℕ) (steps : List (List ℕ)) : Type 0 where
  pub input : List ℕ
  pub same : memory p text steps ≡ fed input m

pub record TakesPiece (m : Memory) (r : Taken) (text : List ℕ) (steps : List (List ℕ)) : Type 0 where
  pub takes : Takes m (parser_of r) text steps
  pub some : (p : Parser) → r ≡ More p → 0 < length takes.input

pub record TakesAll (m : Memory) (r : Taken) (text : List ℕ) (steps : List (List ℕ)) : Type 0 where
  pub takes : Takes m (parser_of r) text steps
  pub endless : (p : Parser) → r ≡ More p → 18446744073709551615 ≤ length takes.input

pub record Spaces (text : List ℕ) (steps : List (List ℕ)) : Type 0 where
  pub text-long : input_limit ≤ length text
  pub steps-long : step_limit ≤ length steps

-- by the spaces before; the input was taken in to its end
pub record Ready (r : Taken) (text : List ℕ) (steps : List (List ℕ)) : Type 0 where
  pub text₀ : List ℕ
  pub steps₀ : List (List ℕ)
  pub spaces : Spaces text₀ steps₀
  pub takes : Takes (memory fresh text₀ steps₀) (parser_of r) text steps
  pub ended : r ≡ Ended (parser_of r)

pub record Verified (line : List ℕ) : Type 0 where
  pub input : List ℕ
  pub asked : VerifyPrints narrow input line

pub record Verifies (r : Line) : Type 0 where
  pub line : List ℕ
  pub verified : Verified line
  pub prints : Prints line r.bytes r.len
