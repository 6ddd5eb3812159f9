-- What the function claims that gives the output of `verify`.
--     lowest        each number's low byte
--     line_of        the line of an answer
--     Answered      the judgement on what was taken in
--     PrintsFor     the line for it
-- Assumes nothing.
use Rattle.std.specs.Prelude.{List, ◌∷◌, map, ℕ, ◌%◌, ◌≤◌, ◌<◌, take, Ok, Err}
use Rattle.meaning.specs.Writing.{frame}
use Rattle.meaning.specs.Replies.{refusal, input_limit}
use Rattle.meaning.specs.Grounds.{Verdict, case_of, details_of}
use Rattle.grounds_verdict.specs.Claims.{verdict_of}
use Rattle.replies.specs.Told.{meant}
use Rattle.grounds_judgement.specs.Judgements.{refused}
use Rattle.grounds_judgement.specs.Claims.{Outcome, JudgesTo}
use Rattle.grounds_intake.specs.declared.Parser.{Parser}
use Rattle.reply_lines.specs.Prints.{Prints}
use Rattle.grounds_replies.specs.Replies.{printed, step_limit}
use Rattle.reply_lines.specs.declared.Line.{Line}

abbrev pub lowest : List ℕ → List ℕ
lowest l = map (λ x. x % 256) l

-- a verdict's values as bytes
abbrev pub verdict_line : Verdict → List ℕ
verdict_line v = frame (11 ∷ case_of v ∷ lowest (details_of v))

abbrev pub line_of : Outcome → List ℕ
line_of (Ok a) = verdict_line (verdict_of a)
line_of (Err x) = printed (refused (meant x))

pub record Answered (p : Parser) (text : List ℕ) (steps : List (List ℕ)) (o : Outcome) : Type 0 where
  pub judges : JudgesTo (take p.head.size text) p.places (take p.steps steps) p.noted.conclusions o

pub data PrintsFor (p : Parser) (text : List ℕ) (steps : List (List ℕ)) (r : Line) : Type 0 where
  over : input_limit < p.head.size → Prints (printed (refused (refusal 11 0))) r.bytes r.len → PrintsFor p text steps r
  past : p.head.size ≤ input_limit → step_limit < p.steps → Prints (printed (refused (refusal 11 0))) r.bytes r.len → PrintsFor p text steps r
  answers : p.head.size ≤ input_limit → p.steps ≤ step_limit → (o : Outcome) → Answered p text steps o → Prints (line_of o) r.bytes r.len
      → PrintsFor p text steps r
