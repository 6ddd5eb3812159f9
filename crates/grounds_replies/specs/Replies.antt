-- What the program `verify` has to print for an input.
--     bytes_of        the bytes of a judgement's line: 0B, the verdict's number and values; or 0A, the refusal's
--     printed        the line
--     VerifyPrints   the line for an input: 11 first, then the judgement on the grounds
-- Assumes nothing.
use Rattle.std.specs.Prelude.{List, ◌∷◌, ℕ, ◌≤◌, ◌<◌, length, drop}
use Rattle.meaning.specs.Text.{Limits}
use Rattle.meaning.specs.Writing.{frame}
use Rattle.meaning.specs.Replies as M
use Rattle.meaning.specs.Replies.{refusal, code_of, values_of, input_limit}
use Rattle.meaning.specs.Grounds.{case_of, details_of}
use Rattle.grounds_steps.specs.Steps.{steps_of, most_steps}
use Rattle.grounds_judgement.specs.Judgements.{Judgement, judged, refused, Judges}
use Rattle.grounds_intake.specs.Parsing.{text_of, ground_lines, places_in, steps_in, conclusions_in}

unfoldable pub bytes_of : Judgement → List ℕ
bytes_of (judged v) = 11 ∷ case_of v ∷ details_of v
bytes_of (refused x) = code_of (M.refused x) ∷ values_of (M.refused x)

unfoldable pub printed : Judgement → List ℕ
printed j = frame (bytes_of j)

-- the most steps that the program takes
abbrev pub step_limit : ℕ
step_limit = most_steps

-- the words of all steps
abbrev pub given_in : List ℕ → List (List ℕ)
given_in input = steps_in (drop 1 (ground_lines input))

pub data VerifyPrints (L : Limits) (input : List ℕ) : List ℕ → Type 0 where
  long : input_limit < length (text_of input) → VerifyPrints L input (printed (refused (refusal 11 0)))
  many : step_limit < length (given_in input) → VerifyPrints L input (printed (refused (refusal 11 0)))
  judges : length (text_of input) ≤ input_limit → length (given_in input) ≤ step_limit → (j : Judgement)
      → Judges (places_in (ground_lines input)) (steps_of (given_in input)) (conclusions_in (drop 1 (ground_lines input))) L (text_of input) j
      → VerifyPrints L input (printed j)
