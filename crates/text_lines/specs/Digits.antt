-- What the look-up of a digit answers.
-- Assumes nothing.
use Rattle.std.specs.Prelude.{ℕ, ltb, Option, Some, None, cond}
use Rattle.meaning.specs.Text.{digit}

unfoldable pub digit_of : ℕ → Option ℕ
digit_of b = cond (ltb (digit b) 16) (Some (digit b)) None
