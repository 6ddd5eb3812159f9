-- What the answers of the code say, in the words of `meaning`.
--     reply_in                  the finder's reply: a breach has as many rows as it says, from the four places
--     Find, Normalise          a function that meets the contract of `finder::find`, or of `normaliser::normalise`
--     finder_of, normaliser_of   such a function as the demands speak of it
--     shown_in                  the bytes of a line that are printed
--     Spaces, ended            the spaces that are lent for `verify`, and what they hold after an input
--     PrintsAfter              the contract of `grounds_replies::reply` then
-- Assumes nothing.
use Rattle.std.specs.Prelude.{List, ℕ, ◌≤◌, length, take, Result}
use Rattle.meaning.specs.Text.{narrow}
use Rattle.meaning.specs.Replies as M
use Rattle.meaning.specs.Replies.{breach, none, refused, input_limit, Writes}
use Rattle.meaning.specs.Demands.{Finder, Normaliser}
use Rattle.replies.specs.Told.{meant}
use Rattle.finder.specs.Claims.{Finds}
use Rattle.replies.specs.declared.Outcome.{Outcome}
use Rattle.replies.specs.declared.Outcome.TheVariants.{Breach, Clear, Refused}
use Rattle.replies.specs.declared.Reply.{Reply}
use Rattle.normaliser.specs.Claims.{written_by}
use Rattle.replies.specs.declared.Refusal.{Refusal}
use Rattle.reply_lines.specs.declared.Line.{Line}
use Rattle.grounds_intake.specs.Machine.{Memory, memory, fresh, fed, finished}
use Rattle.grounds_replies.specs.Replies.{step_limit}
use Rattle.grounds_replies.specs.Claims.{PrintsFor}

abbrev pub reply_by : Outcome → List ℕ → M.Reply
reply_by (Breach n) places = breach (take n places)
reply_by Clear places = none
reply_by (Refused x) places = refused (meant x)

abbrev pub reply_in : Reply → M.Reply
reply_in r = reply_by r.outcome r.places

abbrev pub Find : (List ℕ → Reply) → Type 0
Find f = (text : List ℕ) → Finds text (f text)

abbrev pub finder_of : (List ℕ → Reply) → Finder
finder_of f text = reply_in (f text)

abbrev pub Normalise : (List ℕ → List ℕ → Result ℕ Refusal × List ℕ) → Type 0
Normalise n = (text lent : List ℕ) → Writes narrow text lent (written_by (n text lent).0) (n text lent).1

abbrev pub normaliser_of : (List ℕ → List ℕ → Result ℕ Refusal × List ℕ) → Normaliser
normaliser_of n text lent = (written_by (n text lent).0, (n text lent).1)

abbrev pub shown_in : Line → List ℕ
shown_in l = take l.len l.bytes

-- ---- `verify`: spaces that are long enough, what they hold after an input, and the line for it

pub record Spaces (text : List ℕ) (steps : List (List ℕ)) : Type 0 where
  pub text-long : input_limit ≤ length text
  pub steps-long : step_limit ≤ length steps

abbrev pub ended : List ℕ → List (List ℕ) → List ℕ → Memory
ended text steps input = finished (fed input (memory fresh text steps))

abbrev pub PrintsAfter : Memory → Line → Type 0
PrintsAfter m l = PrintsFor m.parser m.text m.steps l
