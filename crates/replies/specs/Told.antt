-- What an answer says, in the words of `meaning`.
--     meant             the refusal that the code's struct stands for
--     told_by, told_of    document 01's number for each reply, with a breach's number of variables, or a refusal's number, place and byte
-- Assumes nothing.
use Rattle.std.specs.Prelude.{List, [], ◌∷◌, ℕ, length}
use Rattle.meaning.specs.Text as T
use Rattle.meaning.specs.Replies as M
use Rattle.meaning.specs.Replies.{breach, none, refused}
use Rattle.replies.specs.declared.Refusal.{Refusal}
use Rattle.replies.specs.declared.Outcome.{Outcome}
use Rattle.replies.specs.declared.Outcome.TheVariants.{Breach, Clear, Refused}

abbrev pub meant : Refusal → T.Refusal
meant x = record { number = x.number; place = x.line; offset = x.offset }

abbrev pub told_by : Outcome → List ℕ
told_by (Breach n) = 8 ∷ n ∷ []
told_by Clear = 9 ∷ []
told_by (Refused x) = 10 ∷ x.number ∷ x.line ∷ x.offset ∷ []

abbrev pub told_of : M.Reply → List ℕ
told_of (breach a) = 8 ∷ length a ∷ []
told_of none = 9 ∷ []
told_of (refused r) = 10 ∷ r.number ∷ r.place ∷ r.offset ∷ []
