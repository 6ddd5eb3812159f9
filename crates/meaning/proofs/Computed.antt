-- The finder and the normaliser as functions that compute: what the demands are proved of, and what the sheet is computed by.
--     reply_to      the reply to a text
--     normalise    the answer to a text, and the lent space afterwards
-- Assumes nothing.
use mathlib.Core.Bool.{true, false}
use mathlib.Core.List.{List, [], ◌∷◌, ◌++◌}
use Prim.Native.Nat.{ℕ, suc}
use lib.Dec.{leb}
use lib.ListN.{length, drop}
use Rattle.meaning.specs.Context.{Context, equations, differences}
use Rattle.meaning.specs.Equality.{rep_at}
use Rattle.meaning.specs.Rules.{Literal, Clause, Found}
use Rattle.meaning.specs.Text.{narrow, Reading, faulty, taken, read}
use Rattle.meaning.specs.Writing.{context_text, normal_of}
use Rattle.meaning.specs.Replies.{refusal, Reply, refused, reply_of, Normalised, normal, abnormal, Written, wrote, unwritten}
use Rattle.meaning.specs.ByTable.{Clashing, first, clear, clash_of}
use Rattle.meaning.specs.FirstBy.{first_by}
use Rattle.meaning.specs.Closing.{close}
use Rattle.meaning.specs.Following.{differ_by}

abbrev pub rep_of : Context → ℕ → ℕ
rep_of c = rep_at (close c.rows (equations c))

unfoldable pub verdict : List Literal → Clashing → Found → Reply
verdict [] x r = refused (refusal 8 0)
verdict (l ∷ ls) (first n) r = refused (refusal 9 (suc n))
verdict (l ∷ ls) clear r = reply_of r

unfoldable pub judge : Context → Clause → Reply
judge c k =
    verdict k.literals (clash_of (rep_of c) (differences c))
    (first_by (differ_by c) c.rows (rep_of c) (length c.rows) k)

unfoldable pub reply_on : Reading → Reply
reply_on (faulty f) = refused f
reply_on (taken s) = judge s.ledger.context s.clause

unfoldable pub reply_to : List ℕ → Reply
reply_to text = reply_on (read narrow text)

unfoldable pub settled : Context → Clashing → Normalised
settled c (first n) = abnormal (refusal 9 (suc n))
settled c clear = normal (context_text (normal_of (rep_of c) c))

unfoldable pub normal_on : Reading → Normalised
normal_on (faulty f) = abnormal f
normal_on (taken s) = settled s.ledger.context (clash_of (rep_of s.ledger.context) (differences s.ledger.context))

unfoldable pub leave : List ℕ → Normalised → Written × List ℕ
leave lent (normal text) =
    elim (leb (length text) (length lent)) [
      | true ↦ (wrote (length text), text ++ drop (length text) lent)
      | false ↦ (unwritten (refusal 10 0), lent)
    ]
leave lent (abnormal r) = (unwritten r, lent)

unfoldable pub normalise : List ℕ → List ℕ → Written × List ℕ
normalise text lent = leave lent (normal_on (read narrow text))
