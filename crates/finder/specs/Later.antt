-- The first breach after an assignment.
--     FollowsIn    of the breaches made of representatives that are later than the assignment, the first; as many of its places are read as there are variables
--     FollowsTo    the reply to a text and an assignment: refused as the finder refuses, else what follows
--     Follows      with the four places handed over
-- Assumes nothing.
use Rattle.std.specs.Prelude.{List, ◌≡◌, ℕ, take}
use Rattle.meaning.specs.Context.{Context}
use Rattle.meaning.specs.Rules.{Clause, variables, Before, First, Found}
use Rattle.meaning.specs.Text.{narrow, Refusal, Read, taken, read}
use Rattle.meaning.specs.Replies as M
use Rattle.meaning.specs.Replies.{refused, reply_of, places_of, Replies}
use Rattle.meaning.specs.Listing.{OwnBreach}
use Rattle.replies.specs.Told.{told_by, told_of}
use Rattle.replies.specs.declared.Reply.{Reply}

abbrev pub FollowsIn : Context → Clause → List ℕ → Found → Type 0
FollowsIn c k after r = First (λ a. OwnBreach c k a × Before (take (variables k.patterns) after) a) r

pub data FollowsTo (text after : List ℕ) : M.Reply → Type 0 where
  refuses : (f : Refusal) → Replies narrow text (refused f) → FollowsTo text after (refused f)
  follows : (s : Read) → read narrow text ≡ taken s → (q : Found) → Replies narrow text (reply_of q)
      → (r : Found) → FollowsIn s.ledger.context s.clause after r → FollowsTo text after (reply_of r)

pub record Follows (text after : List ℕ) (r : Reply) : Type 0 where
  pub reply : M.Reply
  pub replies : FollowsTo text after reply
  pub told : told_by r.outcome ≡ told_of reply
  pub places : r.places ≡ places_of reply
