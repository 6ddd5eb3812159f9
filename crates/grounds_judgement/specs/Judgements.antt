-- What is answered to anybody's grounds for a breach of a text's rule.
--     Judgement   a verdict on the grounds, or the text's refusal
--     Weighed     the judgement by a context and a clause: 8, then 9, then the verdict
--     Judges      the judgement by a text: its first faulty line comes before everything
--     BreachOf    an assignment, by the places that are read, is a breach of the rule that a text says
-- Assumes nothing.
use Rattle.std.specs.Prelude.{List, [], ◌≡◌, ℕ, suc, take}
use Rattle.meaning.specs.Context.{Context}
use Rattle.meaning.specs.Equality.{FirstClash, Consistent}
use Rattle.meaning.specs.Rules.{variables, range_of, Clause, Breach}
use Rattle.meaning.specs.Text.{Limits, Refusal, Read, faulty, taken, read}
use Rattle.meaning.specs.Replies.{refusal}
use Rattle.meaning.specs.Grounds.{Step, Conclusion, Verdict, Verified}

pub data Judgement : Type 0 where
  judged : Verdict → Judgement
  refused : Refusal → Judgement

module _ (a : List ℕ) (steps : List Step) (ds : List Conclusion) where
  pub data Weighed (c : Context) (k : Clause) : Judgement → Type 0 where
    empty : k.literals ≡ [] → Weighed c k (refused (refusal 8 0))
    clashes : (k.literals ≡ [] → ⊥) → (n : ℕ) → FirstClash c n → Weighed c k (refused (refusal 9 (suc n)))
    weighs : (k.literals ≡ [] → ⊥) → Consistent c → (v : Verdict) → Verified c k a steps ds v → Weighed c k (judged v)

  pub data Judges (L : Limits) (text : List ℕ) : Judgement → Type 0 where
    faults : (f : Refusal) → read L text ≡ faulty f → Judges L text (refused f)
    judges : (s : Read) → read L text ≡ taken s → (j : Judgement) → Weighed s.ledger.context s.clause j → Judges L text j

pub record BreachOf (L : Limits) (text a : List ℕ) : Type 0 where
  pub said : Read
  pub reads : read L text ≡ taken said
  pub breach : Breach said.ledger.context (range_of said.ledger.context) said.clause (take (variables said.clause.patterns) a)
