-- Every rule gets the same reply over a context and over its normal context.
--     normal-answers   a context and its normal context answer a clause alike
--     normal-judged    and so reply to it alike, where the context does not contradict itself
-- Assumes nothing.
use mathlib.Core.List.{List, [], ◌∷◌}
use mathlib.Core.Logic.{◌↔◌}
use Prim.Native.Nat.{ℕ}
use Rattle.meaning.specs.Context.{Term, Context}
use Rattle.meaning.specs.Equality.{EqualIn, ApartIn, Consistent, Representatives}
use Rattle.meaning.specs.Rules.{Literal, equal, unequal, Clause, AllHold, Breach, Found, found, nothing, First, Answers, range_of}
use Rattle.meaning.specs.Writing.{normal_of}
use Rattle.meaning.specs.Replies.{Reply, Judged, empty, clashes, answers}
use Rattle.meaning.specs.Formed.{Fit}
use Rattle.meaning.proofs.Normals.{normal-equal, normal-apart, normal-consistent}
use Rattle.meaning.proofs.Following.{differ-over}

-- ---- from a context to another, where what is equal, and what is kept apart, is so in the other

module _ (c d : Context) (equals : (s t : Term) → EqualIn c s t → EqualIn d s t) (aparts : (s t : Term) → ApartIn c s t → ApartIn d s t) where
  hold-over : (ts : List Term) (ls : List Literal) → AllHold c ts ls → AllHold d ts ls
  hold-over ts [] h = tt
  hold-over ts (equal p q ∷ ls) h = (equals _ _ h.0, hold-over ts ls h.1)
  hold-over ts (unequal p q ∷ ls) h = (differ-over c d equals aparts _ _ h.0, hold-over ts ls h.1)

  breach-over : (range : List Term) (k : Clause) (a : List ℕ) → Breach c range k a → Breach d range k a
  breach-over range k a b = record { long = b.long; inside = b.inside; holds = hold-over _ k.literals b.holds }

-- the first of those that are so, and of those that are so too
first-over : (P Q : List ℕ → Type 0) → ((a : List ℕ) → P a → Q a) → ((a : List ℕ) → Q a → P a) → (r : Found) → First P r → First Q r
first-over P Q f g (found a) h = (f a h.0, λ b q. h.1 b (g b q))
first-over P Q f g nothing h = λ b q. h b (g b q)

-- ---- a context and its normal context

module _ (c : Context) (rep : ℕ → ℕ) (represents : Representatives c rep) (fit : Fit c) (k : Clause) where
  forth : (a : List ℕ) → Breach c (range_of c) k a → Breach (normal_of rep c) (range_of c) k a
  forth = breach-over c (normal_of rep c) (λ s t. (normal-equal c rep represents fit s t).0) (λ s t. (normal-apart c rep represents fit s t).0) (range_of c) k

  back : (a : List ℕ) → Breach (normal_of rep c) (range_of c) k a → Breach c (range_of c) k a
  back = breach-over (normal_of rep c) c (λ s t. (normal-equal c rep represents fit s t).1) (λ s t. (normal-apart c rep represents fit s t).1) (range_of c) k

  pub normal-answers : (r : Found) → Answers c k r ↔ Answers (normal_of rep c) k r
  unfolding normal_of
  normal-answers r = (first-over _ _ forth back r, first-over _ _ back forth r)

  pub normal-judged : Consistent c → (r : Reply) → Judged c k r ↔ Judged (normal_of rep c) k r
  normal-judged free r = (over, under)
    where
      over : {r : Reply} → Judged c k r → Judged (normal_of rep c) k r
      over (empty e) = empty e
      over (clashes e n f) = absurd (free n f.0)
      over (answers e f r a) = answers e ((normal-consistent c rep represents fit).0 f) r ((normal-answers r).0 a)

      under : {r : Reply} → Judged (normal_of rep c) k r → Judged c k r
      under (empty e) = empty e
      under (clashes e n f) = absurd ((normal-consistent c rep represents fit).0 free n f.0)
      under (answers e f r a) = answers e free r ((normal-answers r).1 a)
