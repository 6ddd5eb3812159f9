-- What follows from an answer of the writer.
--     answers_one       a text and a space have one reply
--     writes-finds      where there is room, the reply is the finder's
--     writes_one        two answers to one text have one outcome and one assignment
--     writes-bare       and are equal, with equal runs, where there is no breach
--     refused-positive  the finder's refusals are from 1 on
--     writes-fit        no answer is that to what is unfit
--     writes-many       for a breach the run holds as many steps as are told
--     writes-accepted   the checker accepts what is written for a breach
-- Assumes nothing.
use mathlib.Core.List.{List, []}
use mathlib.Core.Path.{◌≡◌, refl, sym, ap, ◌∙◌, subst}
use Prim.Native.Nat.{ℕ, ◌≤◌}
use native.Mathlib.Omega.{arith}
use lib.ListN.{length, take, length-map}
use lib.Seq.{length-take-le}
use Rattle.meaning.specs.Context.{Context}
use Rattle.meaning.specs.Equality.{Consistent}
use Rattle.meaning.specs.Rules.{Clause, found, nothing}
use Rattle.meaning.specs.Text.{narrow, Refusal, Reading, faulty, taken, read}
use Rattle.meaning.specs.Replies.{Reply, breach, none, refused, reply_of, places_of, Judged, empty, clashes, answers, Replies, RepliesTo}
use Rattle.meaning.specs.Grounds.{accepted}
use Rattle.meaning.proofs.Answered.{replies-one}
use Rattle.meaning.proofs.Bounds.{read-bounded}
use Rattle.search.specs.declared.Kind.TheVariants as S
use Rattle.grounds_verdict.specs.declared.Fault.{Fault}
use Rattle.grounds_verdict.specs.declared.Conclusions.{Conclusions}
use Rattle.grounds_judgement.specs.Judgements as J
use Rattle.grounds_judgement.specs.Claims.{JudgesTo}
use Rattle.replies.specs.declared.Refusal.{Refusal as Told}
use Rattle.std.specs.Prelude.{Result, Ok}
use Rattle.grounds_judgement.proofs.Answers.{judges-one}
use Rattle.replies.specs.Told.{told_by, told_of}
use Rattle.finder.specs.Claims.{Finds}
use Rattle.replies.specs.declared.Outcome.{Outcome}
use Rattle.replies.specs.declared.Outcome.TheVariants as O
use Rattle.ruling.proofs.Ruling.{found-never}
use Rattle.finder.proofs.Judging.{told-one}
use Rattle.grounds_steps.specs.Steps.{step_of, steps_of, most_steps}
use Rattle.writer.specs.Claims.{Answers, refuses, lacks, replies, Bare, steps_in, ShownFor, Leaves, Writes}
use Rattle.writer.specs.Seeking.{outcome_by}
use Rattle.writer.specs.declared.Grounds.{Grounds}

-- ---- the reply

pub answers_one : (text : List ℕ) (room : ℕ) (x y : Reply) → Answers text room x → Answers text room y → x ≡ y
answers_one text room x y (refuses f p) (refuses g q) = replies-one narrow text (refused f) (refused g) p q
answers_one text room x y (refuses f p) (lacks r q h) = absurd (found-never f r (replies-one narrow text (reply_of r) (refused f) q p))
answers_one text room x y (refuses f p) (replies r q h) = absurd (found-never f r (replies-one narrow text (reply_of r) (refused f) q p))
answers_one text room x y (lacks r q h) (refuses f p) = absurd (found-never f r (replies-one narrow text (reply_of r) (refused f) q p))
answers_one text room x y (lacks r q h) (lacks s p l) = refl
answers_one text room x y (lacks r q h) (replies s p l) = absurd (omega arith)
answers_one text room x y (replies r q h) (refuses f p) = absurd (found-never f r (replies-one narrow text (reply_of r) (refused f) q p))
answers_one text room x y (replies r q h) (lacks s p l) = absurd (omega arith)
answers_one text room x y (replies r q h) (replies s p l) = replies-one narrow text (reply_of r) (reply_of s) q p

answers-replies : (text : List ℕ) (room : ℕ) (x : Reply) → most_steps ≤ room → Answers text room x → Replies narrow text x
answers-replies text room x l (refuses f p) = p
answers-replies text room x l (lacks r q h) = absurd (omega arith)
answers-replies text room x l (replies r q h) = q

judged-positive : (c : Context) (k : Clause) (u : Reply) (f : Refusal) → Judged c k u → u ≡ refused f → 1 ≤ f.number
judged-positive c k u f (empty l) e = let z : 8 ≡ f.number = cc in omega arith
judged-positive c k u f (clashes l n h) e = let z : 9 ≡ f.number = cc in omega arith
judged-positive c k u f (answers l h (found a) w) e = absurd (let z : ◌≡◌ {A = ℕ} 0 1 = cc in omega arith)
judged-positive c k u f (answers l h nothing w) e = absurd (let z : ◌≡◌ {A = ℕ} 0 1 = cc in omega arith)

pub refused-positive : (text : List ℕ) (f : Refusal) → Replies narrow text (refused f) → 1 ≤ f.number
refused-positive text f = go (read narrow text) refl
  where
    go : (g : Reading) → read narrow text ≡ g → RepliesTo g (refused f) → 1 ≤ f.number
    go (faulty g) e q = let z : f ≡ g = cc in subst (λ (x : Refusal). 1 ≤ x.number) (sym z) (read-bounded narrow text g e).number_low
    go (taken s) e q = judged-positive s.ledger.context s.clause (refused f) f q refl

-- a breach is told where one is replied
breach-told : (o : Outcome) (a : List ℕ) → told_by o ≡ told_of (breach a) → (n : ℕ) × (o ≡ O.Breach n)
breach-told (O.Breach n) a e = (n, refl)
breach-told O.Clear a e = absurd (let z : ◌≡◌ {A = ℕ} 9 8 = cc in omega arith)
breach-told (O.Refused x) a e = absurd (let z : ◌≡◌ {A = ℕ} 10 8 = cc in omega arith)

told-breach : (n : ℕ) (y : Reply) → told_by (O.Breach n) ≡ told_of y → (a : List ℕ) × (y ≡ breach a)
told-breach n (breach a) e = (a, refl)
told-breach n none e = absurd (let z : ◌≡◌ {A = ℕ} 8 9 = cc in omega arith)
told-breach n (refused f) e = absurd (let z : ◌≡◌ {A = ℕ} 8 10 = cc in omega arith)

module _ (text : List ℕ) (steps : List (List ℕ)) where
  pub writes-finds : (r : Grounds) (x : List (List ℕ)) → most_steps ≤ length steps → Writes text steps r x
      → Finds text (record { outcome = r.outcome; places = r.places })
  writes-finds r x l w =
      record { reply = w.reply; replies = answers-replies text (length steps) w.reply l w.answers; told = w.told; places = w.places }

  -- ---- one answer

  module _ (r q : Grounds) (x x' : List (List ℕ)) (v : Writes text steps r x) (w : Writes text steps q x') where
    reply-one : v.reply ≡ w.reply
    reply-one = answers_one text (length steps) v.reply w.reply v.answers w.answers

    outcome-one : r.outcome ≡ q.outcome
    outcome-one = told-one r.outcome q.outcome (v.told ∙ ap told_of reply-one ∙ sym w.told)

    pub writes_one : (r.outcome ≡ q.outcome) × (r.places ≡ q.places)
    writes_one = (outcome-one, v.places ∙ ap places_of reply-one ∙ sym w.places)

  pub writes-fit : (r : Grounds) (x : List (List ℕ)) → Writes text steps r x → r.outcome ≡ outcome_by S.Unfit → ⊥
  writes-fit r x w e = go w.reply w.answers (ap told_by (sym e) ∙ w.told)
    where
      go : (u : Reply) → Answers text (length steps) u → told_by (outcome_by S.Unfit) ≡ told_of u → ⊥
      go u (refuses f p) q = let n : 0 ≡ f.number = cc in omega (arith, refused-positive text f p)
      go u (lacks d p h) q = let n : ◌≡◌ {A = ℕ} 0 10 = cc in omega arith
      go u (replies (found a) p h) q = let n : ◌≡◌ {A = ℕ} 10 8 = cc in omega arith
      go u (replies nothing p h) q = let n : ◌≡◌ {A = ℕ} 10 9 = cc in omega arith

  bare : (r : Grounds) (x : List (List ℕ)) → ((n : ℕ) → r.outcome ≡ O.Breach n → ⊥) → (u : Reply) → told_by r.outcome ≡ told_of u
      → Leaves steps r x text u
      → Bare steps r x
  bare r x never (breach a) e w = let t : (n : ℕ) × (r.outcome ≡ O.Breach n) = breach-told r.outcome a e in absurd (never t.0 t.1)
  bare r x never none e w = w
  bare r x never (refused f) e w = w

  module _ (r q : Grounds) (x x' : List (List ℕ)) (v : Writes text steps r x) (w : Writes text steps q x')
      (never : (n : ℕ) → r.outcome ≡ O.Breach n → ⊥) where
    left : Bare steps r x
    left = bare r x never v.reply v.told v.leaves

    right : Bare steps q x'
    right = bare q x' (λ n e. never n ((writes_one r q x x' v w).0 ∙ e)) w.reply w.told w.leaves

    same_parts : {o o' : Outcome} {a a' : List ℕ} {n n' m m' : ℕ} {d d' : Conclusions} → o ≡ o' → a ≡ a' → n ≡ n' → m ≡ m' → d ≡ d'
        → ◌≡◌ {A = Grounds} (record { outcome = o; places = a; steps = n; literals = m; conclusions = d }) (record { outcome = o'; places = a'; steps = n'; literals = m'; conclusions = d' })
    same_parts e f g h i = rw (e, f, g, h, i)

    pub writes-bare : (r ≡ q) × (x ≡ x')
    writes-bare = (
      same_parts (writes_one r q x x' v w).0 (writes_one r q x x' v w).1 (left.count ∙ sym right.count) (left.literals ∙ sym right.literals)
          (left.conclusions ∙ sym right.conclusions),
      left.words ∙ sym right.words,
    )

  -- ---- the checker's answer

  judged-ready : (c : Context) (k : Clause) (a : List ℕ) (u : Reply) → u ≡ breach a → Judged c k u → (k.literals ≡ [] → ⊥) × Consistent c
  judged-ready c k a u e (empty l) = absurd (let z : ◌≡◌ {A = ℕ} 0 1 = cc in omega arith)
  judged-ready c k a u e (clashes l n h) = absurd (let z : ◌≡◌ {A = ℕ} 0 1 = cc in omega arith)
  judged-ready c k a u e (answers l h q w) = (l, h)

  module _ (r : Grounds) (x : List (List ℕ)) (w : Writes text steps r x) (n : ℕ) (e : r.outcome ≡ O.Breach n) where
    found-reply : (a : List ℕ) × (w.reply ≡ breach a)
    found-reply = told-breach n w.reply (ap told_by (sym e) ∙ w.told)

    shown : ShownFor steps r x text
    shown = subst (Leaves steps r x text) found-reply.1 w.leaves

    replied : (u : Reply) → u ≡ breach found-reply.0 → Answers text (length steps) u → Replies narrow text u
    replied u f (refuses g p) = p
    replied u f (lacks q p h) = absurd (let o : ◌≡◌ {A = ℕ} 0 1 = cc in omega arith)
    replied u f (replies q p h) = p

    ready : (shown.said.clause.literals ≡ [] → ⊥) × Consistent shown.said.ledger.context
    ready =
        judged-ready shown.said.ledger.context shown.said.clause found-reply.0 w.reply found-reply.1
        (subst (λ (g : Reading). RepliesTo g w.reply) shown.reads (replied w.reply found-reply.1 w.answers))

    roomy : (u : Reply) → u ≡ breach found-reply.0 → Answers text (length steps) u → most_steps ≤ length steps
    roomy u f (refuses g p) = absurd (let o : ◌≡◌ {A = ℕ} 0 1 = cc in omega arith)
    roomy u f (lacks q p h) = absurd (let o : ◌≡◌ {A = ℕ} 0 1 = cc in omega arith)
    roomy u f (replies q p h) = h

    fits : r.steps ≤ length steps
    fits = omega (arith, shown.shown.few, roomy w.reply found-reply.1 w.answers)

    pub writes-many : length (steps_in r.steps x) ≡ r.steps
    unfolding steps_of
    writes-many = length-map (take r.steps x) step_of ∙ length-take-le r.steps x (omega (arith, fits, shown.shown.words.long))

    pub writes-accepted : (o : Result (Result (Unit {0}) Fault) Told) → JudgesTo text r.places (take r.steps x) r.conclusions o → o ≡ Ok (Ok tt)
    writes-accepted o j =
        judges-one text r.places (take r.steps x) r.conclusions o (Ok (Ok tt)) j
        (record {
          judges = J.judges shown.said shown.reads (J.judged accepted) (J.weighs ready.0 ready.1 accepted shown.shown.verified);
        })
