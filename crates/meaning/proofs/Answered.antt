-- What is computed is what the definitions ask for: each text has a reply that answers it and an answer of the normaliser, and only one.
--     verdict-judged, settles-by          by any table of representatives the reply, and the normal text, are the right ones
--     judge-judged, reply_to-replies       the computed reply is the reply
--     judged-one, replies-one             and there is no other
--     judged-consistent                   a context with a breach or none does not contradict itself
--     normalise-writes, writes_one        the same of the normaliser, lent bytes included
-- Assumes nothing.
use mathlib.Core.Bool.{Bool, true, false}
use mathlib.Core.List.{List, [], ◌∷◌}
use mathlib.Core.Path.{◌≡◌, refl, ap, sym, ◌∙◌, subst}
use Prim.Native.Nat.{ℕ, suc, ◌≤◌}
use native.Mathlib.Omega.{arith}
use lib.Dec.{leb}
use borrow.Author.Tests.{leb-true, leb-false}
use lib.ListN.{length}
use Rattle.meaning.specs.Context.{Context, differences}
use Rattle.meaning.specs.Equality.{Consistent, Representatives}
use Rattle.meaning.specs.Rules.{Clause, Found, found, nothing, Literal}
use Rattle.meaning.specs.Text.{narrow, Refusal, read, Reading, faulty, taken, Limits}
use Rattle.meaning.specs.Writing.{context_text, normal_of}
use Rattle.meaning.specs.Replies.{Judged, empty, clashes, answers, Replies, RepliesTo, Reply, refused, refusal, reply_of, Normal, normal, Normalised, Settled, contradicts, abnormal, settles, Normalises, NormalisesTo, Written, Leaves, fits, short, stays, Writes}
use Rattle.meaning.specs.Formed.{Formed, Fit}
use Rattle.meaning.specs.ByTable.{first, clash_of, Clashing, clear}
use Rattle.meaning.specs.FirstBy.{first_by}
use Rattle.meaning.specs.Following.{differ_by}
use Rattle.meaning.proofs.Promised.{closing-represents}
use Rattle.meaning.proofs.Apartness.{clash-first, clash-clear, first-clash-one}
use Rattle.meaning.proofs.Finds.{answers_one}
use Rattle.meaning.proofs.Taken.{read-formed}
use Rattle.meaning.proofs.Agreement.{normal-one}
use Rattle.meaning.proofs.Computed.{verdict, judge, rep_of, reply_to, reply_on, settled, normalise, leave, normal_on}
use Rattle.meaning.proofs.Computes.{computed-first}

-- by any table of representatives, and with the numbers outside from any offset that is no row
module _ (c : Context) (k : Clause) (formed : Formed c k) (rep : ℕ → ℕ) (represents : Representatives c rep) (offset : ℕ) (high : length c.rows ≤ offset) where
  abbrev reply : Found
  reply = first_by (differ_by c) c.rows rep offset k

  pub verdict-judged : Judged c k (verdict k.literals (clash_of rep (differences c)) reply)
  unfolding verdict
  verdict-judged = go k.literals refl (clash_of rep (differences c)) refl
    where
      go : (ls : List Literal) → k.literals ≡ ls → (x : Clashing) → clash_of rep (differences c) ≡ x → Judged c k (verdict ls x reply)
      go [] e x t = empty e
      go (l ∷ ls) e (first n) t =
          clashes (λ z. absurd (let y : ◌≡◌ {A = ℕ} 0 1 = cc in omega arith)) n (clash-first c formed.fit rep represents n t)
      go (l ∷ ls) e clear t =
          let free : Consistent c = clash-clear c formed.fit rep represents t in
          answers (λ z. absurd (let y : ◌≡◌ {A = ℕ} 0 1 = cc in omega arith)) free reply (computed-first c k formed free rep represents offset high)

pub judge-judged : (c : Context) (k : Clause) → Formed c k → Judged c k (judge c k)
unfolding judge
judge-judged c k f = verdict-judged c k f (rep_of c) (closing-represents c f.fit) (length c.rows) (omega arith)

pub reply_to-replies : (text : List ℕ) → Replies narrow text (reply_to text)
unfolding reply_to reply_on
reply_to-replies text = go (read narrow text) refl
  where
    go : (x : Reading) → read narrow text ≡ x → RepliesTo x (reply_on x)
    go (faulty f) e = refl
    go (taken s) e = judge-judged s.ledger.context s.clause (read-formed narrow text s e)

-- ---- and no other

pub judged-one : (c : Context) (k : Clause) (r s : Reply) → Judged c k r → Judged c k s → r ≡ s
judged-one c k r s (empty e) (empty f) = refl
judged-one c k r s (empty e) (clashes f n x) = absurd (f e)
judged-one c k r s (empty e) (answers f x t y) = absurd (f e)
judged-one c k r s (clashes e n p) (empty f) = absurd (e f)
judged-one c k r s (clashes e n p) (clashes f m q) = ap (λ (i : ℕ). refused (refusal 9 (suc i))) (first-clash-one c n m p q)
judged-one c k r s (clashes e n p) (answers f x t y) = absurd (x n p.0)
judged-one c k r s (answers e p t q) (empty f) = absurd (e f)
judged-one c k r s (answers e p t q) (clashes f n x) = absurd (p n x.0)
judged-one c k r s (answers e p t q) (answers f x u y) = ap reply_of (answers_one c k t u q y)

pub replies-one : (L : Limits) (text : List ℕ) (r s : Reply) → Replies L text r → Replies L text s → r ≡ s
replies-one L text r s = go (read L text)
  where
    go : (x : Reading) → RepliesTo x r → RepliesTo x s → r ≡ s
    go (faulty f) p q = p ∙ sym q
    go (taken x) p q = judged-one x.ledger.context x.clause r s p q

pub judged-consistent : (c : Context) (k : Clause) (r : Found) → Judged c k (reply_of r) → Consistent c
judged-consistent c k r w = go w refl
  where
    never : (f : Refusal) (x : Found) → refused f ≡ reply_of x → ⊥
    never f (found a) e = let z : ◌≡◌ {A = ℕ} 0 1 = cc in omega arith
    never f nothing e = let z : ◌≡◌ {A = ℕ} 0 1 = cc in omega arith

    go : {s : Reply} → Judged c k s → s ≡ reply_of r → Consistent c
    go (empty e) f = absurd (never _ r f)
    go (clashes e n x) f = absurd (never _ r f)
    go (answers e x t y) f = x

-- ---- the normaliser

text-one : (c : Context) → Fit c → (s t : List ℕ) → Normal c s → Normal c t → s ≡ t
text-one c f s t p q = p.2 ∙ ap context_text (normal-one c p.0 q.0 p.1 q.1 f) ∙ sym q.2

settled-one : (c : Context) → Fit c → (r s : Normalised) → Settled c r → Settled c s → r ≡ s
settled-one c f r s (contradicts n p) (contradicts m q) = ap (λ (i : ℕ). abnormal (refusal 9 (suc i))) (first-clash-one c n m p q)
settled-one c f r s (contradicts n p) (settles q t x) = absurd (q n p.0)
settled-one c f r s (settles p t x) (contradicts n q) = absurd (p n q.0)
settled-one c f r s (settles p t x) (settles q u y) = ap normal (text-one c f t u x y)

pub normalises-one : (L : Limits) (text : List ℕ) (r s : Normalised) → Normalises L text r → Normalises L text s → r ≡ s
normalises-one L text r s = go (read L text) refl
  where
    go : (x : Reading) → read L text ≡ x → NormalisesTo x r → NormalisesTo x s → r ≡ s
    go (faulty f) e p q = p ∙ sym q
    go (taken x) e p q = settled-one x.ledger.context (read-formed L text x e).fit r s p q

leaves-one : (lent : List ℕ) (r : Normalised) (a b : Written) (s t : List ℕ) → Leaves lent r a s → Leaves lent r b t → (a ≡ b) × (s ≡ t)
leaves-one lent r a b s t (fits x h) (fits y h') = (refl, refl)
leaves-one lent r a b s t (fits x h) (short y h') = absurd (omega arith)
leaves-one lent r a b s t (short x h) (fits y h') = absurd (omega arith)
leaves-one lent r a b s t (short x h) (short y h') = (refl, refl)
leaves-one lent r a b s t (stays x) (stays y) = (refl, refl)

pub writes_one : (L : Limits) (text lent : List ℕ) (a b : Written) (s t : List ℕ) → Writes L text lent a s → Writes L text lent b t → (a ≡ b) × (s ≡ t)
writes_one L text lent a b s t p q =
    leaves-one lent q.result a b s t
    (subst (λ (r : Normalised). Leaves lent r a s) (normalises-one L text p.result q.result p.normalises q.normalises) p.leaves)
    q.leaves

-- by any table of representatives
pub settles-by : (c : Context) → Fit c → (rep : ℕ → ℕ) → Representatives c rep → clash_of rep (differences c) ≡ clear
    → Settled c (normal (context_text (normal_of rep c)))
settles-by c f rep w e = settles (clash-clear c f rep w e) (context_text (normal_of rep c)) (rep, w, refl)

settled-settles : (c : Context) → Fit c → (x : Clashing) → clash_of (rep_of c) (differences c) ≡ x → Settled c (settled c x)
unfolding settled
settled-settles c f (first n) e = contradicts n (clash-first c f (rep_of c) (closing-represents c f) n e)
settled-settles c f clear e = settles-by c f (rep_of c) (closing-represents c f) e

pub normal_on-normalises : (text : List ℕ) → Normalises narrow text (normal_on (read narrow text))
unfolding normal_on
normal_on-normalises text = go (read narrow text) refl
  where
    go : (x : Reading) → read narrow text ≡ x → NormalisesTo x (normal_on x)
    go (faulty f) e = refl
    go (taken s) e = settled-settles s.ledger.context (read-formed narrow text s e).fit (clash_of (rep_of s.ledger.context) (differences s.ledger.context)) refl

leave-leaves : (lent : List ℕ) (r : Normalised) → Leaves lent r (leave lent r).0 (leave lent r).1
unfolding leave
leave-leaves lent (abnormal r) = stays r
leave-leaves lent (normal text) = go (leb (length text) (length lent)) refl
  where
    go : (b : Bool) → leb (length text) (length lent) ≡ b → Leaves lent (normal text) (leave lent (normal text)).0 (leave lent (normal text)).1
    go true e = rw (e, leave) (fits text (leb-true (length text) (length lent) e))
    go false e = rw (e, leave) (short text (leb-false (length text) (length lent) e))

pub normalise-writes : (text lent : List ℕ) → Writes narrow text lent (normalise text lent).0 (normalise text lent).1
unfolding normalise
normalise-writes text lent =
    record {
      result = normal_on (read narrow text);
      normalises = normal_on-normalises text;
      leaves = leave-leaves lent (normal_on (read narrow text));
    }
