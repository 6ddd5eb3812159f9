-- What follows from a judgement.
--     accepted-breach                what is accepted is a breach of the text's rule
--     refused-alike, alike-refused   a text is refused exactly as the finder refuses it
--     judgement-one, judges-one      two judgements, and two answers, on the same grounds are equal
-- Assumes nothing.
use mathlib.Core.List.{List}
use mathlib.Core.Path.{◌≡◌, refl, ap, sym, ◌∙◌, subst}
use Prim.Native.Nat.{ℕ, suc}
use Rattle.std.specs.Prelude.{Ok, Err}
use native.Mathlib.Omega.{arith}
use Rattle.meaning.specs.Context.{Context}
use Rattle.meaning.specs.Rules.{Clause, found, nothing}
use Rattle.meaning.specs.Text.{Limits, narrow, Refusal, Read, Reading, faulty, taken, read}
use Rattle.meaning.specs.Replies as M
use Rattle.meaning.specs.Replies.{refusal, Replies, RepliesTo}
use Rattle.meaning.specs.Grounds.{Step, Conclusion, accepted}
use Rattle.meaning.proofs.Apartness.{first-clash-one}
use Rattle.meaning.proofs.Grounded as G
use Rattle.meaning.proofs.Grounded.{verdict-one}
use Rattle.grounds_steps.specs.Steps.{steps_of}
use Rattle.grounds_verdict.proofs.Answers.{verdict-answer}
use Rattle.replies.specs.Told.{meant}
use Rattle.grounds_verdict.specs.declared.Conclusions.{Conclusions}
use Rattle.grounds_judgement.specs.Judgements.{Judgement, judged, refused, Weighed, empty, clashes, weighs, Judges, faults, judges, BreachOf}
use Rattle.grounds_judgement.specs.Claims.{Outcome, judgement_of, concluded_in, JudgesTo}

taken-one : (L : Limits) (text : List ℕ) (s t : Read) → read L text ≡ taken s → read L text ≡ taken t → s ≡ t
taken-one L text s t p q = let e : taken s ≡ taken t = sym p ∙ q in cc

faulty-one : (L : Limits) (text : List ℕ) (f g : Refusal) → read L text ≡ faulty f → read L text ≡ faulty g → f ≡ g
faulty-one L text f g p q = let e : faulty f ≡ faulty g = sym p ∙ q in cc

never_both : (L : Limits) (text : List ℕ) (f : Refusal) (s : Read) → read L text ≡ faulty f → read L text ≡ taken s → ⊥
never_both L text f s p q = let e : faulty f ≡ taken s = sym p ∙ q in let z : ◌≡◌ {A = ℕ} 0 1 = cc in omega arith

module _ (a : List ℕ) (steps : List Step) (ds : List Conclusion) where
  -- ---- what is accepted

  pub accepted-breach : (L : Limits) (text : List ℕ) → Judges a steps ds L text (judged accepted) → BreachOf L text a
  accepted-breach L text (judges s e x (weighs some clear v w)) =
      record { said = s; reads = e; breach = G.accepted-breach s.ledger.context s.clause a steps ds w }

  -- ---- what is refused

  weighed-alike : (c : Context) (k : Clause) (x : Refusal) → Weighed a steps ds c k (refused x) → M.Judged c k (M.refused x)
  weighed-alike c k x (empty e) = M.empty e
  weighed-alike c k x (clashes some n w) = M.clashes some n w

  pub refused-alike : (L : Limits) (text : List ℕ) (x : Refusal) → Judges a steps ds L text (refused x) → Replies L text (M.refused x)
  refused-alike L text x (faults f e) = subst (λ (y : Reading). RepliesTo y (M.refused x)) (sym e) refl
  refused-alike L text x (judges s e j w) = subst (λ (y : Reading). RepliesTo y (M.refused x)) (sym e) (weighed-alike s.ledger.context s.clause x w)

  alike-weighed : (c : Context) (k : Clause) (x : Refusal) (r : M.Reply) → M.Judged c k r → r ≡ M.refused x → Weighed a steps ds c k (refused x)
  alike-weighed c k x r (M.empty e) q = let z : refusal 8 0 ≡ x = cc in rw (← z) (empty e)
  alike-weighed c k x r (M.clashes some n w) q = let z : refusal 9 (suc n) ≡ x = cc in rw (← z) (clashes some n w)
  alike-weighed c k x r (M.answers some clear (found b) w) q = absurd (let z : ◌≡◌ {A = ℕ} 0 1 = cc in omega arith)
  alike-weighed c k x r (M.answers some clear nothing w) q = absurd (let z : ◌≡◌ {A = ℕ} 0 1 = cc in omega arith)

  pub alike-refused : (L : Limits) (text : List ℕ) (x : Refusal) → Replies L text (M.refused x) → Judges a steps ds L text (refused x)
  alike-refused L text x = go (read L text) refl
    where
      go : (y : Reading) → read L text ≡ y → RepliesTo y (M.refused x) → Judges a steps ds L text (refused x)
      go (faulty f) e q = let z : x ≡ f = cc in rw z (faults f e)
      go (taken s) e q = judges s e (refused x) (alike-weighed s.ledger.context s.clause x (M.refused x) q refl)

  -- ---- one judgement

  weighed-one : (c : Context) (k : Clause) (x y : Judgement) → Weighed a steps ds c k x → Weighed a steps ds c k y → x ≡ y
  weighed-one c k x y (empty e) (empty f) = refl
  weighed-one c k x y (empty e) (clashes f n w) = absurd (f e)
  weighed-one c k x y (empty e) (weighs f p v w) = absurd (f e)
  weighed-one c k x y (clashes e n p) (empty f) = absurd (e f)
  weighed-one c k x y (clashes e n p) (clashes f m q) = ap (λ (i : ℕ). refused (refusal 9 (suc i))) (first-clash-one c n m p q)
  weighed-one c k x y (clashes e n p) (weighs f q v w) = absurd (q n p.0)
  weighed-one c k x y (weighs e p v w) (empty f) = absurd (e f)
  weighed-one c k x y (weighs e p v w) (clashes f n q) = absurd (p n q.0)
  weighed-one c k x y (weighs e p v w) (weighs f q u z) = ap judged (verdict-one c k a steps ds v u w z)

  pub judgement-one : (L : Limits) (text : List ℕ) (x y : Judgement) → Judges a steps ds L text x → Judges a steps ds L text y → x ≡ y
  judgement-one L text x y (faults f e) (faults g q) = ap refused (faulty-one L text f g e q)
  judgement-one L text x y (faults f e) (judges s q j w) = absurd (never_both L text f s e q)
  judgement-one L text x y (judges s e i v) (faults g q) = absurd (never_both L text g s q e)
  judgement-one L text x y (judges s e i v) (judges t q j w) =
      weighed-one t.ledger.context t.clause x y (subst (λ (z : Read). Weighed a steps ds z.ledger.context z.clause x) (taken-one L text s t e q) v) w

-- ---- one answer

outcome-one : (r q : Outcome) → judgement_of r ≡ judgement_of q → r ≡ q
outcome-one (Ok x) (Ok y) e = ap Ok (verdict-answer x y cc)
outcome-one (Ok x) (Err y) e = absurd (let z : ◌≡◌ {A = ℕ} 0 1 = cc in omega arith)
outcome-one (Err x) (Ok y) e = absurd (let z : ◌≡◌ {A = ℕ} 0 1 = cc in omega arith)
outcome-one (Err x) (Err y) e =
    let z : meant x ≡ meant y = cc in
    let n : x.number ≡ y.number = ap (λ (w : Refusal). w.number) z in
    let l : x.line ≡ y.line = ap (λ (w : Refusal). w.place) z in
    let o : x.offset ≡ y.offset = ap (λ (w : Refusal). w.offset) z in
    ap Err (rw (n, l, o))

pub judges-one : (text a : List ℕ) (steps : List (List ℕ)) (d : Conclusions) (r q : Outcome) → JudgesTo text a steps d r
    → JudgesTo text a steps d q
    → r ≡ q
judges-one text a steps d r q v w =
    outcome-one r q (judgement-one a (steps_of steps) (concluded_in d) narrow text (judgement_of r) (judgement_of q) v.judges w.judges)
