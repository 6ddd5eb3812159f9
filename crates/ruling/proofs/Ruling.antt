-- A text that is read, closed and ruled on: the order of the refusals, and what a rule that is ready stands for.
--     close-done, rule-done            what `close` and `rule` promise
--     Stands, ready-stands             where a rule is ready, the runs say what was read, which is well-formed and does not contradict itself
--     refused-answers                  where it is refused, so does the finder
--     closes-one, rules-one            two answers to one text are equal
-- Assumes nothing.
use mathlib.Core.List.{List, [], ◌∷◌}
use mathlib.Core.Path.{◌≡◌, refl, sym, ap, subst, subst₂, ◌∙◌}
use Prim.Native.Nat.{ℕ, zero, suc, ◌+◌, ◌/◌}
use native.Mathlib.Omega.{arith}
use native.Mathlib.Numerals.{add-one}
use borrow.Author.Rules.{rules}
use lib.ListN.{length}
use Rattle.meaning.specs.Context.{Context, differences_of, differences}
use Rattle.meaning.specs.Equality.{rep_at, Consistent, Promise}
use Rattle.meaning.specs.Rules.{Found, found, nothing, Clause}
use Rattle.meaning.specs.ByTable.{clash_of}
use Rattle.meaning.specs.Formed.{Formed}
use Rattle.meaning.specs.Text as M
use Rattle.meaning.specs.Text.{narrow, Read, faulty, taken, read}
use Rattle.meaning.specs.Replies.{Reply, Judged, empty, clashes, answers, refused, refusal, reply_of, Replies, RepliesTo}
use Rattle.meaning.proofs.Apartness.{clash-first, clash-clear}
use Rattle.meaning.proofs.Promised.{promise-one}
use Rattle.meaning.proofs.Answered.{replies-one}
use Rattle.runs.specs.Limits.{most_rows, most_statements}
use Rattle.runs.specs.Runs.{statements_of}
use Rattle.runs.proofs.Saying.{length-literals}
use Rattle.replies.specs.declared.Refusal.{Refusal}
use Rattle.replies.specs.Told.{meant}
use Rattle.text_runs.specs.Reads.{told_by, told_of, read_of, Reads}
use Rattle.std.specs.Prelude.{Option, Some, None, Result, Ok, Err}
use Rattle.text_runs.specs.declared.Told.{Told}
use Rattle.text_runs.proofs.Answers.{reads-one}
use Rattle.classes.specs.Claims as C
use Rattle.classes.specs.Claims.{clashing}
use Rattle.classes.specs.declared.Classes.{Classes}
use Rattle.classes.proofs.Answers.{closes-fit, clash-one, clash-small}
use Rattle.ruling.specs.Claims.{rows_in, said_in, literals_in, context_in, clause_in, Ruling, refuses, ready, ClosesText, Rules}
use Rattle.ruling.specs.Order.{Low, judged_by, ruled_by}
use Rattle.ruling.specs.declared.Closed.{Closed}
use Rattle.ruling.specs.declared.Ruled.{Ruled}
use Rattle.ruling.proofs.Saying.{part-long, rows_inside, said-inside, literals-counted, told-context, told-clause, told-formed, told_fit}

-- ---- closed

pub close-done : (text : List ℕ) (t : Told) → Reads text t → (rs ss us : List ℕ) → rs ≡ rows_in t → ss ≡ said_in t → us ≡ said_in t → (z : Classes)
    → C.Closes most_rows most_statements rs ss z.answer z.table → (x : Option ℕ) → clashing x ≡ clash_of (rep_at z.table) (differences_of (statements_of us))
    → ClosesText text (record { told = t; table = z.table; clash = x })
close-done text t h rs ss us er es eu z w x e =
    let v = subst₂ (λ (a b : List ℕ). C.Closes most_rows most_statements a b z.answer z.table) er es w in
    record {
      told = h;
      closed = (closes-fit most_rows most_statements (rows_in t) (said_in t) z.answer z.table (told_fit text t h) v).1;
      clashes = e ∙ ap (λ (a : List ℕ). clash_of (rep_at z.table) (differences_of (statements_of a))) eu;
    }

-- ---- ruled on

module _ (text : List ℕ) (r : Closed) (h : ClosesText text r) where
  abbrev t : Told
  t = r.told

  abbrev n : ℕ
  n = t.filled.literals / 3

  pub closed-low : Low r.clash
  closed-low =
      record {
        low = λ m e. omega (arith, clash-small (rep_at r.table) (said_in t) m (sym h.clashes ∙ ap clashing e), (told_fit text t h.told).said-few);
      }

  refused-replies : (x : Refusal) → t.answer ≡ Err x → Replies narrow text (refused (meant x))
  refused-replies x e = go (read narrow text) refl
    where
      same : (y : M.Reading) → read narrow text ≡ y → x.number ∷ x.line ∷ x.offset ∷ [] ≡ told_of y
      same y q = sym (ap told_by e) ∙ h.told.told ∙ ap told_of q

      go : (y : M.Reading) → read narrow text ≡ y → Replies narrow text (refused (meant x))
      go (faulty f) q =
          let v : x.number ∷ x.line ∷ x.offset ∷ [] ≡ f.number ∷ f.place ∷ f.offset ∷ [] = same (faulty f) q in
          let n : x.number ≡ f.number = cc in
          let p : x.line ≡ f.place = cc in
          let o : x.offset ≡ f.offset = cc in
          let m : meant x ≡ f = rw (n, p, o) in
          subst (λ (z : M.Reading). RepliesTo z (refused (meant x))) (sym q) (ap refused m)
      go (taken s) q = absurd (let v : x.number ∷ x.line ∷ x.offset ∷ [] ≡ [] = same (taken s) q in let z : ◌≡◌ {A = ℕ} 0 1 = cc in omega arith)

  no-literal : n ≡ 0 → (clause_in t).literals ≡ []
  no-literal e = go (clause_in t).literals refl
    where
      go : (l : List _) → (clause_in t).literals ≡ l → l ≡ []
      go [] q = refl
      go (x ∷ l) q = absurd (omega (arith, literals-counted text t h.told, length-literals (literals_in t), ap length q))

  some-literal : (n ≡ 0 → ⊥) → (clause_in t).literals ≡ [] → ⊥
  some-literal s e = s (omega (arith, literals-counted text t h.told, length-literals (literals_in t), ap length e))

  module _ (s : Read) (e : read narrow text ≡ taken s) where
    context-is : context_in t ≡ s.ledger.context
    context-is = told-context text t h.told ∙ ap (λ (y : M.Reading). (read_of y).ledger.context) e

    clause-is : clause_in t ≡ s.clause
    clause-is = told-clause text t h.told ∙ ap (λ (y : M.Reading). (read_of y).clause) e

    judged-replies : (y : Reply) → Judged (context_in t) (clause_in t) y → Replies narrow text y
    judged-replies y j = subst (λ (z : M.Reading). RepliesTo z y) (sym e) (subst₂ (λ (c : Context) (k : Clause). Judged c k y) context-is clause-is j)

    eight : n ≡ 0 → Ruling text (Err (record { number = 8; line = 0; offset = 0 }))
    eight z = refuses (record { number = 8; line = 0; offset = 0 }) (judged-replies (refused (refusal 8 0)) (empty (no-literal z)))

    judged-ruled : Ruling text (judged_by n r.clash)
    judged-ruled = go n refl r.clash refl
      where
        go : (m : ℕ) → n ≡ m → (w : Option ℕ) → r.clash ≡ w → Ruling text (judged_by m w)
        go zero l (Some i) q = eight l
        go zero l None q = eight l
        go (suc m) l (Some i) q =
            refuses (record { number = 9; line = i + 1; offset = 0 })
            (judged-replies (refused (refusal 9 (i + 1)))
            (rw (add-one i)
            (clashes (some-literal (λ z. omega arith)) i
            (clash-first (context_in t) (told_fit text t h.told).fit (rep_at r.table) h.closed.rows i (sym h.clashes ∙ ap clashing q)))))
        go (suc m) l None q =
            ready s e
            (subst (λ (k : Clause). k.literals ≡ [] → ⊥) clause-is (some-literal (λ z. omega arith)))
            (subst Consistent context-is
            (clash-clear (context_in t) (told_fit text t h.told).fit (rep_at r.table) h.closed.rows (sym h.clashes ∙ ap clashing q)))

  ruled : Ruling text (ruled_by t.answer n r.clash)
  ruled = go t.answer refl
    where
      taken-read : t.answer ≡ Ok tt → (y : M.Reading) → read narrow text ≡ y → Ruling text (judged_by n r.clash)
      taken-read a (taken s) q = judged-ruled s q
      taken-read a (faulty f) q =
          absurd (let v : [] ≡ f.number ∷ f.place ∷ f.offset ∷ [] = sym (ap told_by a) ∙ h.told.told ∙ ap told_of q in let z : ◌≡◌ {A = ℕ} 0 1 = cc in omega arith)

      go : (a : Result (Unit {0}) Refusal) → t.answer ≡ a → Ruling text (ruled_by a n r.clash)
      go (Err y) a = refuses y (refused-replies y a)
      go (Ok u) a = taken-read a (read narrow text) refl

  pub rule-done : (a : Result (Unit {0}) Refusal) → a ≡ ruled_by r.told.answer (r.told.filled.literals / 3) r.clash
      → Rules text (record { answer = a; told = r.told; table = r.table })
  rule-done a e = record { ruled = subst (Ruling text) (sym e) ruled; told = h.told; closed = h.closed }

-- ---- a rule that is ready

pub record Stands (text : List ℕ) (t : Told) : Type 0 where
  pub what : Read
  pub whole : read narrow text ≡ taken what
  pub context : context_in t ≡ what.ledger.context
  pub clause : clause_in t ≡ what.clause
  pub formed : Formed (context_in t) (clause_in t)
  pub some : what.clause.literals ≡ [] → ⊥
  pub consistent : Consistent what.ledger.context

module _ (text : List ℕ) (p : Ruled) (rules : Rules text p) where
  pub ready-stands : p.answer ≡ Ok tt → Stands text p.told
  ready-stands e = go p.answer e rules.ruled
    where
      go : (a : Result (Unit {0}) Refusal) → a ≡ Ok tt → Ruling text a → Stands text p.told
      go a q (refuses x w) = absurd (let z : ◌≡◌ {A = ℕ} 0 1 = cc in omega arith)
      go a q (ready s f n w) =
          record {
            what = s;
            whole = f;
            context = told-context text p.told rules.told ∙ ap (λ (y : M.Reading). (read_of y).ledger.context) f;
            clause = told-clause text p.told rules.told ∙ ap (λ (y : M.Reading). (read_of y).clause) f;
            formed = told-formed text p.told rules.told;
            some = n;
            consistent = w;
          }

  pub ready-consistent : p.answer ≡ Ok tt → Consistent (context_in p.told)
  ready-consistent e = subst Consistent (sym (ready-stands e).context) (ready-stands e).consistent

  pub refused-answers : (x : Refusal) → p.answer ≡ Err x → Replies narrow text (refused (meant x))
  refused-answers x e = go p.answer e rules.ruled
    where
      go : (a : Result (Unit {0}) Refusal) → a ≡ Err x → Ruling text a → Replies narrow text (refused (meant x))
      go a q (refuses y w) = let v : y ≡ x = cc in subst (λ (y : Refusal). Replies narrow text (refused (meant y))) v w
      go a q (ready s f n w) = absurd (let z : ◌≡◌ {A = ℕ} 0 1 = cc in omega arith)

-- ---- one answer

pub found-never : (f : M.Refusal) (r : Found) → reply_of r ≡ refused f → ⊥
found-never f (found a) q = let z : ◌≡◌ {A = ℕ} 0 1 = cc in omega arith
found-never f nothing q = let z : ◌≡◌ {A = ℕ} 0 1 = cc in omega arith

judged-refused : (c : Context) (k : Clause) (y : Reply) (f : M.Refusal) → (k.literals ≡ [] → ⊥) → Consistent c → y ≡ refused f → Judged c k y → ⊥
judged-refused c k y f n w e (empty l) = n l
judged-refused c k y f n w e (clashes l m h) = w m h.0
judged-refused c k y f n w e (answers l h r a) = found-never f r e

never-ready : (text : List ℕ) (s : Read) → read narrow text ≡ taken s → (s.clause.literals ≡ [] → ⊥) → Consistent s.ledger.context
    → (f : M.Refusal) → Replies narrow text (refused f) → ⊥
never-ready text s e n w f p =
    judged-refused s.ledger.context s.clause (refused f) f n w refl (subst (λ (y : M.Reading). RepliesTo y (refused f)) e p)

pub refused-one : (f g : M.Refusal) → refused f ≡ refused g → f ≡ g
refused-one f g e = cc

pub ruled-one : (text : List ℕ) (a b : Result (Unit {0}) Refusal) → Ruling text a → Ruling text b → a ≡ b
ruled-one text a b (refuses x p) (refuses y q) =
    let f : M.Refusal = meant x in
    let g : M.Refusal = meant y in
    let e : f ≡ g = refused-one f g (replies-one narrow text (refused f) (refused g) p q) in
    let n : x.number ≡ y.number = ap (λ (h : M.Refusal). h.number) e in
    let l : x.line ≡ y.line = ap (λ (h : M.Refusal). h.place) e in
    let o : x.offset ≡ y.offset = ap (λ (h : M.Refusal). h.offset) e in
    ap Err (rw (n, l, o))
ruled-one text a b (refuses x p) (ready s e n c) = absurd (never-ready text s e n c (meant x) p)
ruled-one text a b (ready s e n c) (refuses x p) = absurd (never-ready text s e n c (meant x) p)
ruled-one text a b (ready s e n c) (ready t f m d) = refl

table-one : (text : List ℕ) (s t : Told) (u v : List ℕ) → s ≡ t → Promise (context_in s) most_rows u → Promise (context_in t) most_rows v → u ≡ v
table-one text s t u v e p q =
    promise-one (context_in s) most_rows u v p (subst (λ (d : Told). Promise (context_in d) most_rows v) (sym e) q)

same-closed : {t s : Told} {u v : List ℕ} {x y : Option ℕ} → t ≡ s → u ≡ v → x ≡ y
    → ◌≡◌ {A = Closed} (record { told = t; table = u; clash = x }) (record { told = s; table = v; clash = y })
same-closed e f g = rw (e, f, g)

pub closes-one : (text : List ℕ) (p q : Closed) → ClosesText text p → ClosesText text q → p ≡ q
closes-one text p q v w =
    let e : p.told ≡ q.told = reads-one text p.told q.told v.told w.told in
    let t : p.table ≡ q.table = table-one text p.told q.told p.table q.table e v.closed w.closed in
    let i : clash_of (rep_at q.table) (differences (context_in q.told)) ≡ clash_of (rep_at p.table) (differences (context_in p.told)) = rw (e, t) in
    same-closed e t (clash-one p.clash q.clash (clash_of (rep_at p.table) (differences (context_in p.told))) v.clashes (w.clashes ∙ i))

same-ruled : {a b : Result (Unit {0}) Refusal} {t s : Told} {u v : List ℕ} → a ≡ b → t ≡ s → u ≡ v
    → ◌≡◌ {A = Ruled} (record { answer = a; told = t; table = u }) (record { answer = b; told = s; table = v })
same-ruled e f g = rw (e, f, g)

pub rules-one : (text : List ℕ) (p q : Ruled) → Rules text p → Rules text q → p ≡ q
rules-one text p q v w =
    let a : p.answer ≡ q.answer = ruled-one text p.answer q.answer v.ruled w.ruled in
    let e : p.told ≡ q.told = reads-one text p.told q.told v.told w.told in
    let t : p.table ≡ q.table = table-one text p.told q.told p.table q.table e v.closed w.closed in
    same-ruled a e t

pub ruleset mine = (rules, rows_inside, said-inside, close-done, closed-low, rule-done)
