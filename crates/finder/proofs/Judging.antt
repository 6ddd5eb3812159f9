-- The ways out of the finder: what is answered to a text.
--     unfit-not-none, no-unfit    a search's failure is not told as none, and no text is told it
--     find-sound                  what was laid out of a text is sound
--     find-refused, find-found    the refusal, and the first breach or none
--     finds-one                   two replies to one text are equal
-- Assumes nothing.
use mathlib.Core.List.{List, [], ◌∷◌}
use mathlib.Core.Path.{◌≡◌, refl, sym, ap, ap₂, ◌∙◌}
use Prim.Native.Nat.{ℕ, ◌≤◌}
use native.Mathlib.Omega.{arith}
use borrow.Author.Rules.{rules}
use Rattle.meaning.specs.Rules.{Found, found, nothing, Clause}
use Rattle.meaning.specs.Context.{Context}
use Rattle.meaning.specs.Text as T
use Rattle.meaning.specs.Text.{narrow, read, faulty, taken}
use Rattle.meaning.specs.Replies as M
use Rattle.meaning.specs.Replies.{breach, none, refused, reply_of, places_of, Judged, empty, clashes, answers, RepliesTo, Replies}
use Rattle.meaning.proofs.Answered.{replies-one}
use Rattle.meaning.proofs.Bounds.{read-bounded}
use Rattle.replies.specs.declared.Refusal.{Refusal}
use Rattle.replies.specs.Told.{meant, told_by, told_of}
use Rattle.differing.proofs.Knowing.{knows_start}
use Rattle.search.specs.Hunting.{answer_of}
use Rattle.search.specs.Finding.{found_by}
use Rattle.search.specs.declared.Reply.{Reply as Searched}
use Rattle.search.specs.declared.Kind.{Kind}
use Rattle.search.specs.declared.Kind.TheVariants as S
use Rattle.hunting.specs.Laid as H
use Rattle.hunting.specs.Laid.{Lays}
use Rattle.hunting.specs.declared.Laid.{Laid}
use Rattle.hunting.proofs.Laying.{lays_sound, hunt-done}
use Rattle.ruling.specs.Claims.{rows_in, said_in, patterns_in, literals_in, context_in, clause_in, Rules}
use Rattle.std.specs.Prelude.{Ok, Err}
use Rattle.ruling.specs.declared.Ruled.{Ruled}
use Rattle.ruling.proofs.Ruling.{refused-answers}
use Rattle.finder.specs.Claims.{refused_with, answered_with, Prepared, Finds}
use Rattle.replies.specs.declared.Outcome.{Outcome}
use Rattle.replies.specs.declared.Outcome.TheVariants as O
use Rattle.replies.specs.declared.Reply.{Reply}
use Rattle.finder.proofs.Standing.{told-filled, told-ready, ready-replies}

-- ---- the search's answer as a reply

pub answered-breach : (kind : Kind) (n : ℕ) (places : List ℕ) → kind ≡ S.Breach n → record { outcome = O.Breach n; places = places } ≡ answered_with kind places
answered-breach kind n places e = rw e

pub answered-clear : (kind : Kind) (places : List ℕ) → kind ≡ S.Clear → record { outcome = O.Clear; places = places } ≡ answered_with kind places
answered-clear kind places e = rw e

pub answered-unfit : (kind : Kind) (places : List ℕ) → kind ≡ S.Unfit → record { outcome = O.Refused (record { number = 0; line = 0; offset = 0 }); places = places } ≡ answered_with kind places
answered-unfit kind places e = rw e

pub unfit-not-none : (places : List ℕ) → told_by (answered_with S.Unfit places).outcome ≡ 9 ∷ [] → ⊥
unfit-not-none places e = let z : ◌≡◌ {A = ℕ} 10 9 = cc in omega arith

judged-number : (c : Context) (k : Clause) (r : M.Reply) (f : T.Refusal) → Judged c k r → r ≡ refused f → 1 ≤ f.number
judged-number c k r f (empty x) e = let n : 8 ≡ f.number = cc in omega arith
judged-number c k r f (clashes x n y) e = let n : 9 ≡ f.number = cc in omega arith
judged-number c k r f (answers x y (found a) w) e = absurd (let z : ◌≡◌ {A = ℕ} 0 1 = cc in omega arith)
judged-number c k r f (answers x y nothing w) e = absurd (let z : ◌≡◌ {A = ℕ} 0 1 = cc in omega arith)

refused-number : (text : List ℕ) (f : T.Refusal) → Replies narrow text (refused f) → 1 ≤ f.number
refused-number text f w = go (read narrow text) refl w
  where
    go : (y : T.Reading) → read narrow text ≡ y → RepliesTo y (refused f) → 1 ≤ f.number
    go (faulty g) e q = let v : g ≡ f = cc in omega (arith, (read-bounded narrow text f (e ∙ ap faulty v)).number_low)
    go (taken s) e q = judged-number s.ledger.context s.clause (refused f) f q refl

pub no-unfit : (text places : List ℕ) → Finds text (answered_with S.Unfit places) → ⊥
no-unfit text places p = go p.reply p.replies p.told
  where
    go : (y : M.Reply) → Replies narrow text y → told_by (answered_with S.Unfit places).outcome ≡ told_of y → ⊥
    go (breach a) w e = let z : ◌≡◌ {A = ℕ} 10 8 = cc in omega arith
    go none w e = let z : ◌≡◌ {A = ℕ} 10 9 = cc in omega arith
    go (refused f) w e = let z : 0 ≡ f.number = cc in omega (arith, refused-number text f w)

-- ---- the reply to a text

module _ (text : List ℕ) (p : Ruled) (rules : Rules text p) where
  pub prepare-refused : (x : Refusal) → p.answer ≡ Err x → Replies narrow text (refused (meant x))
  prepare-refused = refused-answers text p rules

  pub prepare-laid : p.answer ≡ Ok tt → (l : Laid) → Lays (rows_in p.told) (said_in p.told) (patterns_in p.told) (literals_in p.told) p.table l → Prepared text l
  prepare-laid e l h = record { read = p; rules = rules; ready = e; lays = h }

  -- what was laid out of it is searched
  found-finds : p.answer ≡ Ok tt → (l : Laid) → Lays (rows_in p.told) (said_in p.told) (patterns_in p.told) (literals_in p.told) p.table l
      → (x : Searched) → x ≡ answer_of (found_by (H.context_in l) l.table (H.rule_in l)) → (y : Reply) → y ≡ answered_with x.kind x.places → Finds text y
  unfolding answer_of places_of
  found-finds e l h x q y w =
      let z : x ≡ answer_of (found_by (context_in p.told) p.table (clause_in p.told)) =
      hunt-done (rows_in p.told) (said_in p.told) (patterns_in p.told) (literals_in p.told) p.table (told-ready text p rules) l h x q in
      rw (w, z) (go (found_by (context_in p.told) p.table (clause_in p.told)) (ready-replies text p rules e))
    where
      go : (f : Found) → Replies narrow text (reply_of f) → Finds text (answered_with (answer_of f).kind (answer_of f).places)
      go (found a) h = record { reply = breach a; replies = h; told = refl; places = refl }
      go nothing h = record { reply = none; replies = h; told = refl; places = refl }

pub find-refused : (text : List ℕ) (x : Refusal) → Replies narrow text (refused (meant x)) → (y : Reply) → y ≡ refused_with x → Finds text y
unfolding refused_with places_of
find-refused text x h y q = rw q record { reply = refused (meant x); replies = h; told = refl; places = refl }

module _ (text : List ℕ) (l : Laid) (w : Prepared text l) where
  pub find-found : (x : Searched) → x ≡ answer_of (found_by (H.context_in l) l.table (H.rule_in l)) → (y : Reply) → y ≡ answered_with x.kind x.places → Finds text y
  find-found = found-finds text w.read w.rules w.ready l w.lays

  pub find-sound : H.Sound l
  find-sound =
      lays_sound (rows_in w.read.told) (said_in w.read.told) (patterns_in w.read.told) (literals_in w.read.told) w.read.table (told-ready text w.read w.rules) l w.lays

-- ---- one reply

pub told-one : (x y : Outcome) → told_by x ≡ told_by y → x ≡ y
told-one (O.Breach n) (O.Breach m) e = cc
told-one (O.Breach n) O.Clear e = absurd (let z : ◌≡◌ {A = ℕ} 0 1 = cc in omega arith)
told-one (O.Breach n) (O.Refused y) e = absurd (let z : ◌≡◌ {A = ℕ} 8 10 = cc in omega arith)
told-one O.Clear (O.Breach m) e = absurd (let z : ◌≡◌ {A = ℕ} 0 1 = cc in omega arith)
told-one O.Clear O.Clear e = refl
told-one O.Clear (O.Refused y) e = absurd (let z : ◌≡◌ {A = ℕ} 0 1 = cc in omega arith)
told-one (O.Refused x) (O.Breach m) e = absurd (let z : ◌≡◌ {A = ℕ} 10 8 = cc in omega arith)
told-one (O.Refused x) O.Clear e = absurd (let z : ◌≡◌ {A = ℕ} 0 1 = cc in omega arith)
told-one (O.Refused x) (O.Refused y) e =
    let n : x.number ≡ y.number = cc in
    let l : x.line ≡ y.line = cc in
    let o : x.offset ≡ y.offset = cc in
    ap O.Refused (rw (n, l, o))

pub finds-one : (text : List ℕ) (r s : Reply) → Finds text r → Finds text s → r ≡ s
finds-one text r s p q =
    let e : p.reply ≡ q.reply = replies-one narrow text p.reply q.reply p.replies q.replies in
    let o : r.outcome ≡ s.outcome = told-one r.outcome s.outcome (p.told ∙ ap told_of e ∙ sym q.told) in
    let l : r.places ≡ s.places = p.places ∙ ap places_of e ∙ sym q.places in
    ap₂ (λ (x : Outcome) (y : List ℕ). record { outcome = x; places = y }) o l

pub ruleset mine = (rules, knows_start, answered-breach, answered-clear, answered-unfit, told-filled, told-ready, prepare-refused, prepare-laid, find-refused, find-sound, find-found)
