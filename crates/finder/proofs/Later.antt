-- The ways out of `next`: the refusal, and the first breach after an assignment, or none.
--     ready-follows               where a rule is ready, what comes next by the table is what follows
--     next-refused, next-found    the reply to a text
--     follows-one                 two replies to one text and assignment are equal
-- Assumes nothing.
use mathlib.Core.List.{List}
use mathlib.Core.Path.{◌≡◌, refl, sym, ap, ap₂, subst, subst₂, ◌∙◌}
use mathlib.Core.Logic.{◌↔◌}
use Prim.Native.Nat.{ℕ}
use native.Mathlib.Omega.{arith}
use borrow.Author.Rules.{rules}
use lib.ListN.{take}
use Rattle.meaning.specs.Context.{Context}
use Rattle.meaning.specs.Equality.{rep_at, Consistent}
use Rattle.meaning.specs.Rules.{Clause, variables, Before, Found, found, nothing}
use Rattle.meaning.specs.Text.{narrow, Read}
use Rattle.meaning.specs.Replies as M
use Rattle.meaning.specs.Replies.{breach, none, refused, reply_of, places_of, Replies}
use Rattle.meaning.specs.Formed.{Formed}
use Rattle.meaning.specs.Listing.{OwnBreach}
use Rattle.meaning.specs.Following.{differ_by}
use Rattle.meaning.proofs.Answered.{replies-one}
use Rattle.meaning.proofs.Order.{same_first, first_one}
use Rattle.meaning.proofs.Pruned.{Sought}
use Rattle.meaning.proofs.ListingNext.{next-first, own-sought}
use Rattle.replies.specs.declared.Refusal.{Refusal}
use Rattle.replies.specs.declared.Outcome.{Outcome}
use Rattle.replies.specs.declared.Reply.{Reply}
use Rattle.replies.specs.Told.{meant, told_of}
use Rattle.runs.proofs.Saying.{length-rows}
use Rattle.differing.proofs.Knowing.{knows_start}
use Rattle.search.specs.Hunting.{answer_of}
use Rattle.search.specs.Finding.{found_by, later_by}
use Rattle.search.specs.declared.Reply.{Reply as Searched}
use Rattle.hunting.specs.Laid as H
use Rattle.hunting.specs.Laid.{Lays}
use Rattle.hunting.specs.declared.Laid.{Laid}
use Rattle.hunting.proofs.Laying.{after-done}
use Rattle.ruling.specs.Claims.{rows_in, said_in, patterns_in, literals_in, context_in, clause_in, Rules}
use Rattle.std.specs.Prelude.{Ok}
use Rattle.ruling.specs.declared.Ruled.{Ruled}
use Rattle.ruling.proofs.Saying.{told_fit}
use Rattle.ruling.proofs.Ruling.{found-never, Stands, ready-stands, ready-consistent}
use Rattle.finder.specs.Claims.{refused_with, answered_with, Prepared}
use Rattle.finder.specs.Later.{FollowsIn, FollowsTo, refuses, follows, Follows}
use Rattle.finder.proofs.Standing.{told-ready, ready-replies}
use Rattle.finder.proofs.Judging.{find-sound, told-one}

module _ (text : List ℕ) (p : Ruled) (rules : Rules text p) where
  abbrev c : Context
  c = context_in p.told

  abbrev k : Clause
  k = clause_in p.told

  abbrev rep : ℕ → ℕ
  rep = rep_at p.table

  said-follows : Formed c k → Consistent c → (after : List ℕ) → FollowsIn c k after (later_by c p.table k after)
  said-follows formed free after = same_first (λ a. (λ w. ((own a).0 w.0, w.1), λ w. ((own a).1 w.0, w.1))) (later_by c p.table k after) (next-first (differ_by c) c.rows rep 65536 k after)
    where
      own : (a : List ℕ) → OwnBreach c k a ↔ Sought (differ_by c) c.rows rep 65536 k a
      own a = own-sought c k formed free rep rules.closed.rows 65536 (omega (arith, length-rows (rows_in p.told), (told_fit text p.told rules.told).rows_few)) a

  pub ready-follows : p.answer ≡ Ok tt → (after : List ℕ) → FollowsTo text after (reply_of (later_by c p.table k after))
  ready-follows e after =
      let w : Stands text p.told = ready-stands text p rules e in
      follows w.what w.whole (found_by c p.table k) (ready-replies text p rules e) (later_by c p.table k after)
      (subst₂ (λ (x : Context) (y : Clause). FollowsIn x y after (later_by c p.table k after)) w.context w.clause (said-follows w.formed (ready-consistent text p rules e) after))

  found-follows : p.answer ≡ Ok tt → (l : Laid) → Lays (rows_in p.told) (said_in p.told) (patterns_in p.told) (literals_in p.told) p.table l
      → (after : List ℕ) (x : Searched) → x ≡ answer_of (later_by (H.context_in l) l.table (H.rule_in l) after)
      → (y : Reply) → y ≡ answered_with x.kind x.places → Follows text after y
  unfolding answer_of places_of
  found-follows e l h after x q y w =
      let z : x ≡ answer_of (later_by c p.table k after) =
      after-done (rows_in p.told) (said_in p.told) (patterns_in p.told) (literals_in p.told) p.table (told-ready text p rules) l h after x q in
      rw (w, z) (go (later_by c p.table k after) (ready-follows e after))
    where
      go : (f : Found) → FollowsTo text after (reply_of f) → Follows text after (answered_with (answer_of f).kind (answer_of f).places)
      go (found a) h = record { reply = breach a; replies = h; told = refl; places = refl }
      go nothing h = record { reply = none; replies = h; told = refl; places = refl }

pub next-refused : (text : List ℕ) (x : Refusal) → Replies narrow text (refused (meant x)) → (after : List ℕ) (y : Reply) → y ≡ refused_with x → Follows text after y
unfolding refused_with places_of
next-refused text x h after y q = rw q record { reply = refused (meant x); replies = refuses (meant x) h; told = refl; places = refl }

pub next-found : (text : List ℕ) (l : Laid) → Prepared text l → (after : List ℕ) (x : Searched) → x ≡ answer_of (later_by (H.context_in l) l.table (H.rule_in l) after)
    → (y : Reply) → y ≡ answered_with x.kind x.places → Follows text after y
next-found text l w = found-follows text w.read w.rules w.ready l w.lays

-- ---- one reply

pub followed-one : (text after : List ℕ) (x y : M.Reply) → FollowsTo text after x → FollowsTo text after y → x ≡ y
followed-one text after x y (refuses f p) (refuses g q) = replies-one narrow text (refused f) (refused g) p q
followed-one text after x y (refuses f p) (follows s e w q r h) = absurd (found-never f w (replies-one narrow text (reply_of w) (refused f) q p))
followed-one text after x y (follows s e w q r h) (refuses f p) = absurd (found-never f w (replies-one narrow text (reply_of w) (refused f) q p))
followed-one text after x y (follows s e v p r h) (follows t f w q m g) =
    let i : t ≡ s = cc in
    ap reply_of
    (first_one (λ a. OwnBreach s.ledger.context s.clause a × Before (take (variables s.clause.patterns) after) a) (variables s.clause.patterns)
    (λ a b. b.0.breaches.long)
    r m h (subst (λ (z : Read). FollowsIn z.ledger.context z.clause after m) i g))

pub follows-one : (text after : List ℕ) (r s : Reply) → Follows text after r → Follows text after s → r ≡ s
follows-one text after r s p q =
    let e : p.reply ≡ q.reply = followed-one text after p.reply q.reply p.replies q.replies in
    let o : r.outcome ≡ s.outcome = told-one r.outcome s.outcome (p.told ∙ ap told_of e ∙ sym q.told) in
    ap₂ (λ (x : Outcome) (y : List ℕ). record { outcome = x; places = y }) o (p.places ∙ ap places_of e ∙ sym q.places)

pub ruleset mine = (rules, knows_start, next-refused, find-sound, next-found)
