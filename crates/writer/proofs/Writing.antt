-- The ways out of the writer.
--     write-refused, write-cramped   the finder's refusal, and refusal 10
--     write-seekable, write-sought   a rule that is ready is searched for, and that is the answer
-- Assumes nothing.
use mathlib.Core.Bool.{Bool, true, false}
use mathlib.Core.List.{List}
use mathlib.Core.Path.{◌≡◌, refl, sym, ◌∙◌, subst, subst₂}
use Prim.Native.Nat.{ℕ, ◌≤◌}
use native.Mathlib.Omega.{arith}
use borrow.Author.Rules.{rules}
use borrow.Author.Tests.{ltb-true, ltb-false}
use lib.Dec.{ltb}
use lib.ListN.{length}
use Rattle.meaning.specs.Context.{Context}
use Rattle.meaning.specs.Rules.{range_of, Clause, Breach, Found, found, nothing}
use Rattle.meaning.specs.Text.{narrow, Reading}
use Rattle.meaning.specs.Replies as M
use Rattle.meaning.specs.Replies.{breach, refused, refusal, reply_of, places_of, Judged, empty, clashes, answers, Replies, RepliesTo}
use Rattle.replies.specs.Told.{meant}
use Rattle.replies.specs.declared.Refusal.{Refusal}
use Rattle.search.specs.Finding.{found_by}
use Rattle.ruling.specs.Claims.{rows_in, said_in, patterns_in, literals_in, context_in, clause_in, Rules}
use Rattle.std.specs.Prelude.{Ok, Err}
use Rattle.ruling.specs.declared.Ruled.{Ruled}
use Rattle.ruling.proofs.Saying.{rows_inside, said-inside, patterns-inside, literals-inside}
use Rattle.ruling.proofs.Ruling.{Stands, ready-stands, refused-answers}
use Rattle.finder.proofs.Standing.{told-ready, ready-replies}
use Rattle.grounds_steps.specs.Steps.{most_steps}
use Rattle.writer.specs.Claims.{refuses, lacks, replies, Shown, Leaves, Writes}
use Rattle.writer.specs.Seeking.{bare_with, refused_with, LeavesFor, Seekable, Sought}
use Rattle.writer.specs.declared.Grounds.{Grounds}

pub write-room : (steps : List (List ℕ)) (b : Bool) → b ≡ false → b ≡ ltb (length steps) most_steps → most_steps ≤ length steps
write-room steps b h e = ltb-false (length steps) most_steps (sym e ∙ h)

module _ (text : List ℕ) (p : Ruled) (rules : Rules text p) (steps : List (List ℕ)) where
  pub write-refused : (x : Refusal) → p.answer ≡ Err x → (y : Grounds) → y ≡ refused_with x → Writes text steps y steps
  unfolding refused_with bare_with places_of
  write-refused x e y q =
      rw q
      record {
        reply = refused (meant x);
        answers = refuses (meant x) (refused-answers text p rules x e);
        told = refl;
        places = refl;
        leaves = record { count = refl; literals = refl; conclusions = refl; words = refl };
      }

  -- the filled parts are there
  pub write-rows : p.told.filled.rows ≤ length p.told.rows
  write-rows = rows_inside text p.told rules.told

  pub write-said : p.told.filled.said ≤ length p.told.said
  write-said = said-inside text p.told rules.told

  pub write-patterns : p.told.filled.patterns ≤ length p.told.patterns
  write-patterns = patterns-inside text p.told rules.told

  pub write-literals : p.told.filled.literals ≤ length p.told.literals
  write-literals = literals-inside text p.told rules.told

  module _ (ready : p.answer ≡ Ok tt) where
    abbrev c : Context
    c = context_in p.told

    abbrev k : Clause
    k = clause_in p.told

    stands : Stands text p.told
    stands = ready-stands text p rules ready

    pub write-cramped : (b : Bool) → b ≡ ltb (length steps) most_steps → b ≡ true
        → (y : Grounds) → y ≡ refused_with (record { number = 10; line = 0; offset = 0 }) → Writes text steps y steps
    unfolding refused_with bare_with places_of
    write-cramped b e h y q =
        rw q
        record {
          reply = refused (refusal 10 0);
          answers = lacks (found_by c p.table k) (ready-replies text p rules ready) (ltb-true (length steps) most_steps (sym e ∙ h));
          told = refl;
          places = refl;
          leaves = record { count = refl; literals = refl; conclusions = refl; words = refl };
        }

    judged-breach : (d : Context) (l : Clause) (a : List ℕ) (u : M.Reply) → u ≡ breach a → Judged d l u → Breach d (range_of d) l a
    judged-breach d l a u e (empty w) = absurd (let z : ◌≡◌ {A = ℕ} 0 1 = cc in omega arith)
    judged-breach d l a u e (clashes w n h) = absurd (let z : ◌≡◌ {A = ℕ} 0 1 = cc in omega arith)
    judged-breach d l a u e (answers w h (found b) q) = let z : b ≡ a = cc in subst (Breach d (range_of d) l) z q.0
    judged-breach d l a u e (answers w h nothing q) = absurd (let z : ◌≡◌ {A = ℕ} 0 1 = cc in omega arith)

    replied : (q : Found) → found_by c p.table k ≡ q → Replies narrow text (reply_of q)
    replied q e = subst (λ (q : Found). Replies narrow text (reply_of q)) e (ready-replies text p rules ready)

    breach-said : (a : List ℕ) → found_by c p.table k ≡ found a → Breach c (range_of c) k a
    breach-said a e =
        subst₂ (λ (d : Context) (l : Clause). Breach d (range_of d) l a) (sym stands.context) (sym stands.clause)
        (judged-breach stands.what.ledger.context stands.what.clause a (breach a) refl (subst (λ (y : Reading). RepliesTo y (breach a)) stands.whole (replied (found a) e)))

    pub write-seekable : Seekable (rows_in p.told) (said_in p.told) (patterns_in p.told) (literals_in p.told) p.table
    write-seekable = record { ready = told-ready text p rules; breach = breach-said }

    pub write-sought : (b : Bool) → b ≡ ltb (length steps) most_steps → b ≡ false → {y : Grounds} {steps' : List (List ℕ)}
        → Sought (rows_in p.told) (said_in p.told) (patterns_in p.told) (literals_in p.told) p.table steps y steps'
        → Writes text steps y steps'
    write-sought b e h {y} {steps'} w =
        record {
          reply = reply_of w.what;
          answers = replies w.what (replied w.what w.finds) (write-room steps b h e);
          told = w.told;
          places = w.places;
          leaves = leaves w.what w.leaves;
        }
      where
        leaves : (q : Found) → LeavesFor steps y steps' c k q → Leaves steps y steps' text (reply_of q)
        leaves (found a) l =
            record {
              said = stands.what;
              reads = stands.whole;
              shown = subst₂ (λ (g : Context) (n : Clause). Shown steps y steps' g n) stands.context stands.clause l;
            }
        leaves nothing l = l

pub ruleset mine = (rules, write-room, write-rows, write-said, write-patterns, write-literals, write-refused, write-cramped, write-seekable, write-sought)
