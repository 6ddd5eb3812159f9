-- One batch: what one step of a column rests on is written behind the steps written before.
--     Knows, knows_start   new numbers are of steps that show what shared ones do, and what these cite has one too; none at all
--     batch-most           a batch has no more steps than its column, whatever it begins with
--     Sent, batch-sent     what a batch leaves: steps that follow, and show what the column's step does; each of the new ones is needed
-- Assumes nothing.
use mathlib.Core.Bool.{Bool, true, false}
use mathlib.Core.List.{List}
use mathlib.Core.Path.{◌≡◌, refl, ap, sym, ◌∙◌, subst}
use mathlib.Core.Logic.{◌⊎◌, inl, inr}
use Prim.Native.Nat.{ℕ, zero, suc, ◌+◌, ◌≤◌, ◌<◌}
use native.Mathlib.Omega.{arith}
use lib.Dec.{eqb, ltb}
use borrow.Author.Tests.{ltb-true, ltb-false}
use lib.ListN.{length, get_or, take, drop, replicate, length-take, get_or-eq_default}
use lib.Seq.{get_or-take, take-length}
use Rattle.meaning.specs.Context.{Term, Context}
use Rattle.meaning.specs.Rules.{Clause}
use Rattle.meaning.specs.Grounds.{Step, step₀, step_at, number_in, Cites}
use Rattle.runs.specs.Limits.{most_rows, most_patterns}
use Rattle.grounds_laws.specs.Draft.{count_in, step_of, step_in, draft}
use Rattle.grounds_laws.specs.Classes.{upto}
use Rattle.grounds_laws.proofs.Drafts.{Follow, length-draft}
use Rattle.grounds_batches.specs.Marking.{kept, marked_for}
use Rattle.grounds_batches.specs.Sending.{new_of, Out, steps_in, forgotten, written, send_one, sent, resent, batch, Small}
use Rattle.grounds_batches.specs.Drawing.{CitedLater, owned_by}
use Rattle.grounds_batches.proofs.Marks.{draft-at, zeros-at, CitedBy, kind_at, cites_at, for-self, for-closed, for-why}
use Rattle.grounds_batches.proofs.Forgetting.{forgotten-long, forgotten-shared, forgotten-own}
use Rattle.grounds_batches.proofs.Owned.{passing}
use Rattle.grounds_batches.proofs.Sends.{positive, new-at, Shown, named, cites-new, Closed, Sending, sending-start}
use Rattle.grounds_batches.proofs.Words.{Emitting, emitted-all}

-- ---- how many are written

send-most : (rows from owner : ℕ) (cells marks : List ℕ) (n : ℕ) (o : Out) → (upto n (send_one rows from owner cells marks) o).next ≤ o.next + n
unfolding upto send_one written
send-most rows from owner cells marks zero o = omega arith
send-most rows from owner cells marks (suc n) o = go (kept marks (n + 1)) refl (eqb (get_or left.news (n + 1) 0) 0) refl (send-most rows from owner cells marks n o)
  where
    left : Out
    left = upto n (send_one rows from owner cells marks) o

    go : (b : Bool) → kept marks (n + 1) ≡ b → (d : Bool) → eqb (get_or left.news (n + 1) 0) 0 ≡ d → left.next ≤ o.next + n
        → (send_one rows from owner cells marks n left).next ≤ o.next + suc n
    go true e true f h = rw (e, send_one, f) (omega arith)
    go true e false f h = rw (e, send_one, f) (omega arith)
    go false e d f h = rw (e, send_one) (omega arith)

pub batch-most : (rows from owner : ℕ) (cells : List ℕ) (s : ℕ) (o : Out) → (batch rows from owner cells s o).next ≤ o.next + count_in cells
unfolding batch sent resent
batch-most rows from owner cells s o = send-most rows from owner cells (marked_for cells s) (count_in cells) (resent from o)

-- ---- what the new numbers say of the shared steps

pub record Knows (shared : List Step) (news : List ℕ) (steps : List Step) : Type 0 where
  pub known : (p q : ℕ) → p < length shared → get_or news (suc p) 0 ≡ suc q → Shown steps q (step_at shared p)
  pub closed : (p : ℕ) → p < length shared → (get_or news (suc p) 0 ≡ 0 → ⊥) → 2 < (step_at shared p).kind → (j r : ℕ) → number_in (step_at shared p) j ≡ suc r → r < p
      → get_or news (suc r) 0 ≡ 0
      → ⊥

pub knows_start : (shared steps : List Step) (n : ℕ) → Knows shared (replicate n 0) steps
knows_start shared steps n =
    record { known = λ p q h e. absurd (omega (arith, zeros-at n (suc p), e)); closed = λ p h e l j r n₁ b z. e (zeros-at n (suc p)) }

-- ---- one batch

-- so many places are left as a column has steps, and there is a place for the number of each
pub record Space (cells : List ℕ) (o : Out) : Type 0 where
  pub counted : length (steps_in o) ≡ o.next
  pub few : o.next + count_in cells < 4294967296
  pub numbers : count_in cells < length o.news
  pub space : o.next + count_in cells ≤ length o.steps

-- step s of a draft, which begins with shared steps
module _ (c : Context) (k : Clause) (a : List ℕ) (shared steps : List Step) (s : ℕ) (o : Out) where
  pub record Sent (o' : Out) : Type 0 where
    pub knows : Knows shared o'.news (steps_in o')
    pub follow : Follow c k a (steps_in o')
    pub first : take o.next (steps_in o') ≡ steps_in o
    pub counted : length (steps_in o') ≡ o'.next
    pub least : o.next ≤ o'.next
    pub most : o'.next ≤ o.next + length steps
    pub cites : {owner : ℕ} {t u : Term} → Cites c k a steps owner s t u → Cites c k a (steps_in o') owner (new_of o'.news s) t u
    pub used : (q : ℕ) → o.next ≤ q → q < o'.next → (new_of o'.news s ≡ suc q) ⊎ CitedLater (steps_in o') q
    pub owned : (x : ℕ) → owned_by x (steps_in o') + passing (named steps x (forgotten (length shared) o.news)) (length steps)
        ≤ owned_by x (steps_in o) + passing (named steps x o'.news) (length steps)
    pub numbers : length o'.news ≡ length o.news
    pub rest : drop o'.next o'.steps ≡ drop o'.next o.steps
    pub long : length o'.steps ≡ length o.steps

module _ (c : Context) (k : Clause) (a : List ℕ) (few_rows : length c.rows ≤ most_rows) (few_patterns : length k.patterns ≤ most_patterns) (from owner : ℕ)
    (cells : List ℕ) (drafted : Follow c k a (draft (length c.rows) from owner cells)) (small : Small cells) (shared : List Step)
    (alike : take from (draft (length c.rows) from owner cells) ≡ shared) (early : from ≤ count_in cells) (s : ℕ) (inside : s ≤ count_in cells) where
  abbrev steps : List Step
  steps = draft (length c.rows) from owner cells

  abbrev marks : List ℕ
  marks = marked_for cells s

  abbrev keep : ℕ → Bool
  keep = kept marks

  all : length steps ≡ count_in cells
  all = length-draft (length c.rows) from owner cells

  many : length shared ≡ from
  many = ap length (sym alike) ∙ omega (arith, length-take from steps, all)

  shared_at : (p : ℕ) → p < from → step_at shared p ≡ step_at steps p
  shared_at p h = ap (λ (l : List Step). step_at l p) (sym alike) ∙ get_or-take from steps p step₀ h

  number_at : (i : ℕ) → i < count_in cells → (j : ℕ) → number_in (step_at steps i) j ≡ get_or (cites_at cells i) j 0
  unfolding step_in step_of
  number_at i h j = ap (λ (z : Step). number_in z j) (draft-at (length c.rows) from owner cells i h)

  kind-at : (i : ℕ) → i < count_in cells → (step_at steps i).kind ≡ kind_at cells i
  unfolding step_in step_of
  kind-at i h = ap (λ (z : Step). z.kind) (draft-at (length c.rows) from owner cells i h)

  among : (i j p : ℕ) → get_or (cites_at cells i) j 0 ≡ suc p → j < 4
  among i j p e = go (ltb j 4) refl
    where
      go : (b : Bool) → ltb j 4 ≡ b → j < 4
      go true f = ltb-true j 4 f
      go false f = absurd (omega (arith, get_or-eq_default (cites_at cells i) 0 (ltb-false j 4 f)))

  closed : Closed c k a steps keep
  closed =
      record {
        stays = λ i h e l j p x b.
            let z : i < count_in cells = omega (arith, all) in
            let y : get_or (cites_at cells i) j 0 ≡ suc p = sym (number_at i z j) ∙ x in
            subst (λ (r : ℕ). keep r ≡ true) y
            (for-closed cells s i z (subst (λ (r : ℕ). keep r ≡ true) (omega arith) e) (omega (arith, kind-at i z)) j (among i j p y) (omega (arith, y)));
      }

  -- from these new numbers and words
  module _ (o : Out) (knew : Knows shared o.news (steps_in o)) (before : Follow c k a (steps_in o)) where
    abbrev o₀ : Out
    o₀ = resent from o

    abbrev news₀ : List ℕ
    news₀ = forgotten from o.news

    own-none : (p q : ℕ) → get_or news₀ (suc p) 0 ≡ suc q → p < from
    own-none p q e = go (ltb p from) refl
      where
        go : (b : Bool) → ltb p from ≡ b → p < from
        go true f = ltb-true p from f
        go false f = absurd (omega (arith, forgotten-own from o.news p (ltb-false p from f), e))

    shows₀ : (p q : ℕ) → get_or news₀ (suc p) 0 ≡ suc q → Shown (steps_in o) q (step_at steps p)
    shows₀ p q e =
        let l : p < from = own-none p q e in
        rw (sym (shared_at p l)) (knew.known p q (omega (arith, many)) (sym (forgotten-shared from o.news p l) ∙ e))

    start : Sending c k a steps keep news₀ (steps_in o) 0 news₀ (steps_in o)
    start = sending-start c k a steps keep news₀ (steps_in o) before shows₀

    module _ (news : List ℕ) (made : List Step) (w : Sending c k a steps keep news₀ (steps_in o) (count_in cells) news made) where
      step-cites : {owner' : ℕ} {t u : Term} → Cites c k a steps owner' s t u → Cites c k a made owner' (new_of news s) t u
      step-cites {owner'} {t} {u} e =
          cites-new c k a steps news made w.shown (length steps) (omega arith)
          (subst (λ (l : List Step). Cites c k a l owner' s t u) (sym (take-length steps)) e)
          (λ z. w.done e.place (omega (arith, e.inside, all)) (subst (λ (r : ℕ). keep r ≡ true) e.counted (for-self cells s inside))
          (ap (λ (r : ℕ). get_or news r 0) (sym e.counted) ∙ z))

      -- what a step with a new number cites has one
      closed_after : (p : ℕ) → p < from → (get_or news (suc p) 0 ≡ 0 → ⊥) → 2 < (step_at steps p).kind → (j r : ℕ) → number_in (step_at steps p) j ≡ suc r → r < p
          → get_or news (suc r) 0 ≡ 0
          → ⊥
      closed_after p h e l j r n b z = go (get_or news₀ (suc p) 0) refl
        where
          new : (q : ℕ) × (get_or news (suc p) 0 ≡ suc q)
          new = positive (get_or news (suc p) 0) e

          go : (v : ℕ) → get_or news₀ (suc p) 0 ≡ v → ⊥
          go zero f =
              w.done r (omega arith) (closed.stays p (omega (arith, all)) (w.only p new.0 f new.1).1 l j r n b) z
          go (suc v) f =
              knew.closed p (omega (arith, many)) (λ y. omega (arith, forgotten-shared from o.news p h, f, y))
              (subst (λ (x : Step). 2 < x.kind) (sym (shared_at p h)) l)
              j
              r
              (subst (λ (x : Step). number_in x j ≡ suc r) (sym (shared_at p h)) n)
              b
              (sym (forgotten-shared from o.news r (omega arith)) ∙ gone (get_or news₀ (suc r) 0) refl)
            where
              gone : (y : ℕ) → get_or news₀ (suc r) 0 ≡ y → get_or news₀ (suc r) 0 ≡ 0
              gone zero x = x
              gone (suc y) x = absurd (omega (arith, w.old r y x, z))

      knows_after : Knows shared news made
      knows_after =
          record {
            known = λ p q h e. rw (shared_at p (omega (arith, many))) (w.shown p q e);
            closed = λ p h e l j r n b.
                let y : p < from = omega (arith, many) in
                closed_after p y e (subst (λ (x : Step). 2 < x.kind) (shared_at p y) l) j r (subst (λ (x : Step). number_in x j ≡ suc r) (shared_at p y) n) b;
          }

      used-after : (q : ℕ) → length (steps_in o) ≤ q → q < length made → (new_of news s ≡ suc q) ⊎ CitedLater made q
      used-after q h l = go (for-why cells s (suc p) (w.only p q from₀.1 from₀.2).1)
        where
          from₀ : (p : ℕ) × (get_or news₀ (suc p) 0 ≡ 0) × (get_or news (suc p) 0 ≡ suc q)
          from₀ = w.origin q h l

          p : ℕ
          p = from₀.0

          go : (suc p ≡ s) ⊎ ((i : ℕ) × (i < count_in cells) × CitedBy cells marks i (suc p)) → (new_of news s ≡ suc q) ⊎ CitedLater made q
          go (inl e) = inl (ap (new_of news) (sym e) ∙ new-at news p ∙ from₀.2)
          go (inr (i, b, e)) = sorted (get_or news₀ (suc i) 0) refl
            where
              stays : keep (suc i) ≡ true
              stays = subst (λ (x : ℕ). keep x ≡ true) (omega arith) e.stays

              number : number_in (step_at steps i) e.which ≡ suc p
              number = number_at i b e.which ∙ sym e.number

              citing : 2 < (step_at steps i).kind
              citing = omega (arith, kind-at i b, e.cites)

              new : (r : ℕ) × (get_or news (suc i) 0 ≡ suc r)
              new = positive (get_or news (suc i) 0) (w.done i b stays)

              sorted : (v : ℕ) → get_or news₀ (suc i) 0 ≡ v → (new_of news s ≡ suc q) ⊎ CitedLater made q
              sorted zero f =
                  inr (record {
                    place = new.0;
                    later = ((w.cites i new.0 f new.1 citing).1 e.which p q number (omega (arith, e.earlier)) from₀.2).1;
                    inside = (w.shown i new.0 new.1).inside;
                    citing = (w.cites i new.0 f new.1 citing).0;
                    which = e.which;
                    among = e.among;
                    number = ((w.cites i new.0 f new.1 citing).1 e.which p q number (omega (arith, e.earlier)) from₀.2).0;
                  })
              sorted (suc v) f =
                  let y : i < from = own-none i v f in
                  absurd
                  (knew.closed i (omega (arith, many)) (λ x. omega (arith, forgotten-shared from o.news i y, f, x))
                  (subst (λ (x : Step). 2 < x.kind) (sym (shared_at i y)) citing)
                  e.which
                  p
                  (subst (λ (x : Step). number_in x e.which ≡ suc p) (sym (shared_at i y)) number)
                  (omega (arith, e.earlier))
                  (sym (forgotten-shared from o.news p (omega (arith, e.earlier))) ∙ from₀.1))

    pub batch-sent : Space cells o → Sent c k a shared steps s o (batch (length c.rows) from owner cells s o)
    unfolding batch resent steps_in
    batch-sent room =
        record {
          knows = knows_after e.0.news (steps_in e.0) e.1.sends;
          follow = e.1.sends.follow;
          first = ap (λ (n : ℕ). take n (steps_in e.0)) (sym room.counted) ∙ e.1.sends.first;
          counted = e.1.counted;
          least = omega (arith, e.1.sends.least, e.1.counted, room.counted);
          most = omega (arith, e.1.sends.most, e.1.counted, room.counted, all);
          cites = step-cites e.0.news (steps_in e.0) e.1.sends;
          used = λ q h l. used-after e.0.news (steps_in e.0) e.1.sends q (omega (arith, room.counted)) (omega (arith, e.1.counted));
          owned = λ x. rw (all, many) (e.1.sends.owned x);
          numbers = e.1.sends.size ∙ forgotten-long from o.news;
          rest = e.1.rest;
          long = e.1.long;
        }
      where
        e : (o' : Out) × Emitting c k a few_rows few_patterns from owner cells drafted small marks closed o₀ (count_in cells) o'
        e = (
          batch (length c.rows) from owner cells s o,
          emitted-all c k a few_rows few_patterns from owner cells drafted small marks closed o₀
              (record {
                counted = room.counted;
                few = room.few;
                numbers = omega (arith, room.numbers, forgotten-long from o.news);
                space = room.space;
              })
              start,
        )
