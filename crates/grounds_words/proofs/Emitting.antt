-- Steps in a run of words, as the code writes them.
--     Through   a loop over the steps: the first so many are sent
--     Clearing  a loop over new numbers: those of steps before i are forgotten, as far as they are not shared
--     mine      what the functions of the root leave to show
-- Assumes nothing.
use mathlib.Core.Bool.{Bool, true, false}
use mathlib.Core.List.{List, ◌∷◌}
use mathlib.Core.Path.{◌≡◌, refl, ap, sym, ◌∙◌, subst}
use mathlib.Core.Logic.{◌⊎◌, inl, inr}
use Prim.Native.Nat.{ℕ, zero, suc, ◌+◌, ◌-◌, ◌*◌, ◌≤◌, ◌<◌}
use native.Mathlib.Numerals.{add-one}
use native.Mathlib.Omega.{arith}
use lib.Dec.{eqb}
use lib.ListN.{length, get_or, set, take, replicate, length-set, length-take, length-replicate}
use borrow.Author.Rules.{rules}
use borrow.Author.Tests.{eq-eqb, ne_eqb, lt-ltb, le-ltb}
use Rattle.grounds_steps.specs.Steps.{words_of}
use Rattle.grounds_laws.specs.Limits.{draft_size, number_run}
use Rattle.grounds_laws.specs.Draft.{count_in, cell_in, owner_at}
use Rattle.grounds_laws.specs.Classes.{upto}
use Rattle.grounds_batches.specs.Marking.{kept, marked_for}
use Rattle.grounds_batches.specs.Sending.{word_in, numbers_word, Out, out_of, forget_one, forgotten, written, send_one, sent, resent, batch, Small}
use Rattle.grounds_words.specs.declared.Out.{Out as Held}
use Rattle.grounds_words.specs.Emitting.{Reaches, Batched, Sendable}
use Rattle.grounds_words.specs.Holding.{out_in, Keeps, Becomes}

-- ---- a step

module _ (from owner i : ℕ) where
  pub owner-shared : i < from → 0 ≡ owner_at from owner i
  unfolding owner_at
  owner-shared h = rw (lt-ltb i from h, owner_at)

  pub owner-own : from ≤ i → owner ≡ owner_at from owner i
  unfolding owner_at
  owner-own h = rw (le-ltb i from h, owner_at)

module _ (rows from owner : ℕ) (cells marks : List ℕ) (i : ℕ) (before : Held) where
  is-kept : (get_or marks (i + 1) 0 ≡ 0 → ⊥) → kept marks (i + 1) ≡ true
  unfolding kept
  is-kept d = rw (ne_eqb (get_or marks (i + 1) 0) 0 d)

  pub send-none : get_or marks (i + 1) 0 ≡ 0 → Becomes before before (send_one rows from owner cells marks i (out_in before))
  unfolding send_one kept
  send-none e =
      let k : kept marks (i + 1) ≡ false = rw (eq-eqb (get_or marks (i + 1) 0) 0 e) in
      record { so = rw (k, send_one); keeps = record { words = refl; numbers = refl } }

  pub send-old : (get_or marks (i + 1) 0 ≡ 0 → ⊥) → (get_or before.news.now (i + 1) 0 ≡ 0 → ⊥)
      → Becomes before before (send_one rows from owner cells marks i (out_in before))
  unfolding send_one
  send-old d e = record { so = rw (is-kept d, ne_eqb (get_or before.news.now (i + 1) 0) 0 e, send_one); keeps = record { words = refl; numbers = refl } }

  pub send-new : {after : Held} {x y z : ℕ} → (get_or marks (i + 1) 0 ≡ 0 → ⊥) → get_or before.news.now (i + 1) 0 ≡ 0
      → x ≡ word_in rows (owner_at from owner i) (cell_in cells i 1) (cell_in cells i 2) (cell_in cells i 3)
      → y ≡ numbers_word before.news.now (cell_in cells i 1) (cell_in cells i 4) (cell_in cells i 5)
      → z ≡ numbers_word before.news.now (cell_in cells i 1) (cell_in cells i 6) (cell_in cells i 7)
      → Becomes before after (out_of (set before.news.now (i + 1) (before.next + 1)) (before.next + 1) (set before.steps.now before.next (words_of x y z)))
      → Becomes before after (send_one rows from owner cells marks i (out_in before))
  unfolding send_one written
  send-new d e ex ey ez h =
      record {
        so = h.so ∙ rw (is-kept d, eq-eqb (get_or before.news.now (i + 1) 0) 0 e, send_one, sym ex, sym ey, sym ez);
        keeps = h.keeps;
      }

-- ---- all steps

-- one step more at the most, and as many places as before
record Kept (before after : Out) : Type 0 where
  most : after.next ≤ before.next + 1
  numbers : length after.news ≡ length before.news

one_kept : (rows from owner : ℕ) (cells marks : List ℕ) (i : ℕ) (o : Out) → Kept o (send_one rows from owner cells marks i o)
unfolding send_one written
one_kept rows from owner cells marks i o = go (kept marks (i + 1)) refl (eqb (get_or o.news (i + 1) 0) 0) refl
  where
    go : (b : Bool) → kept marks (i + 1) ≡ b → (d : Bool) → eqb (get_or o.news (i + 1) 0) 0 ≡ d → Kept o (send_one rows from owner cells marks i o)
    go true e true f = rw (e, f, send_one) (record { most = omega arith; numbers = length-set o.news _ _ })
    go true e false f = rw (e, f, send_one) (record { most = omega arith; numbers = refl })
    go false e d f = rw (e, send_one) (record { most = omega arith; numbers = refl })

pub record Through (rows from owner : ℕ) (cells marks : List ℕ) (n : ℕ) (before after : Held) (i : ℕ) : Type 0 where
  pub so : out_in after ≡ sent rows from owner cells marks i (out_in before)
  pub reach : i ≤ n
  pub most : after.next ≤ before.next + i
  pub numbers : length after.news.now ≡ length before.news.now
  pub keeps : Keeps before after

pub through-start : (rows from owner : ℕ) (cells marks : List ℕ) (n : ℕ) (o : Held) → Through rows from owner cells marks n o o 0
unfolding sent upto
through-start rows from owner cells marks n o =
    record { so = refl; reach = omega arith; most = omega arith; numbers = refl; keeps = record { words = refl; numbers = refl } }

module _ {rows from owner : ℕ} {cells marks : List ℕ} {n : ℕ} {before after : Held} {i : ℕ} (w : Through rows from owner cells marks n before after i) where
  pub through-next : {after' : Held} → i < n → Becomes after after' (send_one rows from owner cells marks i (out_in after))
      → Through rows from owner cells marks n before after' (i + 1)
  unfolding sent upto
  through-next {after'} h e =
      record {
        so = rw (add-one, sym w.so) e.so;
        reach = omega arith;
        most = omega (arith, kept'.most, w.most);
        numbers = kept'.numbers ∙ w.numbers;
        keeps = record { words = e.keeps.words ∙ w.keeps.words; numbers = e.keeps.numbers ∙ w.keeps.numbers };
      }
    where
      kept' : Kept (out_in after) (out_in after')
      kept' = subst (Kept (out_in after)) (sym e.so) (one_kept rows from owner cells marks i (out_in after))

  pub through-done : n ≡ count_in cells → n ≤ i → Becomes before after (sent rows from owner cells marks (count_in cells) (out_in before))
  through-done e h =
      let z : i ≡ count_in cells = omega (arith, w.reach) in
      record { so = w.so ∙ ap (λ (m : ℕ). sent rows from owner cells marks m (out_in before)) z; keeps = w.keeps }

  -- what a turn asks
  module _ (e : n ≡ count_in cells) (l : i < n) (a : Sendable cells before.news.now before.next) where
    pub send-reaches : count_in cells < length marks → Reaches cells marks after.news.now i
    send-reaches h = record { places = omega (arith, a.places); mark = omega arith; number = omega (arith, a.numbers, w.numbers) }

    pub send-few : after.next + 1 < 4294967296
    send-few = omega (arith, a.few, w.most)

-- ---- new numbers that are forgotten

forget-below : (from : ℕ) (news : List ℕ) (n : ℕ) → n ≤ from → upto n (forget_one from) news ≡ news
unfolding upto forget_one
forget-below from news zero h = refl
forget-below from news (suc n) h = rw (forget_one, lt-ltb n from (omega arith)) (forget-below from news n (omega arith))

forget-past : (from : ℕ) (news : List ℕ) (n : ℕ) → from ≤ n → upto (suc n) (forget_one from) news ≡ set (upto n (forget_one from) news) (n + 1) 0
unfolding upto forget_one
forget-past from news n h = rw (forget_one, le-ltb n from h)

pub record Clearing (from : ℕ) (start : List ℕ) (n : ℕ) (news : List ℕ) (i : ℕ) : Type 0 where
  pub so : news ≡ upto i (forget_one from) start
  pub past : from ≤ i
  pub reach : (i ≤ n) ⊎ (i ≡ from)
  pub long : length news ≡ length start

pub clearing-start : (from : ℕ) (news : List ℕ) (n : ℕ) → Clearing from news n news from
clearing-start from news n = record { so = sym (forget-below from news from (omega arith)); past = omega arith; reach = inr refl; long = refl }

module _ {from : ℕ} {start : List ℕ} {n : ℕ} {news : List ℕ} {i : ℕ} (w : Clearing from start n news i) where
  pub clearing-next : i < n → Clearing from start n (set news (i + 1) 0) (i + 1)
  clearing-next h =
      let z : suc i ≡ i + 1 = omega arith in
      record {
        so =
            ap (λ (l : List ℕ). set l (i + 1) 0) w.so
            ∙ sym (forget-past from start i w.past)
            ∙ ap (λ (m : ℕ). upto m (forget_one from) start) z;
        past = omega (arith, w.past);
        reach = inl (omega arith);
        long = length-set news (i + 1) 0 ∙ w.long;
      }

  pub clearing-room : i < n → n ≡ length start - 1 → i + 1 < length news
  clearing-room h e = omega (arith, w.long)

  pub clearing-long : length news ≡ length start
  clearing-long = w.long

  pub clearing-done : n ≡ length start - 1 → n ≤ i → news ≡ forgotten from start
  unfolding forgotten
  clearing-done e h = go w.reach
    where
      go : (i ≤ n) ⊎ (i ≡ from) → news ≡ upto (length start - 1) (forget_one from) start
      go (inl l) = let z : i ≡ length start - 1 = omega arith in w.so ∙ ap (λ (m : ℕ). upto m (forget_one from) start) z
      go (inr q) = w.so ∙ forget-below from start i (omega arith) ∙ sym (forget-below from start (length start - 1) (omega arith))

-- ---- a batch

take-zeros : (n k : ℕ) → n ≤ k → ◌≡◌ {A = List ℕ} (take n (replicate k 0)) (replicate n 0)
take-zeros zero k h = refl
take-zeros (suc n) zero h = absurd (omega arith)
take-zeros (suc n) (suc k) h = ap (λ (l : List ℕ). 0 ∷ l) (take-zeros n k (omega arith))

module _ (cells news : List ℕ) (next : ℕ) (a : Sendable cells news next) where
  pub batch-first : 0 < length cells
  batch-first = omega (arith, a.places)

  pub batch-numbers : 0 < length news
  batch-numbers = omega (arith, a.numbers)

  pub batch-places : count_in cells * draft_size < length cells
  batch-places = a.places

  pub batch-again : {cleared : List ℕ} → length cleared ≡ length news → Sendable cells cleared next
  batch-again e = record { places = a.places; most = a.most; numbers = omega (arith, a.numbers); kinded = a.kinded; few = a.few }

  pub batch-marks : {n : ℕ} → n ≡ count_in cells → n + 1 ≤ number_run
  batch-marks e = omega (arith, a.most)

  pub batch-zeros : {n : ℕ} → n ≡ count_in cells → ◌≡◌ {A = List ℕ} (take (n + 1) (replicate number_run 0)) (replicate (count_in cells + 1) 0)
  batch-zeros e = ap (λ (i : ℕ). take {A = ℕ} (i + 1) (replicate number_run 0)) e ∙ take-zeros (count_in cells + 1) number_run (omega (arith, a.most))

  pub batch-counted : {n : ℕ} → n ≡ count_in cells → n + 1 ≡ length (take {A = ℕ} (n + 1) (replicate number_run 0))
  batch-counted {n} e = omega (arith, a.most, length-take {A = ℕ} (n + 1) (replicate number_run 0), length-replicate {A = ℕ} number_run 0)

pub marks-all : (cells marks after : List ℕ) → marks ≡ replicate (count_in cells + 1) 0 → length after ≡ length marks → count_in cells < length after
marks-all cells marks after e l = omega (arith, ap length e, length-replicate {A = ℕ} (count_in cells + 1) 0)

pub batch-all : (rows from owner : ℕ) (cells : List ℕ) (s : ℕ) (before : Held) {mid after : Held} {marks : List ℕ}
    → Becomes mid after (sent rows from owner cells marks (count_in cells) (out_in mid))
    → mid.news.now ≡ forgotten from before.news.now
    → mid.steps.now ≡ before.steps.now
    → mid.next ≡ before.next
    → marks ≡ marked_for cells s
    → Small cells
    → Batched rows from owner cells s (out_in before) (out_in after)
unfolding batch resent
batch-all rows from owner cells s before w e f g h l = record { out = w.so ∙ rw (e, f, g, h); small = l }

pub ruleset mine = (
  rules,
  owner-shared,
  owner-own,
  send-none,
  send-old,
  send-new,
  through-start,
  through-next,
  through-done,
  send-reaches,
  send-few,
  clearing-start,
  clearing-next,
  clearing-room,
  clearing-long,
  clearing-done,
  batch-first,
  batch-numbers,
  batch-places,
  batch-again,
  batch-marks,
  batch-zeros,
  batch-counted,
  marks-all,
  batch-all,
)
