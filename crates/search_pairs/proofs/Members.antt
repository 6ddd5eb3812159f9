-- The numbers of a set, and the members of a label.
--     class-some .. class-none          the next number of a set
--     Seeking, seeking-start .. -none   the next member of a label: the label itself, which is the lowest, or a class that is known to have another one's
--     Walk                              the members before a place have been seen
--     walk_start, walk_step, walk-done  none, one member more, and all
-- Assumes nothing.
use mathlib.Core.Bool.{Bool, true, false}
use mathlib.Core.List.{List}
use mathlib.Core.Path.{◌≡◌, refl, ap, sym, ◌∙◌}
use mathlib.Core.Logic.{⊎_elim}
use Prim.Native.Nat.{ℕ, ◌+◌, ◌-◌, ◌≤◌, ◌<◌}
use native.Mathlib.Omega.{arith}
use native.Mathlib.Decide.{dec_lt, ℕ_discrete}
use borrow.Author.Rules.{rules}
use borrow.Author.Tests.{ltb-true, ltb-false}
use lib.Dec.{ltb}
use lib.ListN.{length}
use Rattle.std.specs.Bool.{then_some}
use Rattle.meaning.specs.Equality.{rep_at}
use Rattle.meaning.proofs.Logic.{false-true}
use Rattle.bits.specs.Sets.{has, NoneFrom, First}
use Rattle.search_pairs.specs.Ready.{words_for}
use Rattle.search_pairs.specs.Steps.{Space, Labelled, NextClass, ClassAt, NoClass, MemberAt, NoMember, Own}

-- ---- the next number of a set

module _ (n : ℕ) (ws : List ℕ) (base w from : ℕ) (e : w ≡ words_for n) where
  pub class-some : (k : ℕ) → First ws base w from k → k < n → ClassAt n ws base from k
  class-some k f h = record { inside = h; later = f.later; here = f.here; first = f.first }

  pub class-past : (k : ℕ) → First ws base w from k → n ≤ k → NoClass n ws base from
  class-past k f h = record { none = λ a l i. f.first a l (omega arith) }

  pub class-told : (k : ℕ) → First ws base w from k → NextClass n ws base from (then_some (ltb k n) k)
  class-told k f = go (ltb k n) refl
    where
      go : (b : Bool) → ltb k n ≡ b → NextClass n ws base from (then_some b k)
      go true h = class-some k f (ltb-true _ _ h)
      go false h = class-past k f (ltb-false _ _ h)

  pub class-none : NoneFrom ws base w from → NoClass n ws base from
  class-none f = record { none = λ a l i. f.none a l (omega (arith, e)) }

-- ---- the next member

-- no class with this label stands from one place on, before another
pub record Seeking (n : ℕ) (labels : List ℕ) (z w from at : ℕ) : Type 0 where
  pub words : w ≡ words_for n
  pub past : z < from
  pub later : from ≤ at
  pub first : (a : ℕ) → from ≤ a → a < at → a < n → rep_at labels a ≡ z → ⊥

pub member-own : (n : ℕ) (labels work : List ℕ) (z from : ℕ) → Labelled n labels work → Own n labels z → from ≤ z → MemberAt n labels z from z
member-own n labels work z from laid o h =
    record { inside = o.inside; later = h; here = o.own; first = λ a l m q. omega (arith, laid.low a (omega (arith, o.inside)), q) }

module _ (n : ℕ) (labels work : List ℕ) (z w from : ℕ) where
  pub seeking-start : z < from → w ≡ words_for n → Seeking n labels z w from from
  seeking-start h e = record { words = e; past = h; later = omega arith; first = λ a l m. absurd (omega arith) }

  pub seeking-room : Space n labels work → w ≡ words_for n → w + words_for n ≤ length work
  seeking-room space e = omega (arith, space.work-long)

  module _ (at : ℕ) (laid : Labelled n labels work) (s : Seeking n labels z w from at) where
    -- a class that is not known has its own label
    other : (a : ℕ) → from ≤ a → a < n → has work w a ≡ false → rep_at labels a ≡ z → ⊥
    other a l h f q =
        ⊎_elim (λ o. omega (arith, s.past)) (λ v. false-true (ap (λ (x : ℕ). has work x a) s.words ∙ v) f) (laid.moved a h)

    module _ (k : ℕ) (c : ClassAt n work w at k) (y : ℕ) (ey : y ≡ rep_at labels k) where
      below : (a : ℕ) → from ≤ a → a < k → rep_at labels a ≡ z → ⊥
      below a l m q = go (dec_lt a at)
        where
          go : Dec (a < at) → ⊥
          go (yes b) = s.first a l b (omega (arith, c.inside)) q
          go (no b) = other a l (omega (arith, c.inside)) (c.first a (omega arith) m) q

      pub seeking-found : y ≡ z → MemberAt n labels z from k
      seeking-found e = record { inside = c.inside; later = omega (arith, s.later, c.later); here = sym ey ∙ e; first = below }

      pub seeking-step : (y ≡ z → ⊥) → (m : ℕ) → m ≡ k + 1 → Seeking n labels z w from m
      seeking-step ne m em =
          record { words = s.words; past = s.past; later = omega (arith, s.later, c.later); first = λ a l b i q. go a l b q (dec_lt a k) (ℕ_discrete a k) }
        where
          go : (a : ℕ) → from ≤ a → a < m → rep_at labels a ≡ z → Dec (a < k) → Dec (a ≡ k) → ⊥
          go a l b q (yes t) d = below a l t q
          go a l b q (no t) (yes d) = ne (ey ∙ ap (rep_at labels) (sym d) ∙ q)
          go a l b q (no t) (no d) = omega arith

    pub seeking-none : NoClass n work w at → NoMember n labels z from
    seeking-none c = record { none = λ a l h q. go a l h q (dec_lt a at) }
      where
        go : (a : ℕ) → from ≤ a → a < n → rep_at labels a ≡ z → Dec (a < at) → ⊥
        go a l h q (yes b) = s.first a l b h q
        go a l h q (no b) = other a l h (c.none a (omega arith) h) q

-- a number is later than the one before it
pub class-less : (n : ℕ) (ws : List ℕ) (base from k m : ℕ) → ClassAt n ws base from k → m ≡ k + 1 → n - m < n - from
class-less n ws base from k m c e = omega (arith, c.inside, c.later)

pub member-less : (n : ℕ) (labels : List ℕ) (z from k m : ℕ) → MemberAt n labels z from k → m ≡ k + 1 → n - m < n - from
member-less n labels z from k m c e = omega (arith, c.inside, c.later)

-- ---- a walk over the members

pub record Walk (n : ℕ) (labels : List ℕ) (z : ℕ) (P : ℕ → Type 0) (from : ℕ) : Type 0 where
  pub seen : (a : ℕ) → a < from → a < n → rep_at labels a ≡ z → P a

module _ {n : ℕ} {labels : List ℕ} {z : ℕ} {P : ℕ → Type 0} where
  pub walk_start : Walk n labels z P 0
  walk_start = record { seen = λ a l i q. absurd (omega arith) }

  pub walk_step : {from k m : ℕ} → Walk n labels z P from → MemberAt n labels z from k → P k → m ≡ k + 1 → Walk n labels z P m
  walk_step {from} {k} {m} w c p em = record { seen = λ a l i q. go a l i q (dec_lt a from) (ℕ_discrete a k) }
    where
      go : (a : ℕ) → a < m → a < n → rep_at labels a ≡ z → Dec (a < from) → Dec (a ≡ k) → P a
      go a l i q (yes b) d = w.seen a b i q
      go a l i q (no b) (yes d) = rw d p
      go a l i q (no b) (no d) = absurd (c.first a (omega arith) (omega arith) q)

  pub walk-done : {from : ℕ} → Walk n labels z P from → NoMember n labels z from → (a : ℕ) → a < n → rep_at labels a ≡ z → P a
  walk-done {from} w c a i q = go (dec_lt a from)
    where
      go : Dec (a < from) → P a
      go (yes b) = w.seen a b i q
      go (no b) = absurd (c.none a (omega arith) i q)

pub ruleset mine = (rules, class-some, class-past, class-none, class-less, member-own, seeking-start, seeking-room, seeking-found, seeking-step, seeking-none)
