-- Labels taken back.
--     Restoring      the classes before a place have their own label again
-- Assumes nothing.
use mathlib.Core.Bool.{false}
use mathlib.Core.List.{List}
use mathlib.Core.Path.{◌≡◌, refl, ap, ◌∙◌}
use mathlib.Core.Logic.{⊎_elim}
use Prim.Native.Nat.{ℕ, ◌+◌, ◌≤◌, ◌<◌}
use native.Mathlib.Omega.{arith}
use native.Mathlib.Decide.{dec_lt, ℕ_discrete}
use borrow.Author.Rules.{rules}
use lib.ListN.{length, set, length-set}
use lib.Seq.{get_or-set_same, get_or-set_other}
use Rattle.meaning.specs.Equality.{rep_at}
use Rattle.meaning.proofs.Logic.{false-true}
use Rattle.bits.specs.Sets.{has, Emptied}
use Rattle.search_pairs.specs.Ready.{words_for}
use Rattle.search_pairs.specs.Steps.{Space, Labelled, ClassAt, NoClass, Owned, Blank}
use Rattle.search_pairs.proofs.Members.{class-less}

pub record Restoring (n w : ℕ) (labels₀ labels work : List ℕ) (from : ℕ) : Type 0 where
  pub words : w ≡ words_for n
  pub space : Space n labels₀ work
  pub laid : Labelled n labels₀ work
  pub long : length labels ≡ length labels₀
  pub done : (a : ℕ) → a < from → a < n → rep_at labels a ≡ a
  pub same : (a : ℕ) → from ≤ a → rep_at labels a ≡ rep_at labels₀ a

module _ (n w : ℕ) (labels₀ work : List ℕ) where
  pub restoring-start : w ≡ words_for n → Space n labels₀ work → Labelled n labels₀ work → Restoring n w labels₀ labels₀ work 0
  restoring-start e space laid =
      record { words = e; space = space; laid = laid; long = refl; done = λ a l h. absurd (omega arith); same = λ a l. refl }

  pub restoring-room : Space n labels₀ work → w ≡ words_for n → w + words_for n ≤ length work
  restoring-room space e = omega (arith, space.work-long)

  module _ (labels : List ℕ) (from : ℕ) (p : Restoring n w labels₀ labels work from) where
    -- a class that is not known has its own label
    stays : (a : ℕ) → from ≤ a → a < n → has work w a ≡ false → rep_at labels a ≡ a
    stays a l i f =
        p.same a l ∙ ⊎_elim (λ o. o) (λ y. false-true (ap (λ (v : ℕ). has work v a) p.words ∙ y) f) (p.laid.moved a i)

    module _ (k : ℕ) (c : ClassAt n work w from k) where
      pub restoring-small : k < 65536
      restoring-small = omega (arith, c.inside, p.space.few)

      pub restoring-inside : k < length labels
      restoring-inside = omega (arith, c.inside, p.space.labels-long, p.long)

      pub restoring_step : (v x : ℕ) → v ≡ k → x ≡ k + 1 → Restoring n w labels₀ (set labels k v) work x
      restoring_step v x ev ex =
          record {
            words = p.words;
            space = p.space;
            laid = p.laid;
            long = length-set labels k v ∙ p.long;
            done = λ a l i. go a l i (dec_lt a from) (ℕ_discrete a k);
            same = λ a l. get_or-set_other labels k a v 0 (λ z. omega arith) ∙ p.same a (omega (arith, c.later));
          }
        where
          go : (a : ℕ) → a < x → a < n → Dec (a < from) → Dec (a ≡ k) → rep_at (set labels k v) a ≡ a
          go a l i b (yes d) = rw d (get_or-set_same labels k v 0 restoring-inside ∙ ev)
          go a l i (yes b) (no d) = get_or-set_other labels k a v 0 d ∙ p.done a b i
          go a l i (no b) (no d) = get_or-set_other labels k a v 0 d ∙ stays a (omega arith) i (c.first a (omega arith) (omega arith))

    pub restoring-done : NoClass n work w from → Owned n labels₀ labels
    restoring-done c = record { long = p.long; own = λ a i. go a i (dec_lt a from) }
      where
        go : (a : ℕ) → a < n → Dec (a < from) → rep_at labels a ≡ a
        go a i (yes b) = p.done a b i
        go a i (no b) = stays a (omega arith) i (c.none a (omega arith) i)

pub blank-so : (n : ℕ) (labels work labels' work' : List ℕ) → Space n labels work → Owned n labels labels' → Emptied (length work) work' → Blank n labels' work'
blank-so n labels work labels' work' s o e =
    record {
      space = record { few = s.few; labels-long = o.long ∙ s.labels-long; work-long = e.long ∙ s.work-long };
      own = o.own;
      none = e.words;
    }

pub ruleset mine = (rules, restoring-start, restoring_step, class-less, restoring-room, restoring-done, restoring-small, restoring-inside, blank-so)
