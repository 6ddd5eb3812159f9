-- The numbers of references, and steps cited, by each way out of the code.
--     counted, cited-none    what is counted from 1, and a step that is not
--     mine                  what the functions of `words`, `table` and `citing` leave to show
-- Assumes nothing.
use mathlib.Core.Bool.{Bool, true, false, ◌&&◌, ◌||◌}
use mathlib.Core.List.{List}
use mathlib.Core.Path.{◌≡◌, refl, sym, ◌∙◌}
use Prim.Native.Nat.{ℕ, ◌+◌, ◌-◌, ◌≤◌, ◌<◌}
use native.Mathlib.Omega.{arith}
use lib.Dec.{eqb, ltb, leb}
use borrow.Author.Rules.{rules}
use borrow.Author.Tests.{eq-eqb, ne_eqb, lt-ltb, le-ltb, le-leb, ltb-true, leb-true}
use lib.ListN.{length, get_or}
use Rattle.meaning.specs.Checking.{number_below, side_of, counts, sides_by, used_by, cited_by}
use Rattle.meaning.specs.GroundColumns.{owner_of, left_ref, right_ref, step_from}
use Rattle.grounds_steps.specs.Steps.{word_in, steps_of}
use Rattle.grounds_steps.proofs.Saying.{step-at}
use Rattle.grounds_verdict.specs.Tests.{instances_in}

-- ---- what is counted from 1

pub uncounted : (count x : ℕ) → ((0 < x) × (x ≤ count) → ⊥) → counts count x ≡ false
unfolding counts
uncounted count x e = go (ltb 0 x) refl (leb x count) refl
  where
    go : (a : Bool) → ltb 0 x ≡ a → (b : Bool) → leb x count ≡ b → (ltb 0 x && leb x count) ≡ false
    go false p b q = rw p
    go true p false q = rw (p, q)
    go true p true q = absurd (e (ltb-true 0 x p, leb-true x count q))

pub counted : (count x place : ℕ) → (x ≡ place + 1) × (place < count) → counts count x ≡ true
unfolding counts
counted count x place h = rw (lt-ltb 0 x (omega arith), le-leb x count (omega arith))

-- ---- a reference

module _ (ns : List ℕ) (limit offset row : ℕ) where
  pub below_in : (x : ℕ) → row < limit → x ≡ get_or ns (offset + row) 0 → x ≡ number_below ns (length ns) limit offset row
  unfolding number_below
  below_in x h e = rw (lt-ltb row limit h, number_below) e

  pub below_out : limit ≤ row → length ns ≡ number_below ns (length ns) limit offset row
  unfolding number_below
  below_out h = rw (le-ltb row limit h, number_below)

module _ (ns : List ℕ) (n mark row : ℕ) (few : n ≤ length ns) where
  all : n + instances_in ns n ≡ length ns
  all = omega arith

  pub side-row : (x : ℕ) → mark ≡ 0 → x ≡ number_below ns (length ns) n 0 row → x ≡ side_of ns n (instances_in ns n) (record { mark = mark; row = row })
  unfolding side_of
  side-row x h e = rw (eq-eqb mark 0 h, side_of, all) e

  pub side-pattern : (x : ℕ) → (mark ≡ 0 → ⊥) → mark ≡ 1 → x ≡ number_below ns (length ns) (instances_in ns n) n row
      → x ≡ side_of ns n (instances_in ns n) (record { mark = mark; row = row })
  unfolding side_of
  side-pattern x h i e = rw (ne_eqb mark 0 h, side_of, eq-eqb mark 1 i, all) e

  pub side-none : (mark ≡ 0 → ⊥) → (mark ≡ 1 → ⊥) → length ns ≡ side_of ns n (instances_in ns n) (record { mark = mark; row = row })
  unfolding side_of
  side-none h i = rw (ne_eqb mark 0 h, side_of, ne_eqb mark 1 i) (sym all)

-- ---- a step cited, by its first word

module _ (ns : List ℕ) (n m : ℕ) (steps : List (List ℕ)) (limit o x l r : ℕ) where
  pub cited-none : counts limit x ≡ false → false ≡ cited_by ns n m (steps_of steps) limit o x l r
  unfolding cited_by
  cited-none e = rw e

  -- a step that is there is judged by its owner and its sides
  module _ (place : ℕ) (h : (x ≡ place + 1) × (place < limit)) (j : limit ≤ length steps) (w : ℕ) (ew : w ≡ word_in steps place 0) where
    before : x - 1 ≡ place
    before = omega arith

    module _ (b : Bool) (eb : b ≡ (eqb (owner_of w) 0 || eqb (owner_of w) o)) where
      cited-used : cited_by ns n m (steps_of steps) limit o x l r ≡ (b && sides_by ns n m (left_ref w) (right_ref w) l r)
      unfolding cited_by used_by step_from
      cited-used = rw (counted limit x place h, before, step-at steps place (omega arith), ← ew, ← eb)

      pub cited-owner : b ≡ false → false ≡ cited_by ns n m (steps_of steps) limit o x l r
      cited-owner f = sym (cited-used ∙ rw f)

      pub cited-left : (s : ℕ) → b ≡ true → s ≡ side_of ns n m (left_ref w) → (s ≡ l → ⊥) → false ≡ cited_by ns n m (steps_of steps) limit o x l r
      unfolding sides_by
      cited-left s f e g = sym (cited-used ∙ rw (f, ← e, ne_eqb s l g))

      pub cited-right : (s t : ℕ) → b ≡ true → s ≡ side_of ns n m (left_ref w) → s ≡ l → t ≡ side_of ns n m (right_ref w)
          → eqb t r ≡ cited_by ns n m (steps_of steps) limit o x l r
      unfolding sides_by
      cited-right s t f e g k = sym (cited-used ∙ rw (f, ← e, eq-eqb s l g, ← k))

pub ruleset mine = (rules, uncounted, below_in, below_out, side-row, side-pattern, side-none, cited-none, cited-owner, cited-left, cited-right)
