-- A step by each way out of the code: its kind, its owner and its sides.
--     mine    what `derives` and `follows` leave to show
-- Assumes nothing.
use mathlib.Core.Bool.{Bool, true, false, ◌&&◌}
use mathlib.Core.List.{List}
use mathlib.Core.Path.{◌≡◌, refl, ap, sym, ◌∙◌}
use Prim.Native.Nat.{ℕ, ◌+◌, ◌≤◌, ◌<◌}
use native.Mathlib.Omega.{arith}
use lib.Dec.{eqb, ltb}
use borrow.Author.Rules.{rules}
use borrow.Author.Tests.{ne_eqb, lt-ltb, le-ltb}
use lib.ListN.{length, get_or}
use Rattle.meaning.specs.Context.{Row}
use Rattle.meaning.specs.Rules.{Literal}
use Rattle.meaning.specs.Grounds.{Step}
use Rattle.meaning.specs.Checking.{paired_by, owner_by, side_of, derives_by, follows_by}
use Rattle.meaning.specs.GroundColumns.{owner_of, kind_in, left_ref, right_ref, step_from}
use Rattle.runs.specs.Runs.{rows_of, literals_of}
use Rattle.runs.proofs.Saying.{rows-at}
use Rattle.grounds_steps.specs.Steps.{word_in, steps_of}
use Rattle.grounds_steps.proofs.Saying.{step-at}
use Rattle.grounds_numbers.specs.Keys.{Keyed}
use Rattle.grounds_numbers.specs.Pairs.{pairs_in}
use Rattle.grounds_verdict.specs.Tests.{instances_in, kind_at, numbers_at, cited_at, met_at, congruent_at, added_at, derives_at, follows_at}
use Rattle.grounds_verdict.specs.Reasons.{kind_number}
use Rattle.grounds_verdict.specs.declared.words.Reason.{Reason}
use Rattle.grounds_verdict.specs.declared.words.Reason.TheVariants.{Statement, Reflexivity, Symmetry, Transitivity, Congruence, Addition}
use Rattle.grounds_verdict.proofs.Ways.{and-off}

-- ---- the kinds

no_kind : (ns : List ℕ) (n m : ℕ) (ks : List Row) (eqs : List (ℕ × ℕ)) (ls : List Literal) (steps : List Step) (limit o kind : ℕ) (xs : List ℕ) (l r : ℕ)
    → (kind ≡ 1 → ⊥) → (kind ≡ 2 → ⊥) → (kind ≡ 3 → ⊥) → (kind ≡ 4 → ⊥) → (kind ≡ 5 → ⊥) → (kind ≡ 6 → ⊥)
    → false ≡ derives_by ns n m ks eqs ls steps limit o kind xs l r
unfolding derives_by
no_kind ns n m ks eqs ls steps limit o kind xs l r a b c d e f =
    sym (rw (ne_eqb kind 1 a, derives_by, ne_eqb kind 2 b, ne_eqb kind 3 c, ne_eqb kind 4 d, ne_eqb kind 5 e, ne_eqb kind 6 f))

pub reasonless : (kind : ℕ) → (kind ≡ 1 → ⊥) → (kind ≡ 2 → ⊥) → (kind ≡ 3 → ⊥) → (kind ≡ 4 → ⊥) → (kind ≡ 5 → ⊥) → (kind ≡ 6 → ⊥)
    → (why : Reason)
    → kind ≡ kind_number why
    → ⊥
reasonless kind a b c d e f Statement h = a h
reasonless kind a b c d e f Reflexivity h = b h
reasonless kind a b c d e f Symmetry h = c h
reasonless kind a b c d e f Transitivity h = d h
reasonless kind a b c d e f Congruence h = e h
reasonless kind a b c d e f Addition h = f h

module _ (keys pairs literals ns : List ℕ) (n : ℕ) (steps : List (List ℕ)) (i o l r w : ℕ) (ew : w ≡ word_in steps i 0) where
  pub derives-none : ((why : Reason) → kind_in w ≡ kind_number why → ⊥) → false ≡ derives_at keys pairs literals ns n steps i o l r
  derives-none h =
      rw (← ew)
      (no_kind ns n (instances_in ns n) (rows_of keys) (pairs_in pairs) (literals_of literals) (steps_of steps) i o (kind_in w) (numbers_at steps i) l r (h Statement) (h Reflexivity) (h Symmetry) (h Transitivity) (h Congruence) (h Addition))

  module _ (why : Reason) (ek : kind_in w ≡ kind_number why) where
    kind-as : (x : Reason) → why ≡ x → kind_at steps i ≡ kind_number x
    kind-as x e = ap kind_in (sym ew) ∙ ek ∙ ap kind_number e

    module _ (x : ℕ) (ex : x ≡ get_or (numbers_at steps i) 0 0) (b : Bool) where
      pub derives-stated : why ≡ Statement → b ≡ paired_by (pairs_in pairs) x l r → b ≡ derives_at keys pairs literals ns n steps i o l r
      unfolding derives_by
      derives-stated e f = rw (kind-as Statement e, ← ex) f

      pub derives-symmetric : why ≡ Symmetry → b ≡ cited_at ns n steps i o x r l → b ≡ derives_at keys pairs literals ns n steps i o l r
      unfolding derives_by
      derives-symmetric e f = rw (kind-as Symmetry e, ← ex) f

      pub derives-transitive : (y : ℕ) → why ≡ Transitivity → y ≡ get_or (numbers_at steps i) 1 0 → b ≡ met_at ns n steps i o x y l r
          → b ≡ derives_at keys pairs literals ns n steps i o l r
      unfolding derives_by
      derives-transitive y e ey f = rw (kind-as Transitivity e, ← ex, ← ey) f

    pub derives-reflexive : why ≡ Reflexivity → eqb l r ≡ derives_at keys pairs literals ns n steps i o l r
    unfolding derives_by
    derives-reflexive e = rw (kind-as Reflexivity e)

    pub derives-congruent : (b : Bool) → why ≡ Congruence → Keyed keys (length ns) → l < length ns → r < length ns → b ≡ congruent_at keys ns n steps i o l r
        → b ≡ derives_at keys pairs literals ns n steps i o l r
    unfolding derives_by
    derives-congruent b e keyed hl hr f =
        rw (kind-as Congruence e, rows-at keys l (omega (arith, keyed.room)), rows-at keys r (omega (arith, keyed.room))) f

    pub derives-added : (b : Bool) → why ≡ Addition → b ≡ added_at literals ns n o l r → b ≡ derives_at keys pairs literals ns n steps i o l r
    unfolding derives_by
    derives-added b e f = rw (kind-as Addition e) f

-- ---- a step

module _ (keys pairs literals ns : List ℕ) (n : ℕ) (few : n ≤ length ns) (steps : List (List ℕ)) (i w o : ℕ) (inside : i < length steps)
    (ew : w ≡ word_in steps i 0) (eo : o ≡ owner_of w) where
  abbrev m : ℕ
  m = instances_in ns n

  abbrev owned : Bool
  owned = owner_by (literals_of literals) o

  abbrev left : ℕ
  left = side_of ns n (instances_in ns n) (left_ref w)

  abbrev right : ℕ
  right = side_of ns n (instances_in ns n) (right_ref w)

  all : n + instances_in ns n ≡ length ns
  all = omega arith

  follows-words : follows_at keys pairs literals ns n steps i
      ≡ (owned && ((ltb left (length ns) && ltb right (length ns)) && derives_at keys pairs literals ns n steps i o left right))
  unfolding follows_by step_from
  follows-words = rw (step-at steps i inside, eo, ew, all)

  pub follows-owner : (b : Bool) → b ≡ owner_by (literals_of literals) o → b ≡ false → false ≡ follows_at keys pairs literals ns n steps i
  follows-owner b e f = sym (follows-words ∙ rw (← e, f))

  module _ (l : ℕ) (el : l ≡ side_of ns n (instances_in ns n) (left_ref w)) where
    pub follows-left : length ns ≤ l → false ≡ follows_at keys pairs literals ns n steps i
    follows-left h = sym (follows-words ∙ rw (← el, le-ltb l (length ns) h) (and-off owned false refl))

    module _ (hl : l < length ns) (r : ℕ) (er : r ≡ side_of ns n (instances_in ns n) (right_ref w)) where
      pub follows-right : length ns ≤ r → false ≡ follows_at keys pairs literals ns n steps i
      follows-right h = sym (follows-words ∙ rw (← el, ← er, lt-ltb l (length ns) hl, le-ltb r (length ns) h) (and-off owned false refl))

      pub follows-derives : r < length ns → (b d : Bool) → b ≡ owner_by (literals_of literals) o → b ≡ true → d ≡ derives_at keys pairs literals ns n steps i o l r
          → d ≡ follows_at keys pairs literals ns n steps i
      follows-derives h b d eb hb q =
          sym (follows-words ∙ rw (← el, ← er, ← eb, hb, lt-ltb l (length ns) hl, lt-ltb r (length ns) h, ← q))

pub ruleset mine = (
  rules,
  reasonless,
  derives-stated,
  derives-reflexive,
  derives-symmetric,
  derives-transitive,
  derives-congruent,
  derives-added,
  derives-none,
  follows-owner,
  follows-left,
  follows-right,
  follows-derives,
)
