-- Owners and added equations by each way out of the code.
--     mine    what the functions of `owners` leave to show
-- Assumes nothing.
use mathlib.Core.Bool.{Bool, true, false, ◌&&◌, ◌||◌}
use mathlib.Core.List.{List}
use lib.ListN.{length}
use mathlib.Core.Path.{◌≡◌, refl, ap, sym, ◌∙◌}
use Prim.Native.Nat.{ℕ, ◌+◌, ◌-◌, ◌<◌}
use native.Mathlib.Omega.{arith}
use lib.Dec.{eqb}
use borrow.Author.Rules.{rules}
use borrow.Author.Tests.{eq-eqb, ne_eqb, eqb-true, eqb-false}
use Rattle.meaning.specs.Grounds.{literal_at}
use Rattle.meaning.specs.Rules.{Literal, equal, unequal}
use Rattle.meaning.specs.Values.{number_at}
use Rattle.meaning.specs.Columns.{literal_of}
use Rattle.meaning.specs.Checking.{counts, is_unequal, owner_by, adds_by, added_by}
use Rattle.runs.specs.Runs.{literal_count, sign_in, left_in, right_in, literal_in, literals_of}
use Rattle.runs.proofs.Saying.{length-literals, literals-at}
use Rattle.grounds_verdict.specs.Tests.{owned_at}
use Rattle.grounds_verdict.proofs.Numbers.{counted}

-- ---- a literal by its sign

pub literal-equal : (literals : List ℕ) (j : ℕ) → sign_in literals j ≡ 6 → literal_in literals j ≡ equal (left_in literals j) (right_in literals j)
unfolding literal_of
literal-equal literals j e = rw (eq-eqb (sign_in literals j) 6 e, literal_of)

pub literal-unequal : (literals : List ℕ) (j : ℕ) → (sign_in literals j ≡ 6 → ⊥) → literal_in literals j ≡ unequal (left_in literals j) (right_in literals j)
unfolding literal_of
literal-unequal literals j e = rw (ne_eqb (sign_in literals j) 6 e, literal_of)

-- ---- an owner

module _ (literals : List ℕ) (o : ℕ) where
  pub owned-none : counts (literal_count literals) o ≡ false → owned_at literals o ≡ false
  owned-none e = rw (length-literals literals, e)

  pub owned-owner : owner_by (literals_of literals) o ≡ (eqb o 0 || owned_at literals o)
  unfolding owner_by
  owned-owner = refl

  pub owner-shared : o ≡ 0 → true ≡ owner_by (literals_of literals) o
  unfolding owner_by
  owner-shared e = rw (eq-eqb o 0 e)

  pub owner-none : (o ≡ 0 → ⊥) → owned_at literals o ≡ false → false ≡ owner_by (literals_of literals) o
  owner-none e f = sym (owned-owner ∙ rw (ne_eqb o 0 e) f)

  module _ (place : ℕ) (h : (o ≡ place + 1) × (place < literal_count literals)) where
    before : o - 1 ≡ place
    before = omega arith

    there : literal_at (literals_of literals) (o - 1) ≡ literal_in literals place
    there = ap (literal_at (literals_of literals)) before ∙ literals-at literals place _ (omega arith)

    owned-sign : owned_at literals o ≡ is_unequal (literal_in literals place)
    owned-sign = rw (length-literals literals, counted (literal_count literals) o place h, there)

    module _ (d : Bool) (ed : d ≡ eqb (sign_in literals place) 6) where
      pub owned-equal : d ≡ true → owned_at literals o ≡ false
      unfolding is_unequal
      owned-equal e = owned-sign ∙ ap is_unequal (literal-equal literals place (eqb-true (sign_in literals place) 6 (sym ed ∙ e)))

pub sign-unequal : (literals : List ℕ) (place : ℕ) (d : Bool) → d ≡ eqb (sign_in literals place) 6 → d ≡ false → sign_in literals place ≡ 6 → ⊥
sign-unequal literals place d ed e = eqb-false (sign_in literals place) 6 (sym ed ∙ e)

module _ (literals : List ℕ) (o : ℕ) where
  -- an unequal literal that is there
  module _ (place : ℕ) (h : (o ≡ place + 1) × (place < literal_count literals) × (sign_in literals place ≡ 6 → ⊥)) where
    literal : literal_at (literals_of literals) (o - 1) ≡ unequal (left_in literals place) (right_in literals place)
    literal = there literals o place (h.0, h.1) ∙ literal-unequal literals place h.2

    pub owner-unequal : true ≡ owner_by (literals_of literals) o
    unfolding is_unequal
    owner-unequal =
        sym (owned-owner literals o
        ∙ rw (ne_eqb o 0 (λ e. omega arith), length-literals literals, counted (literal_count literals) o place (h.0, h.1), literal))

    -- ---- the equation that it adds

    module _ (ns : List ℕ) (n m l r p x : ℕ) (ep : p ≡ left_in literals place) (ex : x ≡ number_at ns (n + p)) where
      added-sides : added_by ns n m (literals_of literals) o l r ≡ (eqb x l && eqb (number_at ns (n + right_in literals place)) r)
      unfolding added_by adds_by
      added-sides = rw (length-literals literals, counted (literal_count literals) o place (h.0, h.1), literal, ex, ep)

      pub added-left : (x ≡ l → ⊥) → false ≡ added_by ns n m (literals_of literals) o l r
      added-left d = sym (added-sides ∙ rw (ne_eqb x l d))

      pub added-right : (q y : ℕ) → q ≡ right_in literals place → y ≡ number_at ns (n + q) → x ≡ l → eqb y r ≡ added_by ns n m (literals_of literals) o l r
      added-right q y eq ey d = sym (added-sides ∙ rw (eq-eqb x l d, ← eq, ← ey))

  pub added-none : (ns : List ℕ) (n m l r : ℕ) → owned_at literals o ≡ false → false ≡ added_by ns n m (literals_of literals) o l r
  unfolding added_by adds_by is_unequal
  added-none ns n m l r e = go (counts (length (literals_of literals)) o) refl (literal_at (literals_of literals) (o - 1)) refl
    where
      go : (b : Bool) → counts (length (literals_of literals)) o ≡ b → (z : Literal) → literal_at (literals_of literals) (o - 1) ≡ z
          → false ≡ added_by ns n m (literals_of literals) o l r
      go false p z q = rw p
      go true p (equal u v) q = rw (p, q)
      go true p (unequal u v) q = absurd (let z : true ≡ false = sym (rw (p, q)) ∙ e in cc)

pub ruleset mine = (rules, owned-none, owned-equal, sign-unequal, owner-shared, owner-none, owner-unequal, added-none, added-left, added-right)
