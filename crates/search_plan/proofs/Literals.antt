-- Literals looked at one by one: those that say p = p or that p and p differ, and the variables that they reach.
--     idle-unequal .. self-unequal         one literal
--     sides-idle, sides-asked              the variables of its sides
--     Reached, reached-start .. -done      those of the first literals
--     Allowed, allowed-start .. -done      none of the first literals says that p and p differ
-- Assumes nothing.
use mathlib.Core.Bool.{Bool, true, false, ◌||◌, not}
use mathlib.Core.List.{List, [], ◌∷◌, ◌++◌}
use mathlib.Core.Path.{◌≡◌, refl, sym, ap, ap₂, ◌∙◌}
use Prim.Native.Nat.{ℕ, zero, suc, ◌+◌, ◌-◌, ◌≤◌, ◌<◌}
use native.Mathlib.Omega.{arith}
use native.Mathlib.Numerals.{add-one}
use lib.Bits.{bit_or}
use lib.Dec.{eqb}
use borrow.Author.Rules.{rules}
use borrow.Author.Tests.{eq-eqb, ne_eqb}
use lib.ListN.{get_or}
use Rattle.meaning.specs.Rules.{Literal}
use Rattle.meaning.specs.Formed.{left_of, right_of}
use Rattle.meaning.specs.Columns.{literal_of}
use Rattle.runs.specs.Runs.{each, literal_count, left_in, right_in, sign_in, literal_in, literals_of}
use Rattle.runs.specs.Fit.{Every, NamedAt}
use Rattle.search_plan.specs.Asked.{idle, self_unequal, never}
use Rattle.search_plan.specs.Sets.{sides, reached_from, reached_by}

-- ---- one literal

module _ (sign p q : ℕ) where
  pub idle-unequal : (sign ≡ 6 → ⊥) → eqb sign 6 ≡ idle (literal_of sign p q)
  unfolding idle literal_of
  idle-unequal n = rw (ne_eqb sign 6 n, literal_of)

  pub idle-equal : sign ≡ 6 → eqb p q ≡ idle (literal_of sign p q)
  unfolding idle literal_of
  idle-equal e = rw (eq-eqb sign 6 e, literal_of)

  pub self-equal : sign ≡ 6 → not (eqb sign 6) ≡ self_unequal (literal_of sign p q)
  unfolding self_unequal literal_of
  self-equal e = rw (eq-eqb sign 6 e, literal_of)

  pub self-unequal : (sign ≡ 6 → ⊥) → eqb p q ≡ self_unequal (literal_of sign p q)
  unfolding self_unequal literal_of
  self-unequal n = rw (ne_eqb sign 6 n, literal_of)

  both-sides : (left_of (literal_of sign p q) ≡ p) × (right_of (literal_of sign p q) ≡ q)
  unfolding literal_of
  both-sides = go (eqb sign 6) refl
    where
      go : (b : Bool) → eqb sign 6 ≡ b → (left_of (literal_of sign p q) ≡ p) × (right_of (literal_of sign p q) ≡ q)
      go true e = rw (e, literal_of) (refl, refl)
      go false e = rw (e, literal_of) (refl, refl)

pub idle-sides : (sets : List ℕ) (l : Literal) → idle l ≡ true → sides sets l ≡ 0
unfolding sides
idle-sides sets l e = rw (e, sides)

pub asked-sides : (sets : List ℕ) (l : Literal) → idle l ≡ false → sides sets l ≡ bit_or (get_or sets (left_of l) 0) (get_or sets (right_of l) 0)
unfolding sides
asked-sides sets l e = rw (e, sides)

-- a literal whose numbers were read
module _ (literals : List ℕ) (l s p q : ℕ) (es : s ≡ sign_in literals l) (ep : p ≡ left_in literals l) (eq : q ≡ right_in literals l) where
  pub self-read : (r : Bool) → r ≡ self_unequal (literal_of s p q) → r ≡ self_unequal (literal_in literals l)
  self-read r h = rw (es, ep, eq) at h

  module _ (sets : List ℕ) (b : Bool) (e : b ≡ idle (literal_of s p q)) where
    now-idle : b ≡ idle (literal_in literals l)
    now-idle = rw (es, ep, eq) at e

    pub sides-idle : b ≡ true → 0 ≡ sides sets (literal_in literals l)
    sides-idle t = sym (idle-sides sets (literal_in literals l) (sym now-idle ∙ t))

    pub sides-asked : b ≡ false → bit_or (get_or sets p 0) (get_or sets q 0) ≡ sides sets (literal_in literals l)
    sides-asked f =
        let w : (left_of (literal_in literals l) ≡ left_in literals l) × (right_of (literal_in literals l) ≡ right_in literals l) =
        both-sides (sign_in literals l) (left_in literals l) (right_in literals l) in
        ap₂ (λ (x y : ℕ). bit_or (get_or sets x 0) (get_or sets y 0)) (ep ∙ sym w.0) (eq ∙ sym w.1)
        ∙ sym (asked-sides sets (literal_in literals l) (sym now-idle ∙ f))

module _ (literals : List ℕ) (m n l : ℕ) (f : Every (literal_count literals) (NamedAt literals m)) (e : n ≡ literal_count literals) (h : l < n) where
  pub literal-named : NamedAt literals m l
  literal-named = f.each l (omega arith)

  pub literal-inside : l < literal_count literals
  literal-inside = omega arith

-- ---- the variables

reached-snoc : (sets : List ℕ) (s : ℕ) (ls : List Literal) (l : Literal) → reached_from sets s (ls ++ (l ∷ [])) ≡ bit_or (reached_from sets s ls) (sides sets l)
unfolding reached_from
reached-snoc sets s [] l = refl
reached-snoc sets s (k ∷ ls) l = reached-snoc sets (bit_or s (sides sets k)) ls l

pub record Reached (literals sets : List ℕ) (n all l : ℕ) : Type 0 where
  pub count : n ≡ literal_count literals
  pub few : l ≤ n
  pub so : all ≡ reached_by sets (each (literal_in literals) l)

module _ (literals sets : List ℕ) (n : ℕ) where
  pub reached-start : n ≡ literal_count literals → Reached literals sets n 0 0
  unfolding reached_from each
  reached-start e = record { count = e; few = omega arith; so = refl }

  module _ (all l : ℕ) (t : Reached literals sets n all l) where
    pub reached-next : (x y : ℕ) → l < n → x ≡ sides sets (literal_in literals l) → y ≡ bit_or all x → Reached literals sets n y (l + 1)
    unfolding each
    reached-next x y h p q =
        record {
          count = t.count;
          few = omega arith;
          so = rw (add-one l, each) (q ∙ ap₂ bit_or t.so p ∙ sym (reached-snoc sets 0 (each (literal_in literals) l) (literal_in literals l)));
        }

    pub reached-done : n ≤ l → all ≡ reached_by sets (literals_of literals)
    unfolding literals_of
    reached-done h = let e : l ≡ literal_count literals = omega (arith, t.count, t.few) in t.so ∙ ap (λ (k : ℕ). reached_by sets (each (literal_in literals) k)) e

-- ---- literals that never hold

or-false : (a : Bool) → (a || false) ≡ a
or-false true = refl
or-false false = refl

or-true : (a : Bool) → (a || true) ≡ true
or-true true = refl
or-true false = refl

or_assoc : (a b c : Bool) → (a || (b || c)) ≡ ((a || b) || c)
or_assoc true b c = refl
or_assoc false b c = refl

never-snoc : (ls : List Literal) (l : Literal) → never (ls ++ (l ∷ [])) ≡ (never ls || self_unequal l)
unfolding never
never-snoc [] l = or-false (self_unequal l)
never-snoc (x ∷ ls) l = ap (self_unequal x ||◌) (never-snoc ls l) ∙ or_assoc (self_unequal x) (never ls) (self_unequal l)

pub record Allowed (literals : List ℕ) (n l : ℕ) : Type 0 where
  pub count : n ≡ literal_count literals
  pub few : l ≤ n
  pub so : never (each (literal_in literals) l) ≡ false

module _ (literals : List ℕ) (n : ℕ) where
  pub allowed-start : n ≡ literal_count literals → Allowed literals n 0
  unfolding never each
  allowed-start e = record { count = e; few = omega arith; so = refl }

  never-more : (m k : ℕ) → never (each (literal_in literals) m) ≡ true → never (each (literal_in literals) (k + m)) ≡ true
  unfolding each
  never-more m zero e = let z : 0 + m ≡ m = omega arith in rw z e
  never-more m (suc k) e =
      let z : suc k + m ≡ suc (k + m) = omega arith in
      rw (z, each)
      (never-snoc (each (literal_in literals) (k + m)) (literal_in literals (k + m)) ∙ ap (◌|| self_unequal (literal_in literals (k + m))) (never-more m k e))

  module _ (l : ℕ) (t : Allowed literals n l) (b : Bool) (e : b ≡ self_unequal (literal_in literals l)) where
    pub allowed-not : l < n → b ≡ true → true ≡ never (literals_of literals)
    unfolding literals_of each
    allowed-not h q = sym (go (literal_count literals) (omega (arith, t.count)))
      where
        one : never (each (literal_in literals) (suc l)) ≡ true
        one =
            never-snoc (each (literal_in literals) l) (literal_in literals l)
            ∙ ap (never (each (literal_in literals) l) ||◌) (sym e ∙ q)
            ∙ or-true (never (each (literal_in literals) l))

        go : (m : ℕ) → suc l ≤ m → never (each (literal_in literals) m) ≡ true
        go m b = let z : (m - suc l) + suc l ≡ m = omega arith in rw z at (never-more (suc l) (m - suc l) one)

    pub allowed-next : l < n → b ≡ false → Allowed literals n (l + 1)
    unfolding each
    allowed-next h q =
        record {
          count = t.count;
          few = omega arith;
          so = rw (add-one l, each) (never-snoc (each (literal_in literals) l) (literal_in literals l) ∙ ap₂ ◌||◌ t.so (sym e ∙ q));
        }

  pub allowed-done : (l : ℕ) → Allowed literals n l → n ≤ l → false ≡ never (literals_of literals)
  unfolding literals_of
  allowed-done l t h =
      let e : l ≡ literal_count literals = omega (arith, t.count, t.few) in sym t.so ∙ ap (λ (k : ℕ). never (each (literal_in literals) k)) e

pub ruleset mine = (rules, idle-unequal, idle-equal, self-equal, self-unequal, self-read, sides-idle, sides-asked, literal-named, literal-inside, reached-start, reached-next, reached-done, allowed-start, allowed-not, allowed-next, allowed-done)
