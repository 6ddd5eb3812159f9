-- Well-formedness of the rule that runs say is well-formedness of each place of the runs.
--     fit-patterns, fit-literals        from a well-formed rule to its places
--     clause-many .. clause-named       the answers of the test
-- Assumes nothing.
use mathlib.Core.Bool.{Bool, true, false, not}
use mathlib.Core.List.{List, [], ◌∷◌}
use mathlib.Core.Path.{◌≡◌, refl}
use Prim.Native.Nat.{ℕ, zero, suc, ◌+◌, ◌*◌, ◌≤◌, ◌<◌}
use native.Mathlib.Omega.{arith}
use borrow.Author.Rules.{rules}
use borrow.Author.Tests.{not-true, not-false, eqb-true, eqb-false}
use lib.Dec.{eqb}
use lib.ListN.{length, get_or}
use Rattle.meaning.specs.Rules.{Pattern, variable, Literal, equal, Below}
use Rattle.meaning.specs.Formed.{Placed, AllPlaced, Names, NamesAll}
use Rattle.meaning.specs.Columns.{literal_of}
use Rattle.runs.specs.Limits.{most_patterns, most_literals, pattern_size}
use Rattle.runs.specs.Runs.{pattern_count, literal_count, left_in, right_in, pattern_kind_in, pattern_count_in, pattern_args_in, pattern_in, sign_in, patterns_of, literals_of}
use Rattle.runs.specs.Fit.{Decides, Every, NamedAt, PatternAt, FitClause}
use Rattle.runs.proofs.Deciding.{decides-false, decides_not}
use Rattle.runs.proofs.Saying.{length-patterns, length-literals, patterns-at, literals-at, pattern-variable, pattern-symbol}
use Rattle.runs.proofs.Formed.{placed_below, below-placed, named-pair}

-- ---- pattern rows

all-placed-of : (i : ℕ) (ps : List Pattern) → ((k : ℕ) → k < length ps → Placed (i + k) (get_or ps k (variable 0))) → AllPlaced i ps
all-placed-of i [] h = tt
all-placed-of i (p ∷ ps) h =
    (let e : i + 0 ≡ i = omega arith in rw e at (h 0 (omega arith)), all-placed-of (suc i) ps (λ k b. let e : suc i + k ≡ i + suc k = omega arith in rw e (h (suc k) (omega arith))))

all-placed-at : (i : ℕ) (ps : List Pattern) → AllPlaced i ps → (k : ℕ) → k < length ps → Placed (i + k) (get_or ps k (variable 0))
all-placed-at i [] a k h = absurd (omega arith)
all-placed-at i (p ∷ ps) a zero h = let e : i + 0 ≡ i = omega arith in rw e a.0
all-placed-at i (p ∷ ps) a (suc k) h = let e : suc i + k ≡ i + suc k = omega arith in rw e at (all-placed-at (suc i) ps a.1 k (omega arith))

module _ (patterns : List ℕ) where
  pattern-placed : (i : ℕ) → PatternAt patterns i → Placed i (pattern_in patterns i)
  pattern-placed i p = go (eqb (pattern_kind_in patterns i) 4) refl
    where
      go : (b : Bool) → eqb (pattern_kind_in patterns i) 4 ≡ b → Placed i (pattern_in patterns i)
      go true q = rw (pattern-variable patterns i (eqb-true (pattern_kind_in patterns i) 4 q)) tt
      go false q =
          let n : pattern_kind_in patterns i ≡ 4 → ⊥ = eqb-false (pattern_kind_in patterns i) 4 q in
          rw (pattern-symbol patterns i n) (placed_below patterns (i * pattern_size + 3) (pattern_count_in patterns i) i (p.symbol n))

  patterns-placed : Every (pattern_count patterns) (PatternAt patterns) → AllPlaced 0 (patterns_of patterns)
  patterns-placed e =
      all-placed-of 0 (patterns_of patterns) (λ i h.
      let b : i < pattern_count patterns = omega (arith, length-patterns patterns) in
      let z : 0 + i ≡ i = omega arith in
      rw (patterns-at patterns i (variable 0) b, z) (pattern-placed i (e.each i b)))

  placed-symbol : AllPlaced 0 (patterns_of patterns) → (i : ℕ) → i < pattern_count patterns → (pattern_kind_in patterns i ≡ 4 → ⊥)
      → Below i (pattern_args_in patterns i)
  placed-symbol a i h n =
      let z : 0 + i ≡ i = omega arith in
      rw (z, pattern-symbol patterns i n) at
      (rw (patterns-at patterns i (variable 0) h) at (all-placed-at 0 (patterns_of patterns) a i (omega (arith, length-patterns patterns))))

-- ---- literals

names-all-of : (n : ℕ) (l : List Literal) → ((j : ℕ) → j < length l → Names n (get_or l j (equal 0 0))) → NamesAll n l
names-all-of n [] h = tt
names-all-of n (x ∷ l) h = (h 0 (omega arith), names-all-of n l (λ j b. h (suc j) (omega arith)))

names-all-at : (n : ℕ) (l : List Literal) → NamesAll n l → (j : ℕ) → j < length l → Names n (get_or l j (equal 0 0))
names-all-at n [] a j h = absurd (omega arith)
names-all-at n (x ∷ l) a zero h = a.0
names-all-at n (x ∷ l) a (suc j) h = names-all-at n l a.1 j (omega arith)

literal-names : (n sign p q : ℕ) → p < n → q < n → Names n (literal_of sign p q)
unfolding literal_of
literal-names n sign p q h l = go (eqb sign 6) refl
  where
    go : (b : Bool) → eqb sign 6 ≡ b → Names n (literal_of sign p q)
    go true e = rw (e, literal_of) (h, l)
    go false e = rw (e, literal_of) (h, l)

names-literal : (n sign p q : ℕ) → Names n (literal_of sign p q) → (p < n) × (q < n)
unfolding literal_of
names-literal n sign p q s = go (eqb sign 6) refl
  where
    go : (b : Bool) → eqb sign 6 ≡ b → (p < n) × (q < n)
    go true e = rw (e, literal_of) at s
    go false e = rw (e, literal_of) at s

module _ (literals : List ℕ) (n : ℕ) where
  literals-named : Every (literal_count literals) (NamedAt literals n) → NamesAll n (literals_of literals)
  literals-named e =
      names-all-of n (literals_of literals) (λ k h.
      let b : k < literal_count literals = omega (arith, length-literals literals) in
      rw (literals-at literals k (equal 0 0) b)
      (literal-names n (sign_in literals k) (left_in literals k) (right_in literals k) (e.each k b).left (e.each k b).right))

  named-literals : NamesAll n (literals_of literals) → Every (literal_count literals) (NamedAt literals n)
  named-literals a =
      record {
        each = λ k h.
            named-pair literals n k
            (names-literal n (sign_in literals k) (left_in literals k) (right_in literals k)
            (rw (literals-at literals k (equal 0 0) h) at (names-all-at n (literals_of literals) a k (omega (arith, length-literals literals)))));
      }

-- ---- the rule

module _ (patterns literals : List ℕ) where
  clause-fit : pattern_count patterns ≤ most_patterns → literal_count literals ≤ most_literals → Every (pattern_count patterns) (PatternAt patterns)
      → Every (literal_count literals) (NamedAt literals (pattern_count patterns)) → FitClause patterns literals
  clause-fit p l e n =
      record {
        patterns-few = p;
        literals-few = l;
        variables-few = λ i h. (e.each i h).variable;
        counts-few = λ i h q. ((e.each i h).symbol q).few;
        placed = patterns-placed patterns e;
        named = literals-named literals (pattern_count patterns) n;
      }

  module _ (f : FitClause patterns literals) where
    pub fit-patterns : Every (pattern_count patterns) (PatternAt patterns)
    fit-patterns =
        record {
          each = λ i h.
              record {
                variable = f.variables-few i h;
                symbol = λ n.
                    below-placed patterns (i * pattern_size + 3) (pattern_count_in patterns i) i (omega arith) (f.counts-few i h n)
                    (placed-symbol patterns f.placed i h n);
              };
        }

    pub fit-literals : Every (literal_count literals) (NamedAt literals (pattern_count patterns))
    fit-literals = named-literals literals (pattern_count patterns) f.named

  module _ (n : ℕ) (e : n ≡ pattern_count patterns) where
    pub clause-many : most_patterns < n → Decides false (FitClause patterns literals)
    clause-many h = decides-false (λ f. omega (arith, f.patterns-few))

    pub clause-unplaced : (r : Bool) → Decides r (Every (pattern_count patterns) (PatternAt patterns)) → not r ≡ true → Decides false (FitClause patterns literals)
    clause-unplaced r d q = decides-false (λ f. decides_not d (not-true r q) (fit-patterns f))

    module _ (k : ℕ) (s : k ≡ literal_count literals) where
      pub clause-much : most_literals < k → Decides false (FitClause patterns literals)
      clause-much h = decides-false (λ f. omega (arith, f.literals-few))

      pub clause-named : (q r : Bool) → n ≤ most_patterns → k ≤ most_literals → Decides q (Every (pattern_count patterns) (PatternAt patterns)) → not q ≡ false
          → Decides r (Every (literal_count literals) (NamedAt literals n)) → Decides r (FitClause patterns literals)
      clause-named q r hp hl p t d =
          let d' : Decides r (Every (literal_count literals) (NamedAt literals (pattern_count patterns))) = rw e at d in
          record {
            holds = λ y. clause-fit (omega arith) (omega arith) (p.holds (not-false q t)) (d'.holds y);
            sure = λ f. d'.sure (fit-literals f);
          }

pub ruleset mine = (rules, clause-many, clause-much, clause-unplaced, clause-named)
