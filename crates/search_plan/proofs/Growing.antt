-- Numbers of the pattern rows, found row by row: each by those of the rows before it.
--     grow                                 such numbers, whatever one row's is
--     levels-grow, sets-grow               levels and sets of variables are found so
--     Grown                                those of the first i rows stand in a run
--     levels-start .. levels-done          the run of the levels
--     sets-start .. sets-done              the run of the sets
--     Counted, variables-start .. -done    the number of variables
-- Assumes nothing.
use mathlib.Core.Bool.{Bool, true, false}
use mathlib.Core.List.{List, [], ◌∷◌, ◌++◌}
use mathlib.Core.Path.{◌≡◌, refl, sym, ap, ap₂, ◌∙◌}
use Prim.Native.Nat.{ℕ, ◌+◌, ◌*◌, ◌≤◌, ◌<◌, max}
use native.Mathlib.Omega.{arith}
use native.Mathlib.Numerals.{add-one}
use lib.Bits.{bit_or}
use lib.Dec.{eqb}
use borrow.Author.Rules.{rules}
use borrow.Author.Tests.{eqb-true, eqb-false}
use lib.ListN.{length, get_or, set, take, length-append, length-set}
use lib.Seq.{take_all, take-suc-set, get_or-take}
use Rattle.meaning.specs.Rules.{Pattern, variable, apply, variables, Below}
use Rattle.meaning.specs.Formed.{Placed}
use Rattle.meaning.specs.Values.{highest, level_of, levels_from, levels}
use Rattle.runs.specs.Limits.{pattern_size}
use Rattle.runs.specs.Runs.{each, pattern_count, pattern_kind_in, pattern_count_in, pattern_in, patterns_of}
use Rattle.runs.specs.Fit.{Every, PatternAt}
use Rattle.runs.proofs.Saying.{pattern-variable, pattern-symbol}
use Rattle.runs.proofs.Formed.{placed_below}
use Rattle.search_plan.specs.Steps.{RowFit, reached_of}
use Rattle.search_plan.proofs.Args.{max-of}
use Rattle.search_plan.specs.Sets.{union, set_of, sets_from, sets}

-- ---- whatever one row's number is

module _ (of : List ℕ → Pattern → ℕ) where
  unfoldable pub grow : List ℕ → List Pattern → List ℕ
  grow xs [] = xs
  grow xs (p ∷ ps) = grow (xs ++ (of xs p ∷ [])) ps

  grow-snoc : (xs : List ℕ) (ps : List Pattern) (p : Pattern) → grow xs (ps ++ (p ∷ [])) ≡ grow xs ps ++ (of (grow xs ps) p ∷ [])
  unfolding grow
  grow-snoc xs [] p = refl
  grow-snoc xs (q ∷ ps) p = grow-snoc (xs ++ (of xs q ∷ [])) ps p

  pub grow-length : (xs : List ℕ) (ps : List Pattern) → length (grow xs ps) ≡ length xs + length ps
  unfolding grow
  grow-length xs [] = omega arith
  grow-length xs (p ∷ ps) = omega (arith, grow-length (xs ++ (of xs p ∷ [])) ps, length-append xs (of xs p ∷ []))

  -- a row's number rests on those of the rows before it
  abbrev Local : Type 0
  Local = (xs : List ℕ) (i : ℕ) (p : Pattern) → Placed i p → of (take i xs) p ≡ of xs p

  pub record Grown (patterns run : List ℕ) (n i : ℕ) : Type 0 where
    pub long : length run ≡ n
    pub count : n ≡ pattern_count patterns
    pub few : i ≤ n
    pub so : take i run ≡ grow [] (each (pattern_in patterns) i)

  module _ (patterns run : List ℕ) (n : ℕ) where
    grown-start : n ≡ length run → length run ≡ pattern_count patterns → Grown patterns run n 0
    unfolding grow each
    grown-start e q = record { long = sym e; count = e ∙ q; few = omega arith; so = refl }

    grown-next : Local → (i x : ℕ) → Grown patterns run n i → i < n → Placed i (pattern_in patterns i) → x ≡ of run (pattern_in patterns i) → Grown patterns (set run i x) n (i + 1)
    unfolding each
    grown-next local i x g h p e =
        record {
          long = length-set run i x ∙ g.long;
          count = g.count;
          few = omega arith;
          so =
              rw (add-one i, each)
              (take-suc-set run i x (omega (arith, g.long))
              ∙ ap₂ (λ (l : List ℕ) (y : ℕ). l ++ (y ∷ [])) g.so (e ∙ sym (local run i (pattern_in patterns i) p) ∙ ap (λ (l : List ℕ). of l (pattern_in patterns i)) g.so)
              ∙ sym (grow-snoc [] (each (pattern_in patterns) i) (pattern_in patterns i)));
        }

    grown-done : (i : ℕ) → Grown patterns run n i → n ≤ i → run ≡ grow [] (patterns_of patterns)
    unfolding patterns_of
    grown-done i g h =
        let e : i ≡ pattern_count patterns = omega (arith, g.count, g.few) in
        sym (take_all i run (omega (arith, g.long))) ∙ g.so ∙ ap (λ (k : ℕ). grow [] (each (pattern_in patterns) k)) e

-- ---- one row

pub placed_row : (patterns : List ℕ) (i : ℕ) → PatternAt patterns i → Placed i (pattern_in patterns i)
placed_row patterns i p = go (eqb (pattern_kind_in patterns i) 4) refl
  where
    go : (b : Bool) → eqb (pattern_kind_in patterns i) 4 ≡ b → Placed i (pattern_in patterns i)
    go true q = rw (pattern-variable patterns i (eqb-true (pattern_kind_in patterns i) 4 q)) tt
    go false q =
        let n : pattern_kind_in patterns i ≡ 4 → ⊥ = eqb-false (pattern_kind_in patterns i) 4 q in
        rw (pattern-symbol patterns i n) (placed_below patterns (i * pattern_size + 3) (pattern_count_in patterns i) i (p.symbol n))

pub grown-row : (of : List ℕ → Pattern → ℕ) (patterns run : List ℕ) (n i : ℕ) → Grown of patterns run n i → Every (pattern_count patterns) (PatternAt patterns) → i < n
    → RowFit patterns (length run) i
grown-row of patterns run n i g e h =
    let b : i < pattern_count patterns = omega (arith, g.count) in record { inside = b; known = omega (arith, g.long); pattern = e.each i b }

pub row-fit : (patterns : List ℕ) (numbers n i : ℕ) → Every (pattern_count patterns) (PatternAt patterns) → n ≡ pattern_count patterns → i < n → i ≤ numbers → RowFit patterns numbers i
row-fit patterns numbers n i e q h l =
    let b : i < pattern_count patterns = omega arith in record { inside = b; known = l; pattern = e.each i b }

-- ---- levels

levels-from : (xs : List ℕ) (ps : List Pattern) → levels_from xs ps ≡ grow level_of xs ps
unfolding levels_from grow
levels-from xs [] = refl
levels-from xs (p ∷ ps) = levels-from (xs ++ (level_of xs p ∷ [])) ps

pub levels-grow : (ps : List Pattern) → levels ps ≡ grow level_of [] ps
unfolding levels
levels-grow ps = levels-from [] ps

highest-local : (xs : List ℕ) (i : ℕ) (l : List ℕ) → Below i l → highest (take i xs) l ≡ highest xs l
unfolding highest
highest-local xs i [] b = refl
highest-local xs i (a ∷ l) b = ap₂ max (get_or-take i xs a 0 b.0) (highest-local xs i l b.1)

level-local : (xs : List ℕ) (i : ℕ) (p : Pattern) → Placed i p → level_of (take i xs) p ≡ level_of xs p
unfolding level_of
level-local xs i (variable v) p = refl
level-local xs i (apply f l) p = highest-local xs i l p

module _ (patterns run : List ℕ) (n : ℕ) where
  pub levels-start : n ≡ length run → length run ≡ pattern_count patterns → Grown level_of patterns run n 0
  levels-start = grown-start level_of patterns run n

  module _ (i : ℕ) (g : Grown level_of patterns run n i) where
    pub levels-next : (x : ℕ) → Every (pattern_count patterns) (PatternAt patterns) → i < n → x ≡ level_of run (pattern_in patterns i) → Grown level_of patterns (set run i x) n (i + 1)
    levels-next x f h e = grown-next level_of patterns run n level-local i x g h (placed_row patterns i (f.each i (omega (arith, g.count)))) e

    pub levels-done : n ≤ i → run ≡ levels (patterns_of patterns)
    levels-done h = grown-done level_of patterns run n i g h ∙ sym (levels-grow (patterns_of patterns))

-- ---- sets

sets-from : (xs : List ℕ) (ps : List Pattern) → sets_from xs ps ≡ grow set_of xs ps
unfolding sets_from grow
sets-from xs [] = refl
sets-from xs (p ∷ ps) = sets-from (xs ++ (set_of xs p ∷ [])) ps

pub sets-grow : (ps : List Pattern) → sets ps ≡ grow set_of [] ps
unfolding sets
sets-grow ps = sets-from [] ps

union-local : (xs : List ℕ) (i s : ℕ) (l : List ℕ) → Below i l → union (take i xs) s l ≡ union xs s l
unfolding union
union-local xs i s [] b = refl
union-local xs i s (a ∷ l) b =
    union-local xs i (bit_or s (get_or (take i xs) a 0)) l b.1 ∙ ap (λ (y : ℕ). union xs (bit_or s y) l) (get_or-take i xs a 0 b.0)

set_local : (xs : List ℕ) (i : ℕ) (p : Pattern) → Placed i p → set_of (take i xs) p ≡ set_of xs p
unfolding set_of
set_local xs i (variable v) p = refl
set_local xs i (apply f l) p = union-local xs i 0 l p

module _ (patterns run : List ℕ) (n : ℕ) where
  pub sets-start : n ≡ length run → length run ≡ pattern_count patterns → Grown set_of patterns run n 0
  sets-start = grown-start set_of patterns run n

  module _ (i : ℕ) (g : Grown set_of patterns run n i) where
    pub sets-next : (x : ℕ) → Every (pattern_count patterns) (PatternAt patterns) → i < n → x ≡ set_of run (pattern_in patterns i) → Grown set_of patterns (set run i x) n (i + 1)
    sets-next x f h e = grown-next set_of patterns run n set_local i x g h (placed_row patterns i (f.each i (omega (arith, g.count)))) e

    pub sets-done : n ≤ i → run ≡ sets (patterns_of patterns)
    sets-done h = grown-done set_of patterns run n i g h ∙ sym (sets-grow (patterns_of patterns))

-- ---- variables

variables-snoc : (l : List Pattern) (p : Pattern) → variables (l ++ (p ∷ [])) ≡ max (variables l) (reached_of p)
unfolding variables reached_of
variables-snoc [] (variable v) = omega arith
variables-snoc [] (apply f a) = refl
variables-snoc (variable v ∷ l) p = omega (arith, variables-snoc l p)
variables-snoc (apply f a ∷ l) p = variables-snoc l p

pub record Counted (patterns : List ℕ) (n most i : ℕ) : Type 0 where
  pub count : n ≡ pattern_count patterns
  pub few : i ≤ n
  pub so : most ≡ variables (each (pattern_in patterns) i)

module _ (patterns : List ℕ) (n : ℕ) where
  pub variables-start : n ≡ pattern_count patterns → Counted patterns n 0 0
  unfolding variables each
  variables-start e = record { count = e; few = omega arith; so = refl }

  module _ (most i : ℕ) (t : Counted patterns n most i) where
    pub variables-next : (x y : ℕ) → i < n → x ≡ reached_of (pattern_in patterns i) → y ≡ max most x → Counted patterns n y (i + 1)
    unfolding each
    variables-next x y h p q =
        record {
          count = t.count;
          few = omega arith;
          so = rw (add-one i, each) (q ∙ ap₂ max t.so p ∙ sym (variables-snoc (each (pattern_in patterns) i) (pattern_in patterns i)));
        }

    pub variables-done : n ≤ i → most ≡ variables (patterns_of patterns)
    unfolding patterns_of
    variables-done h = let e : i ≡ pattern_count patterns = omega (arith, t.count, t.few) in t.so ∙ ap (λ (k : ℕ). variables (each (pattern_in patterns) k)) e

pub ruleset mine = (rules, row-fit, grown-row, levels-start, levels-next, levels-done, sets-start, sets-next, sets-done, variables-start, variables-next, variables-done, max-of)
