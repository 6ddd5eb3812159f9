-- The variables of pattern rows in a run, and the rows that an assignment gives them.
--     Counting, counting-..   the number of variables of the rows passed
--     mine                    what the functions of `assignment` leave to show
-- Assumes nothing.
use mathlib.Core.Bool.{Bool, true, false}
use mathlib.Core.List.{List, [], ◌∷◌, ◌++◌}
use mathlib.Core.Path.{◌≡◌, refl, ap, sym, ◌∙◌}
use Prim.Native.Nat.{ℕ, suc, ◌+◌, ◌≤◌, ◌<◌, max}
use native.Mathlib.Numerals.{add-one}
use native.Mathlib.Omega.{arith}
use lib.Dec.{eqb, ltb}
use borrow.Author.Rules.{rules}
use borrow.Author.Tests.{eq-eqb, ne_eqb, lt-ltb, le-ltb, eqb-true, eqb-false}
use lib.ListN.{length, get_or}
use Rattle.std.proofs.Common.{nat_cmp}
use Rattle.std.proofs.lemmas.Bool.Decides.{nat_tests}
use Rattle.std.specs.Ordering.{ord_max}
use Rattle.meaning.specs.Rules.{Pattern, variable, apply, variables}
use Rattle.meaning.specs.Columns.{pattern_of}
use Rattle.meaning.specs.Checking.{assigned_by}
use Rattle.runs.specs.Limits.{most_variables}
use Rattle.runs.specs.Runs.{each, pattern_count, pattern_kind_in, head_in, pattern_args_in, pattern_in, patterns_of}

variables-more : (ps : List Pattern) (kind head : ℕ) (l : List ℕ) → kind ≡ 4 → variables (ps ++ (pattern_of kind head l ∷ [])) ≡ max (variables ps) (head + 1)
unfolding variables pattern_of
variables-more ps kind head l e = rw (eq-eqb kind 4 e, pattern_of) (go ps)
  where
    go : (qs : List Pattern) → variables (qs ++ (variable head ∷ [])) ≡ max (variables qs) (head + 1)
    go [] = omega arith
    go (variable v ∷ qs) = omega (arith, go qs)
    go (apply h k ∷ qs) = go qs

variables-same : (ps : List Pattern) (kind head : ℕ) (l : List ℕ) → (kind ≡ 4 → ⊥) → variables (ps ++ (pattern_of kind head l ∷ [])) ≡ variables ps
unfolding variables pattern_of
variables-same ps kind head l e = rw (ne_eqb kind 4 e, pattern_of) (go ps)
  where
    go : (qs : List Pattern) → variables (qs ++ (apply head l ∷ [])) ≡ variables qs
    go [] = refl
    go (variable v ∷ qs) = ap (λ (x : ℕ). max (suc v) x) (go qs)
    go (apply h k ∷ qs) = go qs

larger : (x y r : ℕ) → r ≡ ord_max nat_cmp x y → r ≡ max x y
larger x y r e = grind (arith, nat_tests)

-- n is the number of variables of the first p rows
pub record Counting (patterns : List ℕ) (p n : ℕ) : Type 0 where
  pub most : p ≤ pattern_count patterns
  pub counted : n ≡ variables (each (pattern_in patterns) p)

pub counting-start : (patterns : List ℕ) → Counting patterns 0 0
unfolding each variables
counting-start patterns = record { most = omega arith; counted = refl }

module _ (patterns : List ℕ) (p n : ℕ) (w : Counting patterns p n) where
  module _ (h : p < pattern_count patterns) (d : Bool) (ed : d ≡ eqb (pattern_kind_in patterns p) 4) where
    pub counting-more : (head v r : ℕ) → d ≡ true → head ≡ head_in patterns p → v ≡ head → r ≡ ord_max nat_cmp n (v + 1) → Counting patterns (p + 1) r
    unfolding each
    counting-more head v r is eh ev er =
        record {
          most = omega arith;
          counted =
              rw (larger n (v + 1) r er, add-one p, w.counted, ev, eh)
              (sym (variables-more (each (pattern_in patterns) p) (pattern_kind_in patterns p) (head_in patterns p) (pattern_args_in patterns p) (eqb-true (pattern_kind_in patterns p) 4 (sym ed ∙ is))));
        }

    pub counting-same : d ≡ false → Counting patterns (p + 1) n
    unfolding each
    counting-same is =
        record {
          most = omega arith;
          counted =
              rw (add-one p)
              (w.counted
              ∙ sym (variables-same (each (pattern_in patterns) p) (pattern_kind_in patterns p) (head_in patterns p) (pattern_args_in patterns p) (eqb-false (pattern_kind_in patterns p) 4 (sym ed ∙ is))));
        }

  pub counting-done : pattern_count patterns ≤ p → n ≡ variables (patterns_of patterns)
  unfolding patterns_of
  counting-done h =
      let e : p ≡ pattern_count patterns = omega (arith, w.most) in
      w.counted ∙ ap (λ (z : ℕ). variables (each (pattern_in patterns) z)) e

-- ---- an assignment

module _ (a : List ℕ) (long : length a ≡ most_variables) (rows v : ℕ) where
  pub assigned-in : (x : ℕ) → x ≡ get_or a v 0 → v < most_variables → ltb x rows ≡ assigned_by rows a v
  unfolding assigned_by
  assigned-in x e h = rw (lt-ltb v (length a) (omega arith), e)

  pub assigned-out : most_variables ≤ v → false ≡ assigned_by rows a v
  unfolding assigned_by
  assigned-out h = rw (le-ltb v (length a) (omega arith))

pub ruleset mine = (rules, counting-start, counting-more, counting-same, counting-done, assigned-in, assigned-out)
