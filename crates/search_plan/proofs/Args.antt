-- One pattern row: its kind, and its arguments looked at one by one.
--     row-head, row-args                   what a variable and a symbol ask
--     arg-place, arg-known                 one argument
--     Topped, topped-start .. -done        the highest number of the arguments
--     United, united-start .. -done        their sets together
--     level-variable .. reached-symbol     the numbers of one row
-- Assumes nothing.
use mathlib.Core.Bool.{Bool, true, false}
use mathlib.Core.List.{List, [], ◌∷◌, ◌++◌}
use mathlib.Core.Path.{◌≡◌, refl, sym, ap, ◌∙◌}
use Prim.Native.Nat.{ℕ, suc, ◌+◌, ◌*◌, ◌%◌, ◌^◌, ◌≤◌, ◌<◌, max}
use native.Mathlib.Omega.{arith}
use native.Mathlib.Numerals.{add-one}
use borrow.Author.Rules.{rules}
use borrow.Author.Tests.{eqb-true, eqb-false}
use lib.Bits.{bit_or}
use lib.Dec.{eqb, lit<}
use lib.ListN.{length, get_or, take}
use lib.Pow.{shl_exact}
use lib.Seq.{take-suc, take_all}
use Rattle.std.specs.Ordering.{ord_max}
use Rattle.std.proofs.Common.{nat_cmp}
use Rattle.std.proofs.lemmas.Bool.Decides.{nat_tests}
use Rattle.meaning.specs.Values.{highest, level_of}
use Rattle.runs.specs.Limits.{most_variables, pattern_size, arg_places}
use Rattle.runs.specs.Runs.{pattern_kind_in, head_in, pattern_count_in, pattern_arg_in, pattern_args_in, pattern_in}
use Rattle.runs.proofs.Saying.{arg-at, args-length, pattern-variable, pattern-symbol}
use Rattle.search_plan.specs.Steps.{RowFit, ArgsFit, reached_of}
use Rattle.search_plan.specs.Sets.{union, set_of}

module _ (patterns : List ℕ) (numbers i : ℕ) (f : RowFit patterns numbers i) (r : Bool) (e : r ≡ eqb (pattern_kind_in patterns i) 4) where
  pub row-head : (h : ℕ) → r ≡ true → h ≡ head_in patterns i → h < most_variables
  row-head h is q = omega (arith, f.pattern.variable (eqb-true (pattern_kind_in patterns i) 4 (sym e ∙ is)))

  pub row-args : r ≡ false → ArgsFit patterns numbers i
  row-args n = record { inside = f.inside; known = f.known; placed = f.pattern.symbol (eqb-false (pattern_kind_in patterns i) 4 (sym e ∙ n)) }

-- ---- arguments

module _ (patterns : List ℕ) (numbers i : ℕ) (f : ArgsFit patterns numbers i) where
  count-is : length (pattern_args_in patterns i) ≡ pattern_count_in patterns i
  count-is = args-length patterns (i * pattern_size + 3) (pattern_count_in patterns i) (omega (arith, f.inside)) f.placed.few

  take_next : (k : ℕ) → k < pattern_count_in patterns i → take (k + 1) (pattern_args_in patterns i) ≡ take k (pattern_args_in patterns i) ++ (pattern_arg_in patterns i k ∷ [])
  take_next k h =
      rw (add-one k)
      (take-suc (pattern_args_in patterns i) k 0 (omega (arith, count-is))
      ∙ ap (λ (a : ℕ). take k (pattern_args_in patterns i) ++ (a ∷ [])) (arg-at patterns (i * pattern_size + 3) (pattern_count_in patterns i) k h f.placed.few))

  module _ (n k : ℕ) (e : n ≡ pattern_count_in patterns i) (h : k < n) where
    pub arg-place : k < arg_places
    arg-place = omega (arith, f.placed.few)

    pub arg-known : (a : ℕ) → a ≡ pattern_arg_in patterns i k → a < numbers
    arg-known a q = omega (arith, f.placed.earlier.each k (omega arith), f.known)

-- ---- the highest

-- the greater of two by the library is the greater of two numbers
pub max-of : (x y r : ℕ) → r ≡ ord_max nat_cmp x y → r ≡ max x y
max-of x y r e = grind (arith, nat_tests)

pub record Topped (patterns levels : List ℕ) (i n most k : ℕ) : Type 0 where
  pub count : n ≡ pattern_count_in patterns i
  pub so : most ≡ highest levels (take k (pattern_args_in patterns i))

highest-snoc : (ls l : List ℕ) (a : ℕ) → highest ls (l ++ (a ∷ [])) ≡ max (highest ls l) (get_or ls a 0)
unfolding highest
highest-snoc ls [] a = omega arith
highest-snoc ls (b ∷ l) a = omega (arith, highest-snoc ls l a)

module _ (patterns levels : List ℕ) (i n : ℕ) where
  pub topped-start : n ≡ pattern_count_in patterns i → Topped patterns levels i n 0 0
  unfolding highest
  topped-start e = record { count = e; so = refl }

  module _ (numbers most k : ℕ) (f : ArgsFit patterns numbers i) (t : Topped patterns levels i n most k) where
    pub topped-next : (a x : ℕ) → k < n → a ≡ pattern_arg_in patterns i k → x ≡ max most (get_or levels a 0) → Topped patterns levels i n x (k + 1)
    topped-next a x h p q =
        record {
          count = t.count;
          so =
              q
              ∙ ap (λ (y : ℕ). max y (get_or levels a 0)) t.so
              ∙ sym (highest-snoc levels (take k (pattern_args_in patterns i)) a)
              ∙ ap (λ (y : ℕ). highest levels (take k (pattern_args_in patterns i) ++ (y ∷ []))) p
              ∙ ap (highest levels) (sym (take_next patterns numbers i f k (omega (arith, t.count))));
        }

    pub topped-done : n ≤ k → most ≡ highest levels (pattern_args_in patterns i)
    topped-done h = t.so ∙ ap (highest levels) (take_all k (pattern_args_in patterns i) (omega (arith, count-is patterns numbers i f, t.count)))

-- ---- the sets together

pub record United (patterns sets : List ℕ) (i n all k : ℕ) : Type 0 where
  pub count : n ≡ pattern_count_in patterns i
  pub so : all ≡ union sets 0 (take k (pattern_args_in patterns i))

union-snoc : (sets : List ℕ) (s : ℕ) (l : List ℕ) (a : ℕ) → union sets s (l ++ (a ∷ [])) ≡ bit_or (union sets s l) (get_or sets a 0)
unfolding union
union-snoc sets s [] a = refl
union-snoc sets s (b ∷ l) a = union-snoc sets (bit_or s (get_or sets b 0)) l a

module _ (patterns sets : List ℕ) (i n : ℕ) where
  pub united-start : n ≡ pattern_count_in patterns i → United patterns sets i n 0 0
  unfolding union
  united-start e = record { count = e; so = refl }

  module _ (numbers all k : ℕ) (f : ArgsFit patterns numbers i) (t : United patterns sets i n all k) where
    pub united-next : (a x : ℕ) → k < n → a ≡ pattern_arg_in patterns i k → x ≡ bit_or all (get_or sets a 0) → United patterns sets i n x (k + 1)
    united-next a x h p q =
        record {
          count = t.count;
          so =
              q
              ∙ ap (λ (y : ℕ). bit_or y (get_or sets a 0)) t.so
              ∙ sym (union-snoc sets 0 (take k (pattern_args_in patterns i)) a)
              ∙ ap (λ (y : ℕ). union sets 0 (take k (pattern_args_in patterns i) ++ (y ∷ []))) p
              ∙ ap (union sets 0) (sym (take_next patterns numbers i f k (omega (arith, t.count))));
        }

    pub united-done : n ≤ k → all ≡ union sets 0 (pattern_args_in patterns i)
    united-done h = t.so ∙ ap (union sets 0) (take_all k (pattern_args_in patterns i) (omega (arith, count-is patterns numbers i f, t.count)))

-- ---- the numbers of one row

module _ (patterns : List ℕ) (i : ℕ) (b : Bool) (e : b ≡ eqb (pattern_kind_in patterns i) 4) where
  module _ (is : b ≡ true) (h : ℕ) (q : h ≡ head_in patterns i) where
    pub level-variable : (levels : List ℕ) (r : ℕ) → r ≡ h + 1 → r ≡ level_of levels (pattern_in patterns i)
    unfolding level_of
    level-variable levels r p = rw (pattern-variable patterns i (eqb-true (pattern_kind_in patterns i) 4 (sym e ∙ is))) (p ∙ add-one h ∙ ap suc q)

    pub set-variable : (sets : List ℕ) (r : ℕ) → r ≡ 2 ^ h → r ≡ set_of sets (pattern_in patterns i)
    unfolding set_of
    set-variable sets r p = rw (pattern-variable patterns i (eqb-true (pattern_kind_in patterns i) 4 (sym e ∙ is))) (p ∙ ap (λ (v : ℕ). 2 ^ v) q)

    pub reached-variable : (r : ℕ) → r ≡ h + 1 → r ≡ reached_of (pattern_in patterns i)
    unfolding reached_of
    reached-variable r p = rw (pattern-variable patterns i (eqb-true (pattern_kind_in patterns i) 4 (sym e ∙ is))) (p ∙ ap (λ (v : ℕ). v + 1) q)

  module _ (other : b ≡ false) where
    pub level-symbol : (levels : List ℕ) (r : ℕ) → r ≡ highest levels (pattern_args_in patterns i) → r ≡ level_of levels (pattern_in patterns i)
    unfolding level_of
    level-symbol levels r p = rw (pattern-symbol patterns i (eqb-false (pattern_kind_in patterns i) 4 (sym e ∙ other))) p

    pub set-symbol : (sets : List ℕ) (r : ℕ) → r ≡ union sets 0 (pattern_args_in patterns i) → r ≡ set_of sets (pattern_in patterns i)
    unfolding set_of
    set-symbol sets r p = rw (pattern-symbol patterns i (eqb-false (pattern_kind_in patterns i) 4 (sym e ∙ other))) p

    pub reached-symbol : 0 ≡ reached_of (pattern_in patterns i)
    unfolding reached_of
    reached-symbol = rw (pattern-symbol patterns i (eqb-false (pattern_kind_in patterns i) 4 (sym e ∙ other)))

pub only-is : (h : ℕ) → h < most_variables → (1 * 2 ^ h) % 2 ^ 8 ≡ 2 ^ h
only-is h l = let e : 1 * 2 ^ h ≡ 2 ^ h = omega arith in shl_exact 1 h 8 (lit< tt) (omega arith) ∙ e

pub ruleset mine = (rules, row-head, row-args, arg-place, arg-known, topped-start, topped-next, topped-done, max-of, united-start, united-next, united-done, level-variable, level-symbol, set-variable, set-symbol, reached-variable, reached-symbol, only-is)
