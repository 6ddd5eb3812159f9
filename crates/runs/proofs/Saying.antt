-- What runs say, piece by piece.
--     each-length, each_at_lem                    a list by its elements
--     length-rows .. length-literals          as many as are counted
--     rows-at .. literals-at                  and each by its numbers
--     arg-at, args-fewer, args-length         the arguments from a place on
--     row-length                              a row has as many as it counts
--     pattern-variable, pattern-symbol        a pattern row by its kind
-- Assumes nothing.
use mathlib.Core.List.{List, [], ◌∷◌}
use mathlib.Core.Path.{◌≡◌, refl, sym, ap, ◌∙◌}
use mathlib.Core.Logic.{◌⊎◌, inl, inr}
use Prim.Native.Nat.{ℕ, zero, suc, ◌+◌, ◌*◌, ◌≤◌, ◌<◌}
use native.Mathlib.Omega.{arith}
use native.Mathlib.Nat.{eq-or-lt_of_le, le_of_suc-le-suc}
use borrow.Author.Tests.{eq-eqb, ne_eqb}
use lib.ListN.{length, get_or, take, drop, length-append, length-take, length-drop, get_or-append}
use lib.Seq.{get_or_at, get_or-take, get_or-drop}
use Rattle.meaning.specs.Context.{row₀, row_at, Statement}
use Rattle.meaning.specs.Rules.{Pattern, variable, apply, Literal}
use Rattle.meaning.specs.Columns.{pattern_of}
use Rattle.runs.specs.Limits.{row_size, arg_places}
use Rattle.runs.specs.Runs.{each, args_from, row_count, said_count, pattern_count, literal_count, count_in, args_in, row_in, rows_of, statement_in, statements_of, pattern_kind_in, head_in, pattern_args_in, pattern_in, patterns_of, literal_in, literals_of}

module _ {A : Type 0} (g : ℕ → A) where
  pub each-length : (n : ℕ) → length (each g n) ≡ n
  unfolding each
  each-length zero = refl
  each-length (suc n) = omega (arith, length-append (each g n) (g n ∷ []), each-length n)

  pub each_at_lem : (n i : ℕ) (d : A) → i < n → get_or (each g n) i d ≡ g i
  unfolding each
  each_at_lem zero i d h = absurd (omega arith)
  each_at_lem (suc n) i d h = go (each_at_lem n i d) (eq-or-lt_of_le (le_of_suc-le-suc h))
    where
      go : (i < n → get_or (each g n) i d ≡ g i) → (i ≡ n) ⊎ (i < n) → get_or (each g (suc n)) i d ≡ g i
      go rest (inr l) = get_or-append (each g n) (g n ∷ []) d i (omega (arith, each-length n)) ∙ rest l
      go rest (inl e) = get_or_at (each g n) (g n) [] d i (each-length n ∙ sym e) ∙ ap g (sym e)

-- ---- how many, and each

pub length-rows : (rows : List ℕ) → length (rows_of rows) ≡ row_count rows
unfolding rows_of
length-rows rows = each-length (row_in rows) (row_count rows)

pub length-statements : (said : List ℕ) → length (statements_of said) ≡ said_count said
unfolding statements_of
length-statements said = each-length (statement_in said) (said_count said)

pub length-patterns : (patterns : List ℕ) → length (patterns_of patterns) ≡ pattern_count patterns
unfolding patterns_of
length-patterns patterns = each-length (pattern_in patterns) (pattern_count patterns)

pub length-literals : (literals : List ℕ) → length (literals_of literals) ≡ literal_count literals
unfolding literals_of
length-literals literals = each-length (literal_in literals) (literal_count literals)

pub rows-at : (rows : List ℕ) (i : ℕ) → i < row_count rows → row_at (rows_of rows) i ≡ row_in rows i
unfolding rows_of
rows-at rows i h = each_at_lem (row_in rows) (row_count rows) i row₀ h

pub statements-at : (said : List ℕ) (k : ℕ) (d : Statement) → k < said_count said → get_or (statements_of said) k d ≡ statement_in said k
unfolding statements_of
statements-at said k d h = each_at_lem (statement_in said) (said_count said) k d h

pub patterns-at : (patterns : List ℕ) (i : ℕ) (d : Pattern) → i < pattern_count patterns → get_or (patterns_of patterns) i d ≡ pattern_in patterns i
unfolding patterns_of
patterns-at patterns i d h = each_at_lem (pattern_in patterns) (pattern_count patterns) i d h

pub literals-at : (literals : List ℕ) (k : ℕ) (d : Literal) → k < literal_count literals → get_or (literals_of literals) k d ≡ literal_in literals k
unfolding literals_of
literals-at literals k d h = each_at_lem (literal_in literals) (literal_count literals) k d h

-- ---- arguments

module _ (run : List ℕ) (at count : ℕ) where
  pub arg-at : (k : ℕ) → k < count → count ≤ arg_places → get_or (args_from run at count) k 0 ≡ get_or run (at + k) 0
  arg-at k h few = get_or-take count (take arg_places (drop at run)) k 0 h ∙ get_or-take arg_places (drop at run) k 0 (omega arith) ∙ get_or-drop at run k 0

  pub args-fewer : length (args_from run at count) ≤ count
  args-fewer = omega (arith, length-take count (take arg_places (drop at run)))

  pub args-length : at + arg_places ≤ length run → count ≤ arg_places → length (args_from run at count) ≡ count
  args-length room few = omega (arith, length-take count (take arg_places (drop at run)), length-take arg_places (drop at run), length-drop at run)

pub row-length : (rows : List ℕ) (i : ℕ) → i < row_count rows → count_in rows i ≤ arg_places → length (args_in rows i) ≡ count_in rows i
row-length rows i h few = args-length rows (i * row_size + 2) (count_in rows i) (omega arith) few

-- ---- pattern rows

module _ (patterns : List ℕ) (i : ℕ) where
  pub pattern-variable : pattern_kind_in patterns i ≡ 4 → pattern_in patterns i ≡ variable (head_in patterns i)
  unfolding pattern_of
  pattern-variable e = rw (eq-eqb (pattern_kind_in patterns i) 4 e, pattern_of)

  pub pattern-symbol : (pattern_kind_in patterns i ≡ 4 → ⊥) → pattern_in patterns i ≡ apply (head_in patterns i) (pattern_args_in patterns i)
  unfolding pattern_of
  pattern-symbol n = rw (ne_eqb (pattern_kind_in patterns i) 4 n, pattern_of)
