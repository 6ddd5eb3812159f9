-- The look-ups of a kind and of its length.
--     looked-row .. looked-none      the kind with a number
--     size-short .. fixed-not        what the functions on a line's length return
--     sized_row .. sized-unequal     a line has its kind's length, or has not
--     kind-first                     the first field of a legible line
-- Assumes nothing.
use mathlib.Core.Bool.{Bool, true, false, cond}
use mathlib.Core.List.{List}
use mathlib.Core.Path.{◌≡◌, refl, ◌∙◌}
use Prim.Native.Nat.{ℕ, ◌+◌, ◌-◌, ◌*◌, ◌/◌, ◌%◌, ◌<◌, ◌≤◌}
use native.Mathlib.Nat.{add-zero}
use native.Mathlib.Omega.{arith}
use lib.Dec.{eqb, ltb}
use lib.ListN.{length}
use borrow.Author.Rules.{rules}
use borrow.Author.Tests.{lt-ltb, le-ltb, ltb-true, ltb-false, eq-eqb, ne_eqb, eqb-true, eqb-false}
use Rattle.std.specs.Prelude.{Option, Some, None}
use Rattle.meaning.specs.Text as M
use Rattle.meaning.specs.Text.{context_row, equation, difference, variable_pattern, symbol_pattern, equal_literal, unequal_literal, field_at, is_listed, listed_as, sized, size_of}
use Rattle.text_lines.specs.Lines.{Legible, value_at}
use Rattle.text_lines.proofs.Fields.{fields-count, field-at}
use Rattle.text_reader.specs.Kinds.{Looked, fields_at, fixed_size, term_size, LongBy, SizeIs, meant_kind}
use Rattle.text_reader.specs.declared.kinds.Kind.{Kind}
use Rattle.text_reader.specs.declared.kinds.Kind.TheVariants.{ContextRow, Equation, Difference, VariablePattern, SymbolPattern, EqualLiteral, UnequalLiteral}

-- ---- the number of a kind
module _ (n : ℕ) where
  pub looked-row : n ≡ 1 → Looked n (Some ContextRow)
  unfolding is_listed listed_as
  looked-row e = rw e (refl, refl)

  pub looked-equation : n ≡ 2 → Looked n (Some Equation)
  unfolding is_listed listed_as
  looked-equation e = rw e (refl, refl)

  pub looked-difference : n ≡ 3 → Looked n (Some Difference)
  unfolding is_listed listed_as
  looked-difference e = rw e (refl, refl)

  pub looked-variable : n ≡ 4 → Looked n (Some VariablePattern)
  unfolding is_listed listed_as
  looked-variable e = rw e (refl, refl)

  pub looked-symbol : n ≡ 5 → Looked n (Some SymbolPattern)
  unfolding is_listed listed_as
  looked-symbol e = rw e (refl, refl)

  pub looked-equal : n ≡ 6 → Looked n (Some EqualLiteral)
  unfolding is_listed listed_as
  looked-equal e = rw e (refl, refl)

  pub looked-unequal : n ≡ 7 → Looked n (Some UnequalLiteral)
  unfolding is_listed listed_as
  looked-unequal e = rw e (refl, refl)

  pub looked-none : (n ≡ 1 → ⊥) → (n ≡ 2 → ⊥) → (n ≡ 3 → ⊥) → (n ≡ 4 → ⊥) → (n ≡ 5 → ⊥) → (n ≡ 6 → ⊥) → (n ≡ 7 → ⊥) → Looked n None
  unfolding is_listed
  looked-none a b c d e f g = rw (ne_eqb n 1 a, ne_eqb n 2 b, ne_eqb n 3 c, ne_eqb n 4 d, ne_eqb n 5 e, ne_eqb n 6 f, ne_eqb n 7 g)

-- ---- the length of a kind
pub fixed-is : (long digits : ℕ) → long ≡ digits → Some 0 ≡ fixed_size long digits
unfolding fixed_size
fixed-is long digits h = rw (eq-eqb _ _ h)

pub fixed-not : (long digits : ℕ) → (long ≡ digits → ⊥) → ◌≡◌ {A = Option ℕ} None (fixed_size long digits)
unfolding fixed_size
fixed-not long digits h = rw (ne_eqb _ _ h)

module _ (text : List ℕ) (at end : ℕ) where
  pub size-short : end - at < 8 → ◌≡◌ {A = Option ℕ} None (term_size text at end)
  unfolding term_size
  size-short h = rw (lt-ltb _ _ h)

  pub size_is : (v w : ℕ) → 8 ≤ end - at → v ≡ value_at text (at + 6) → w ≡ v → end - at ≡ 8 + w * 2 → Some v ≡ term_size text at end
  unfolding term_size
  size_is v w h e i d = rw (le-ltb _ _ h, ← e, ← i, eq-eqb _ _ d)

  pub size-not : (v w : ℕ) → 8 ≤ end - at → v ≡ value_at text (at + 6) → w ≡ v → (end - at ≡ 8 + w * 2 → ⊥) → ◌≡◌ {A = Option ℕ} None (term_size text at end)
  unfolding term_size
  size-not v w h e i d = rw (le-ltb _ _ h, ← e, ← i, ne_eqb _ _ d)

half : (m n k : ℕ) → m ≡ n / 2 → n % 2 ≡ 0 → eqb m k ≡ eqb n (k * 2)
half m n k e h = go (eqb n (k * 2)) refl
  where
    go : (t : Bool) → eqb n (k * 2) ≡ t → eqb m k ≡ t
    go true f = let g = eqb-true n (k * 2) f in eq-eqb m k (omega arith)
    go false f = let g = eqb-false n (k * 2) f in ne_eqb m k (λ i. g (omega arith))

module _ (text : List ℕ) (at end : ℕ) (g : Legible text at end) where
  pub two_digits : 1 < end - at
  two_digits = omega (arith, g.from, g.even)

  pub kind-first : field_at (fields_at text at end) 0 ≡ value_at text at
  kind-first = field-at text at end g 0 two_digits ∙ rw add-zero

  -- a line has k fields exactly where it has 2 k digits
  sized-by : (k : ℕ) → eqb (length (fields_at text at end)) k ≡ eqb (end - at) (k * 2)
  sized-by k = half (length (fields_at text at end)) (end - at) k (fields-count text at end g) g.even

  by-fields : (k : M.Kind) (n : ℕ) → size_of k (fields_at text at end) ≡ n → (end - at ≡ n * 2 → LongBy k (end - at) 0) → SizeIs text at end k (fixed_size (end - at) (n * 2))
  unfolding sized fixed_size
  by-fields k n e l = go (eqb (end - at) (n * 2)) refl
    where
      size-eq : eqb (length (fields_at text at end)) (size_of k (fields_at text at end)) ≡ eqb (end - at) (n * 2)
      size-eq = rw e (sized-by n)

      go : (t : Bool) → eqb (end - at) (n * 2) ≡ t → SizeIs text at end k (cond (eqb (end - at) (n * 2)) (Some 0) None)
      go true f = rw f (size-eq ∙ f, l (eqb-true _ _ f))
      go false f = rw f (size-eq ∙ f)

  by_count : (k : M.Kind) → size_of k (fields_at text at end) ≡ 4 + field_at (fields_at text at end) 3
      → ((c : ℕ) → end - at ≡ 8 + c * 2 → LongBy k (end - at) c) → SizeIs text at end k (term_size text at end)
  unfolding sized term_size
  by_count k e l = go (ltb (end - at) 8) refl
    where
      short : ltb (end - at) 8 ≡ true → eqb (length (fields_at text at end)) (size_of k (fields_at text at end)) ≡ false
      short f =
          let c = fields-count text at end g in
          let h = ltb-true (end - at) 8 f in
          rw e (ne_eqb (length (fields_at text at end)) (4 + field_at (fields_at text at end) 3) (λ d. omega arith))

      long : ltb (end - at) 8 ≡ false → eqb (length (fields_at text at end)) (size_of k (fields_at text at end)) ≡ eqb (end - at) (8 + value_at text (at + 6) * 2)
      long f =
          let h = ltb-false (end - at) 8 f in
          let i : (4 + value_at text (at + 6)) * 2 ≡ 8 + value_at text (at + 6) * 2 = omega arith in
          rw (e, field-at text at end g 3 (omega arith), ← i) (sized-by (4 + value_at text (at + 6)))

      by : (t : Bool) → eqb (end - at) (8 + value_at text (at + 6) * 2) ≡ t → ltb (end - at) 8 ≡ false
          → SizeIs text at end k (cond t (Some (value_at text (at + 6))) None)
      by true i f = (long f ∙ i, l (value_at text (at + 6)) (eqb-true _ _ i))
      by false i f = long f ∙ i

      go : (t : Bool) → ltb (end - at) 8 ≡ t
          → SizeIs text at end k (cond t None (cond (eqb (end - at) (8 + value_at text (at + 6) * 2)) (Some (value_at text (at + 6))) None))
      go true f = short f
      go false f = by (eqb (end - at) (8 + value_at text (at + 6) * 2)) refl f

  module _ (kind : Kind) (r : Option ℕ) where
    pub sized_row : kind ≡ ContextRow → r ≡ term_size text at end → SizeIs text at end (meant_kind kind) r
    unfolding size_of
    sized_row k e = rw (k, e) (by_count context_row refl (λ c d. d))

    pub sized-symbol : kind ≡ SymbolPattern → r ≡ term_size text at end → SizeIs text at end (meant_kind kind) r
    unfolding size_of
    sized-symbol k e = rw (k, e) (by_count symbol_pattern refl (λ c d. d))

    pub sized-equation : kind ≡ Equation → r ≡ fixed_size (end - at) 6 → SizeIs text at end (meant_kind kind) r
    unfolding size_of
    sized-equation k e = rw (k, e) (by-fields equation 3 refl (λ d. d))

    pub sized-difference : kind ≡ Difference → r ≡ fixed_size (end - at) 6 → SizeIs text at end (meant_kind kind) r
    unfolding size_of
    sized-difference k e = rw (k, e) (by-fields difference 3 refl (λ d. d))

    pub sized-variable : kind ≡ VariablePattern → r ≡ fixed_size (end - at) 4 → SizeIs text at end (meant_kind kind) r
    unfolding size_of
    sized-variable k e = rw (k, e) (by-fields variable_pattern 2 refl (λ d. d))

    pub sized-equal : kind ≡ EqualLiteral → r ≡ fixed_size (end - at) 6 → SizeIs text at end (meant_kind kind) r
    unfolding size_of
    sized-equal k e = rw (k, e) (by-fields equal_literal 3 refl (λ d. d))

    pub sized-unequal : kind ≡ UnequalLiteral → r ≡ fixed_size (end - at) 6 → SizeIs text at end (meant_kind kind) r
    unfolding size_of
    sized-unequal k e = rw (k, e) (by-fields unequal_literal 3 refl (λ d. d))

pub ruleset mine = (
  rules,
  looked-row,
  looked-equation,
  looked-difference,
  looked-variable,
  looked-symbol,
  looked-equal,
  looked-unequal,
  looked-none,
  fixed-is,
  fixed-not,
  size-short,
  size_is,
  size-not,
  sized_row,
  sized-equation,
  sized-difference,
  sized-variable,
  sized-symbol,
  sized-equal,
  sized-unequal,
)
