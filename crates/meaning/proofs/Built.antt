-- Lists that columns say: the element at each place.
--     build, build-length, build-at        a list by its elements
--     rows-build .. literals-build         what columns say is such a list
--     length-rows .. length-literals       so as many as are counted
--     rows-at .. literals-at               and each by its columns
-- Assumes nothing.
use mathlib.Core.List.{List, [], ◌∷◌, ◌++◌}
use mathlib.Core.Path.{◌≡◌, refl, sym, ap, ◌∙◌}
use mathlib.Core.Logic.{◌⊎◌, inl, inr}
use Prim.Native.Nat.{ℕ, zero, suc, ◌<◌}
use native.Mathlib.Omega.{arith}
use native.Mathlib.Nat.{eq-or-lt_of_le, le_of_suc-le-suc}
use lib.ListN.{length, get_or, length-append, get_or-append}
use lib.Seq.{get_or_at}
use Rattle.meaning.specs.Context.{row₀, row_at, Statement}
use Rattle.meaning.specs.Rules.{Pattern, Literal}
use Rattle.meaning.specs.Grounds.{literal₀}
use Rattle.meaning.specs.Columns.{args_at, row_from, rows_from, statement_of, statements_from, pattern_of, patterns_from, literal_of, literals_from}

unfoldable pub build : {A : Type 0} → (ℕ → A) → ℕ → List A
build g zero = []
build g (suc n) = build g n ++ (g n ∷ [])

module _ {A : Type 0} (g : ℕ → A) where
  pub build-length : (n : ℕ) → length (build g n) ≡ n
  unfolding build
  build-length zero = refl
  build-length (suc n) = omega (arith, length-append (build g n) (g n ∷ []), build-length n)

  pub build-at : (n i : ℕ) (d : A) → i < n → get_or (build g n) i d ≡ g i
  unfolding build
  build-at zero i d h = absurd (omega arith)
  build-at (suc n) i d h = go (build-at n i d) (eq-or-lt_of_le (le_of_suc-le-suc h))
    where
      go : (i < n → get_or (build g n) i d ≡ g i) → (i ≡ n) ⊎ (i < n) → get_or (build g (suc n)) i d ≡ g i
      go rest (inr l) = get_or-append (build g n) (g n ∷ []) d i (omega (arith, build-length n)) ∙ rest l
      go rest (inl e) = get_or_at (build g n) (g n) [] d i (build-length n ∙ sym e) ∙ ap g (sym e)

-- the parts of a statement and of a literal, and a pattern row, by their columns
abbrev pub statement_at : List ℕ → List ℕ → List ℕ → ℕ → Statement
statement_at kinds lefts rights j = statement_of (get_or kinds j 0) (get_or lefts j 0) (get_or rights j 0)

abbrev pub literal_at : List ℕ → List ℕ → List ℕ → ℕ → Literal
literal_at kinds lefts rights j = literal_of (get_or kinds j 0) (get_or lefts j 0) (get_or rights j 0)

abbrev pub pattern_in : List ℕ → List ℕ → List ℕ → List ℕ → ℕ → Pattern
pattern_in kinds heads counts args i = pattern_of (get_or kinds i 0) (get_or heads i 0) (args_at counts args i)

pub rows-build : (symbols counts args : List ℕ) (n : ℕ) → rows_from symbols counts args n ≡ build (row_from symbols counts args) n
unfolding build rows_from
rows-build symbols counts args zero = refl
rows-build symbols counts args (suc n) = ap (◌++ (row_from symbols counts args n ∷ [])) (rows-build symbols counts args n)

pub statements-build : (kinds lefts rights : List ℕ) (n : ℕ) → statements_from kinds lefts rights n ≡ build (statement_at kinds lefts rights) n
unfolding build statements_from
statements-build kinds lefts rights zero = refl
statements-build kinds lefts rights (suc n) = ap (◌++ (statement_at kinds lefts rights n ∷ [])) (statements-build kinds lefts rights n)

pub patterns-build : (kinds heads counts args : List ℕ) (n : ℕ) → patterns_from kinds heads counts args n ≡ build (pattern_in kinds heads counts args) n
unfolding build patterns_from
patterns-build kinds heads counts args zero = refl
patterns-build kinds heads counts args (suc n) = ap (◌++ (pattern_in kinds heads counts args n ∷ [])) (patterns-build kinds heads counts args n)

pub literals-build : (kinds lefts rights : List ℕ) (n : ℕ) → literals_from kinds lefts rights n ≡ build (literal_at kinds lefts rights) n
unfolding build literals_from
literals-build kinds lefts rights zero = refl
literals-build kinds lefts rights (suc n) = ap (◌++ (literal_at kinds lefts rights n ∷ [])) (literals-build kinds lefts rights n)

-- ---- how many, and each

pub length-rows : (symbols counts args : List ℕ) (n : ℕ) → length (rows_from symbols counts args n) ≡ n
length-rows symbols counts args n = rw (rows-build symbols counts args n) (build-length (row_from symbols counts args) n)

pub length-statements : (kinds lefts rights : List ℕ) (n : ℕ) → length (statements_from kinds lefts rights n) ≡ n
length-statements kinds lefts rights n = rw (statements-build kinds lefts rights n) (build-length (statement_at kinds lefts rights) n)

pub length-patterns : (kinds heads counts args : List ℕ) (n : ℕ) → length (patterns_from kinds heads counts args n) ≡ n
length-patterns kinds heads counts args n = rw (patterns-build kinds heads counts args n) (build-length (pattern_in kinds heads counts args) n)

pub length-literals : (kinds lefts rights : List ℕ) (n : ℕ) → length (literals_from kinds lefts rights n) ≡ n
length-literals kinds lefts rights n = rw (literals-build kinds lefts rights n) (build-length (literal_at kinds lefts rights) n)

pub rows-at : (symbols counts args : List ℕ) (n i : ℕ) → i < n → row_at (rows_from symbols counts args n) i ≡ row_from symbols counts args i
rows-at symbols counts args n i h = rw (rows-build symbols counts args n) (build-at (row_from symbols counts args) n i row₀ h)

pub statements-at : (kinds lefts rights : List ℕ) (n i : ℕ) (d : Statement) → i < n
    → get_or (statements_from kinds lefts rights n) i d ≡ statement_at kinds lefts rights i
statements-at kinds lefts rights n i d h = rw (statements-build kinds lefts rights n) (build-at (statement_at kinds lefts rights) n i d h)

pub patterns-at : (kinds heads counts args : List ℕ) (n i : ℕ) (d : Pattern) → i < n
    → get_or (patterns_from kinds heads counts args n) i d ≡ pattern_in kinds heads counts args i
patterns-at kinds heads counts args n i d h = rw (patterns-build kinds heads counts args n) (build-at (pattern_in kinds heads counts args) n i d h)

pub literals-at : (kinds lefts rights : List ℕ) (n i : ℕ) → i < n → get_or (literals_from kinds lefts rights n) i literal₀ ≡ literal_at kinds lefts rights i
literals-at kinds lefts rights n i h = rw (literals-build kinds lefts rights n) (build-at (literal_at kinds lefts rights) n i literal₀ h)
