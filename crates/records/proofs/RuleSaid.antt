-- The rule that the runs of a struct say is the rule that its columns say.
--     joined-patterns, joined-literals      what the runs of pattern rows and of literals say, piece by piece
--     patterns-each, literals-each          what the columns say, piece by piece
--     places-said                           at most four arguments of a row, from its four places and from the column
--     rule-said                             the two rules are one, where the rule is well-formed and the column of arguments has its length
-- Assumes nothing.
use mathlib.Core.Bool.{Bool, true, false}
use mathlib.Core.List.{List, [], ◌∷◌, ◌++◌}
use mathlib.Core.Path.{◌≡◌, refl, sym, ap, ap₂, ◌∙◌}
use Prim.Native.Nat.{ℕ, zero, suc, ◌+◌, ◌*◌, ◌≤◌, ◌<◌}
use native.Mathlib.Omega.{arith}
use borrow.Author.Tests.{eqb-false}
use lib.Dec.{eqb}
use lib.ListN.{length, get_or, take, drop, length-drop}
use lib.Seq.{get_or-take, get_or-drop, take-take, ext_get_or, length-take-le}
use Rattle.meaning.specs.Rules.{Pattern, variable, Literal}
use Rattle.meaning.specs.Columns.{args_at, pattern_of, patterns_from, literal_of, literals_from, clause_from}
use Rattle.runs.specs.Limits.{most_patterns, most_literals, pattern_size, literal_size, arg_places}
use Rattle.runs.specs.Runs.{each, pattern_count, literal_count, pattern_kind_in, pattern_count_in, pattern_in, patterns_of, literal_in, literals_of}
use Rattle.runs.proofs.Saying.{each-length, each_at_lem}
use Rattle.runs.proofs.Growing.{patterns-more, literals-more}
use Rattle.records.specs.declared.ClauseColumns.{ClauseColumns}
use Rattle.records.specs.Layouts.{told, joined, places_at, pattern_piece, literal_piece, patterns_laid, literals_laid, rule_of}
use Rattle.records.specs.Claims.{FitRule}
use Rattle.records.proofs.Joining.{joined_length, joined_at, told-all}
use Rattle.records.proofs.Layouts.{told-few}

-- ---- piece by piece

pub joined-patterns : (g : ℕ → List ℕ) → ((i : ℕ) → length (g i) ≡ pattern_size) → (n : ℕ) → patterns_of (joined g n) ≡ each (λ i. pattern_in (g i) 0) n
unfolding joined each patterns_of
joined-patterns g s zero = refl
joined-patterns g s (suc n) =
    patterns-more (joined g n) (g n) n (joined_length g pattern_size s n) (s n)
    ∙ ap (λ (l : List Pattern). l ++ (pattern_in (g n) 0 ∷ [])) (joined-patterns g s n)

pub joined-literals : (g : ℕ → List ℕ) → ((i : ℕ) → length (g i) ≡ literal_size) → (n : ℕ) → literals_of (joined g n) ≡ each (λ i. literal_in (g i) 0) n
unfolding joined each literals_of
joined-literals g s zero = refl
joined-literals g s (suc n) =
    literals-more (joined g n) (g n) n (joined_length g literal_size s n) (s n)
    ∙ ap (λ (l : List Literal). l ++ (literal_in (g n) 0 ∷ [])) (joined-literals g s n)

pub patterns-each : (kinds heads counts args : List ℕ) (n : ℕ)
    → patterns_from kinds heads counts args n ≡ each (λ i. pattern_of (get_or kinds i 0) (get_or heads i 0) (args_at counts args i)) n
unfolding patterns_from each
patterns-each kinds heads counts args zero = refl
patterns-each kinds heads counts args (suc n) = rw (patterns-each kinds heads counts args n)

pub literals-each : (signs lefts rights : List ℕ) (n : ℕ)
    → literals_from signs lefts rights n ≡ each (λ i. literal_of (get_or signs i 0) (get_or lefts i 0) (get_or rights i 0)) n
unfolding literals_from each
literals-each signs lefts rights zero = refl
literals-each signs lefts rights (suc n) = rw (literals-each signs lefts rights n)

same-each : {A : Type 0} (d : A) (g h : ℕ → A) (n : ℕ) → ((i : ℕ) → i < n → g i ≡ h i) → each g n ≡ each h n
same-each d g h n f =
    ext_get_or d (each g n) (each h n) (each-length g n ∙ sym (each-length h n)) (λ i l.
    let b : i < n = omega (arith, each-length g n) in
    each_at_lem g n i d b ∙ f i b ∙ sym (each_at_lem h n i d b))

-- ---- the four places of a row

module _ (args : List ℕ) (i : ℕ) where
  place_at : (k : ℕ) → k < 4 → get_or (places_at args i) k 0 ≡ get_or args (i * arg_places + k) 0
  place_at zero h = let e : i * arg_places + 0 ≡ i * arg_places = omega arith in rw e
  place_at (suc zero) h = refl
  place_at (suc (suc zero)) h = refl
  place_at (suc (suc (suc zero))) h = refl
  place_at (suc (suc (suc (suc k)))) h = absurd (omega arith)

  module _ (room : i * arg_places + arg_places ≤ length args) where
    four-said : places_at args i ≡ take arg_places (drop (i * arg_places) args)
    four-said =
        let long : length (take arg_places (drop (i * arg_places) args)) ≡ arg_places =
        length-take-le arg_places (drop (i * arg_places) args) (omega (arith, length-drop (i * arg_places) args)) in
        ext_get_or 0 (places_at args i) (take arg_places (drop (i * arg_places) args)) (sym long) (λ k h.
        place_at k (omega arith) ∙ sym (get_or-take arg_places (drop (i * arg_places) args) k 0 (omega arith) ∙ get_or-drop (i * arg_places) args k 0))

    pub places-said : (count : ℕ) → count ≤ arg_places → take count (places_at args i) ≡ take count (drop (i * arg_places) args)
    places-said count few = ap (take count) four-said ∙ take-take count arg_places (drop (i * arg_places) args) few

-- a variable has no arguments
pattern-alike : (kind head : ℕ) (l m : List ℕ) → ((kind ≡ 4 → ⊥) → l ≡ m) → pattern_of kind head l ≡ pattern_of kind head m
unfolding pattern_of
pattern-alike kind head l m f = go (eqb kind 4) refl
  where
    go : (b : Bool) → eqb kind 4 ≡ b → pattern_of kind head l ≡ pattern_of kind head m
    go true e = rw (e, pattern_of)
    go false e = ap (pattern_of kind head) (f (eqb-false kind 4 e))

-- ---- the rule

module _ (k : ClauseColumns) (long : length k.args ≡ most_patterns * arg_places) (f : FitRule k) where
  patterns-told : pattern_count (patterns_laid k) ≡ told most_patterns k.patterns
  patterns-told = omega (arith, joined_length (pattern_piece k) pattern_size (λ i. refl) (told most_patterns k.patterns))

  literals-told : literal_count (literals_laid k) ≡ told most_literals k.literals
  literals-told = omega (arith, joined_length (literal_piece k) literal_size (λ i. refl) (told most_literals k.literals))

  patterns-few : k.patterns ≤ most_patterns
  patterns-few = told-few most_patterns k.patterns (omega (arith, patterns-told, f.fit.patterns-few))

  literals-few : k.literals ≤ most_literals
  literals-few = told-few most_literals k.literals (omega (arith, literals-told, f.fit.literals-few))

  all-patterns : k.patterns ≡ told most_patterns k.patterns
  all-patterns = told-all most_patterns k.patterns patterns-few

  module _ (i : ℕ) (h : i < k.patterns) where
    number-said : (j : ℕ) → j < pattern_size → get_or (patterns_laid k) (i * pattern_size + j) 0 ≡ get_or (pattern_piece k i) j 0
    number-said j b = joined_at (pattern_piece k) pattern_size (λ x. refl) (told most_patterns k.patterns) i j (omega (arith, all-patterns)) b

    kind-said : pattern_kind_in (patterns_laid k) i ≡ get_or k.kinds i 0
    kind-said = let e : i * pattern_size + 0 ≡ i * pattern_size = omega arith in rw e at (number-said 0 (omega arith))

    count-said : pattern_count_in (patterns_laid k) i ≡ get_or k.counts i 0
    count-said = number-said 2 (omega arith)

    args_said : (get_or k.kinds i 0 ≡ 4 → ⊥) → take (get_or k.counts i 0) (places_at k.args i) ≡ args_at k.counts k.args i
    args_said n =
        places-said k.args i (omega (arith, long, patterns-few)) (get_or k.counts i 0)
        (rw count-said at (f.fit.counts-few i (omega (arith, patterns-told, all-patterns)) (λ e. n (sym kind-said ∙ e))))

  patterns-said : patterns_of (patterns_laid k) ≡ patterns_from k.kinds k.heads k.counts k.args k.patterns
  patterns-said =
      joined-patterns (pattern_piece k) (λ i. refl) (told most_patterns k.patterns)
      ∙ rw (sym all-patterns)
      (same-each (variable 0) (λ i. pattern_in (pattern_piece k i) 0) (λ i. pattern_of (get_or k.kinds i 0) (get_or k.heads i 0) (args_at k.counts k.args i)) k.patterns (λ i h.
      pattern-alike (get_or k.kinds i 0) (get_or k.heads i 0) (take (get_or k.counts i 0) (places_at k.args i)) (args_at k.counts k.args i) (args_said i h))
      ∙ sym (patterns-each k.kinds k.heads k.counts k.args k.patterns))

  literals-said : literals_of (literals_laid k) ≡ literals_from k.signs k.lefts k.rights k.literals
  literals-said =
      joined-literals (literal_piece k) (λ i. refl) (told most_literals k.literals)
      ∙ rw (sym (told-all most_literals k.literals literals-few)) (sym (literals-each k.signs k.lefts k.rights k.literals))

  pub rule-said : rule_of k ≡ clause_from k.kinds k.heads k.counts k.args k.patterns k.signs k.lefts k.rights k.literals
  unfolding clause_from
  rule-said = ap₂ (λ (x : List Pattern) (y : List Literal). record { patterns = x; literals = y }) patterns-said literals-said
