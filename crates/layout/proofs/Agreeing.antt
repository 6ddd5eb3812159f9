-- Columns that are laid out from well-formed runs say what the runs say, and are well-formed.
--     context-says, rule-says     what they say
--     context-fits, rule_fits     and well-formed alike
-- Assumes nothing.
use mathlib.Core.Bool.{Bool, true, false}
use mathlib.Core.List.{List, [], ◌∷◌, ◌++◌}
use mathlib.Core.Path.{◌≡◌, refl, sym, ap, ap₂, ◌∙◌}
use Prim.Native.Nat.{ℕ, zero, suc, ◌+◌, ◌*◌, ◌/◌, ◌%◌, ◌≤◌, ◌<◌}
use native.Mathlib.Omega.{arith}
use borrow.Author.Tests.{eqb-true, eqb-false, ne_eqb, ltb-true, ltb-false}
use lib.Dec.{eqb, ltb}
use lib.ListN.{length, get_or, take, drop, length-append, length-replicate, length-take, length-drop}
use lib.Seq.{ext_get_or, get_or-take, get_or-drop}
use Rattle.meaning.specs.Context.{Row, Statement}
use Rattle.meaning.specs.Rules.{Pattern, Literal}
use Rattle.meaning.specs.Columns.{pad, args_at, row_from, rows_from, statement_of, statements_from, context_from, pattern_of, patterns_from, literal_of, literals_from, clause_from}
use Rattle.meaning.proofs.Padded.{pad-at}
use Rattle.columns.specs.Fit as C
use Rattle.runs.specs.Fit.{FitContext, FitClause}
use Rattle.runs.specs.Limits.{most_rows, most_statements, most_patterns, most_literals, row_size, said_size, pattern_size, literal_size}
use Rattle.runs.specs.Runs as R
use Rattle.runs.specs.Runs.{each, args_from, row_count, said_count, pattern_count, literal_count, count_in, row_in, rows_of, statement_in, statements_of, context_of, pattern_kind_in, pattern_count_in, pattern_in, patterns_of, literal_in, literals_of, clause_of}
use Rattle.runs.proofs.Saying.{each-length, each_at_lem, arg-at, args-length}
use Rattle.layout.specs.Columns.{number_at, in_byte, byte_at, arg_at, row_places, pattern_places, context_laid, rule_laid, context_in, rule_in}
use Rattle.layout.specs.declared.RuleColumns.{RuleColumns}
use Rattle.layout.proofs.Laying.{byte_small, byte-large}

-- ---- a list that grows by equal elements

grown : {A : Type 0} (from : ℕ → List A) (g h : ℕ → A) → from 0 ≡ [] → ((k : ℕ) → from (suc k) ≡ from k ++ (g k ∷ []))
    → (n : ℕ) → ((i : ℕ) → i < n → g i ≡ h i) → from n ≡ each h n
unfolding each
grown from g h z s zero e = z
grown from g h z s (suc n) e =
    s n ∙ ap₂ (λ (x : List _) (y : _). x ++ (y ∷ [])) (grown from g h z s n (λ i b. e i (omega arith))) (e n (omega arith))

-- ---- a place of a column

column-at : (w : ℕ) (g : ℕ → ℕ) (n i : ℕ) → i < n → get_or (pad w (each g n)) i 0 ≡ g i
column-at w g n i h = pad-at w (each g n) i ∙ each_at_lem g n i 0 h

pad-long : (w : ℕ) (g : ℕ → ℕ) (n : ℕ) → n ≤ w → length (pad w (each g n)) ≡ w
unfolding pad
pad-long w g n h = simp (length-append, length-replicate, each-length) (omega arith)

-- the arguments of piece i, where it has at most four
args-same : (run : List ℕ) (size from w n i count : ℕ) → i < n → n * 4 ≤ w → i * size + from + 4 ≤ length run → count ≤ 4
    → take count (drop (i * 4) (pad w (each (arg_at run size from) (n * 4)))) ≡ args_from run (i * size + from) count
args-same run size from w n i count h room far few =
    let a : List ℕ = pad w (each (arg_at run size from) (n * 4)) in
    let la : length a ≡ w = pad-long w (arg_at run size from) (n * 4) room in
    let ll : length (take count (drop (i * 4) a)) ≡ count = omega (arith, length-take count (drop (i * 4) a), length-drop (i * 4) a) in
    ext_get_or 0 _ _ (ll ∙ sym (args-length run (i * size + from) count far few)) (λ k b.
    let l : k < count = omega arith in
    let d : (i * 4 + k) / 4 ≡ i = omega arith in
    let m : (i * 4 + k) % 4 ≡ k = omega arith in
    let s : i * size + (from + k) ≡ i * size + from + k = omega arith in
    get_or-take count (drop (i * 4) a) k 0 l
    ∙ get_or-drop (i * 4) a k 0
    ∙ column-at w (arg_at run size from) (n * 4) (i * 4 + k) (omega arith)
    ∙ rw (d, m, s) (sym (arg-at run (i * size + from) count k l few)))

-- ---- numbers in bytes

byte-same : (v : ℕ) → v < 256 → in_byte v ≡ v
byte-same v h = sym (byte_small v h)

-- a kind below 255 is read as it is, and nothing else as it
byte-kind : (v k : ℕ) → k < 255 → eqb (in_byte v) k ≡ eqb v k
byte-kind v k h = go (ltb v 256) refl
  where
    go : (b : Bool) → ltb v 256 ≡ b → eqb (in_byte v) k ≡ eqb v k
    go true e = rw (sym (byte_small v (ltb-true v 256 e)))
    go false e =
        rw (sym (byte-large v (ltb-false v 256 e))) (ne_eqb 255 k (λ z. omega arith) ∙ sym (ne_eqb v k (λ z. omega (arith, ltb-false v 256 e))))

statement-byte : (v p q : ℕ) → statement_of (in_byte v) p q ≡ statement_of v p q
unfolding statement_of
statement-byte v p q = rw (byte-kind v 2 (omega arith), statement_of)

pattern-byte : (v head : ℕ) (l : List ℕ) → pattern_of (in_byte v) head l ≡ pattern_of v head l
unfolding pattern_of
pattern-byte v head l = rw (byte-kind v 4 (omega arith), pattern_of)

-- a variable has no arguments, whatever stands in their places
pattern-any : (kind head : ℕ) (l m : List ℕ) → eqb kind 4 ≡ true → pattern_of kind head l ≡ pattern_of kind head m
unfolding pattern_of
pattern-any kind head l m e = rw (e, pattern_of)

literal-byte : (v p q : ℕ) → literal_of (in_byte v) p q ≡ literal_of v p q
unfolding literal_of
literal-byte v p q = rw (byte-kind v 6 (omega arith), literal_of)

-- ---- a context

module _ (rows said : List ℕ) (f : FitContext most_rows most_statements rows said) where
  row_same : (i : ℕ) → i < row_count rows
      → row_from (context_laid rows said).symbols (context_laid rows said).counts (context_laid rows said).args i ≡ row_in rows i
  row_same i h =
      let z : i * 6 + 0 ≡ i * 6 = omega arith in
      let s : get_or (context_laid rows said).symbols i 0 ≡ R.symbol_in rows i = column-at most_rows (number_at rows row_size 0) (row_count rows) i h ∙ rw z in
      let n : get_or (context_laid rows said).counts i 0 ≡ count_in rows i =
      column-at most_rows (byte_at rows row_size 1) (row_count rows) i h ∙ byte-same (count_in rows i) (omega (arith, f.counts-few i h)) in
      let a : args_at (context_laid rows said).counts (context_laid rows said).args i ≡ R.args_in rows i =
      rw n (args-same rows row_size 2 row_places (row_count rows) i (count_in rows i) h (omega (arith, f.rows_few)) (omega arith) (f.counts-few i h)) in
      ap₂ (λ (x : ℕ) (y : List ℕ). record { symbol = x; args = y }) s a

  statement-same : (k : ℕ) → k < said_count said
      → statement_of (get_or (context_laid rows said).kinds k 0) (get_or (context_laid rows said).lefts k 0) (get_or (context_laid rows said).rights k 0) ≡ statement_in said k
  statement-same k h =
      let z : k * 3 + 0 ≡ k * 3 = omega arith in
      let c : get_or (context_laid rows said).kinds k 0 ≡ in_byte (R.kind_in said k) = column-at most_statements (byte_at said said_size 0) (said_count said) k h ∙ rw z in
      let l = column-at most_statements (number_at said said_size 1) (said_count said) k h in
      let r = column-at most_statements (number_at said said_size 2) (said_count said) k h in
      rw (c, l, r) (statement-byte (R.kind_in said k) (R.left_in said k) (R.right_in said k))

  pub context-says : context_in (context_laid rows said) ≡ context_of rows said
  unfolding context_from rows_from statements_from rows_of statements_of
  context-says =
      ap₂ (λ (x : List Row) (y : List Statement). record { rows = x; statements = y })
      (grown (rows_from _ _ _) _ (row_in rows) refl (λ k. refl) (row_count rows) row_same)
      (grown (statements_from _ _ _) _ (statement_in said) refl (λ k. refl) (said_count said) statement-same)

  pub context-fits : C.FitContext (context_laid rows said).symbols (context_laid rows said).counts (context_laid rows said).args (context_laid rows said).rows
      (context_laid rows said).kinds (context_laid rows said).lefts (context_laid rows said).rights (context_laid rows said).statements
  context-fits =
      record {
        rows_few = f.rows_few;
        statements-few = f.said-few;
        counts-few = λ i h.
            rw (column-at most_rows (byte_at rows row_size 1) (row_count rows) i h ∙ byte-same (count_in rows i) (omega (arith, f.counts-few i h))) (f.counts-few i h);
        fit = rw context-says f.fit;
      }

-- ---- a rule

module _ (patterns literals : List ℕ) (f : FitClause patterns literals) where
  abbrev k : RuleColumns
  k = rule_laid patterns literals

  kind-at : (i : ℕ) → i < pattern_count patterns → get_or k.kinds i 0 ≡ in_byte (pattern_kind_in patterns i)
  kind-at i h = let z : i * 7 + 0 ≡ i * 7 = omega arith in column-at most_patterns (byte_at patterns pattern_size 0) (pattern_count patterns) i h ∙ rw z

  head_at : (i : ℕ) → i < pattern_count patterns → get_or k.heads i 0 ≡ R.head_in patterns i
  head_at i h = column-at most_patterns (number_at patterns pattern_size 1) (pattern_count patterns) i h

  count_at : (i : ℕ) → i < pattern_count patterns → (pattern_kind_in patterns i ≡ 4 → ⊥) → get_or k.counts i 0 ≡ pattern_count_in patterns i
  count_at i h n =
      column-at most_patterns (byte_at patterns pattern_size 2) (pattern_count patterns) i h ∙ byte-same (pattern_count_in patterns i) (omega (arith, f.counts-few i h n))

  pattern-same : (i : ℕ) → i < pattern_count patterns → pattern_of (get_or k.kinds i 0) (get_or k.heads i 0) (args_at k.counts k.args i) ≡ pattern_in patterns i
  pattern-same i h =
      rw (kind-at i h, head_at i h)
      (pattern-byte (pattern_kind_in patterns i) (R.head_in patterns i) (args_at k.counts k.args i)
      ∙ go (eqb (pattern_kind_in patterns i) 4) refl)
    where
      go : (b : Bool) → eqb (pattern_kind_in patterns i) 4 ≡ b
          → pattern_of (pattern_kind_in patterns i) (R.head_in patterns i) (args_at k.counts k.args i) ≡ pattern_in patterns i
      go true e = pattern-any (pattern_kind_in patterns i) (R.head_in patterns i) (args_at k.counts k.args i) (R.pattern_args_in patterns i) e
      go false e =
          let n : pattern_kind_in patterns i ≡ 4 → ⊥ = eqb-false (pattern_kind_in patterns i) 4 e in
          ap (pattern_of (pattern_kind_in patterns i) (R.head_in patterns i))
          (rw (count_at i h n)
          (args-same patterns pattern_size 3 pattern_places (pattern_count patterns) i (pattern_count_in patterns i) h (omega (arith, f.patterns-few)) (omega arith) (f.counts-few i h n)))

  literal-same : (j : ℕ) → j < literal_count literals → literal_of (get_or k.signs j 0) (get_or k.lefts j 0) (get_or k.rights j 0) ≡ literal_in literals j
  literal-same j h =
      let z : j * 3 + 0 ≡ j * 3 = omega arith in
      let c : get_or k.signs j 0 ≡ in_byte (R.sign_in literals j) = column-at most_literals (byte_at literals literal_size 0) (literal_count literals) j h ∙ rw z in
      let l = column-at most_literals (number_at literals literal_size 1) (literal_count literals) j h in
      let r = column-at most_literals (number_at literals literal_size 2) (literal_count literals) j h in
      rw (c, l, r) (literal-byte (R.sign_in literals j) (R.left_in literals j) (R.right_in literals j))

  patterns-say : patterns_from k.kinds k.heads k.counts k.args (pattern_count patterns) ≡ patterns_of patterns
  unfolding patterns_from patterns_of
  patterns-say = grown (patterns_from _ _ _ _) _ (pattern_in patterns) refl (λ j. refl) (pattern_count patterns) pattern-same

  literals-say : literals_from k.signs k.lefts k.rights (literal_count literals) ≡ literals_of literals
  unfolding literals_from literals_of
  literals-say = grown (literals_from _ _ _) _ (literal_in literals) refl (λ j. refl) (literal_count literals) literal-same

  pub rule-says : rule_in (rule_laid patterns literals) ≡ clause_of patterns literals
  unfolding clause_from
  rule-says = ap₂ (λ (x : List Pattern) (y : List Literal). record { patterns = x; literals = y }) patterns-say literals-say

  pub rule_fits : C.FitClause (rule_laid patterns literals).kinds (rule_laid patterns literals).heads (rule_laid patterns literals).counts (rule_laid patterns literals).args
      (rule_laid patterns literals).patterns (rule_laid patterns literals).signs (rule_laid patterns literals).lefts (rule_laid patterns literals).rights
      (rule_laid patterns literals).literals
  rule_fits =
      record {
        patterns-few = f.patterns-few;
        literals-few = f.literals-few;
        variables-few = λ i h e. rw (head_at i h) (f.variables-few i h (kind-four i h e));
        counts-few = λ i h n. let m = not-four i h n in rw (count_at i h m) (f.counts-few i h m);
        placed = rw patterns-say f.placed;
        named = rw literals-say f.named;
      }
    where
      kind-four : (i : ℕ) → i < pattern_count patterns → get_or k.kinds i 0 ≡ 4 → pattern_kind_in patterns i ≡ 4
      kind-four i h e = eqb-true (pattern_kind_in patterns i) 4 (sym (byte-kind (pattern_kind_in patterns i) 4 (omega arith)) ∙ rw (sym (kind-at i h) ∙ e))

      not-four : (i : ℕ) → i < pattern_count patterns → (get_or k.kinds i 0 ≡ 4 → ⊥) → pattern_kind_in patterns i ≡ 4 → ⊥
      not-four i h n e = n (kind-at i h ∙ rw e (byte-same 4 (omega arith)))
