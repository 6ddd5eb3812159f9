-- The filled parts of the runs that were told: they say what was read, and are well-formed.
--     told-context, told-clause   they say what was read
--     told-formed                 which is well-formed, and as little as the empty text's where the reader refuses
--     told_fit, told-rule         and so are the parts, within the limits
--     part-long                   a part has as many numbers as are asked for
--     rows_inside .. literals-inside   as much is filled as there is
--     literals-counted            how many literals there are, by what is filled
-- Assumes nothing.
use mathlib.Core.List.{List, [], ◌∷◌}
use mathlib.Core.Path.{◌≡◌, refl, sym, ap, ◌∙◌}
use Prim.Native.Nat.{ℕ, zero, suc, ◌+◌, ◌-◌, ◌*◌, ◌/◌, ◌≤◌, ◌<◌}
use native.Mathlib.Nat.{suc-mul, zero-mul, zero-add}
use native.Mathlib.Omega.{arith}
use lib.ListN.{length, get_or, take, replicate, length-append, length-replicate, length-take, get_or-append}
use lib.Seq.{get_or-append-add}
use Rattle.meaning.specs.Context.{Context, row₀, row_at, Statement, same, differ, equations_of, differences_of}
use Rattle.meaning.specs.Rules.{Pattern, variable, apply, Clause}
use Rattle.meaning.specs.Formed.{Formed}
use Rattle.meaning.specs.Values.{pattern₀, pattern_at}
use Rattle.meaning.specs.Columns.{pad, pattern_kind, head_of, args_in}
use Rattle.meaning.specs.Text as M
use Rattle.meaning.specs.Text.{narrow, Read, faulty, taken, read}
use Rattle.meaning.proofs.Kept.{Kept, RowFits, PatternFits}
use Rattle.meaning.proofs.Lines.{Each, each_map}
use Rattle.meaning.proofs.Taken.{read-formed}
use Rattle.runs.specs.Fit.{FitContext, FitClause}
use Rattle.runs.specs.Limits.{most_rows, most_statements, row_size, pattern_size, arg_places}
use Rattle.runs.specs.Runs.{row_count, said_count, pattern_count, literal_count, count_in, pattern_kind_in, head_in, pattern_count_in}
use Rattle.runs.proofs.Saying.{length-rows, length-statements, length-patterns, length-literals}
use Rattle.text_runs.specs.Numbers.{row_numbers, pattern_numbers, numbers_of}
use Rattle.text_runs.specs.Reads.{read_of, Holds, Reads}
use Rattle.text_runs.specs.declared.Told.{Told}
use Rattle.text_runs.proofs.Saying.{filled-part, told-kept, says-context, says-clause}
use Rattle.ruling.specs.Claims.{rows_in, said_in, patterns_in, literals_in, context_in, clause_in}

-- ---- a run of pieces

pub part-long : (n : ℕ) (l : List ℕ) → n ≤ length l → n ≡ length (take n l)
part-long n l h = omega (arith, length-take n l)

module _ {A : Type 0} {numbers : A → List ℕ} {places : ℕ} {l : List A} {run : List ℕ} {n : ℕ} (h : Holds numbers places l run n) where
  filled-inside : n ≤ length run
  unfolding pad
  filled-inside = rw h.run_is (omega (arith, h.filled_is, length-append (numbers_of numbers l) (replicate (places - length (numbers_of numbers l)) 0)))

each_at_lem : {A : Type 0} (P : A → Type 0) (d : A) (l : List A) → Each P l → (i : ℕ) → i < length l → P (get_or l i d)
each_at_lem P d [] e i h = absurd (omega arith)
each_at_lem P d (r ∷ l) e zero h = e.0
each_at_lem P d (r ∷ l) e (suc i) h = each_at_lem P d l e.1 i (omega arith)

-- a number of piece i
module _ {A : Type 0} (numbers : A → List ℕ) (size from : ℕ) (f : A → ℕ) (d : A) where
  number_at : ((a : A) → get_or (numbers a) from 0 ≡ f a) → from < size → (l : List A) → Each (λ a. length (numbers a) ≡ size) l
      → (i : ℕ) → i < length l → get_or (numbers_of numbers l) (i * size + from) 0 ≡ f (get_or l i d)
  unfolding numbers_of
  number_at p s [] h i b = absurd (omega arith)
  number_at p s (a ∷ l) h zero b =
      rw (zero-mul size, zero-add from) (get_or-append (numbers a) (numbers_of numbers l) 0 from (omega (arith, h.0)) ∙ p a)
  number_at p s (a ∷ l) h (suc i) b =
      let e : suc i * size + from ≡ length (numbers a) + (i * size + from) = omega (arith, suc-mul i size, h.0) in
      rw e (get_or-append-add (numbers a) (numbers_of numbers l) (i * size + from) 0 ∙ number_at p s l h.1 i (omega arith))

pad-length : (l : List ℕ) → length l ≤ arg_places → length (pad arg_places l) ≡ arg_places
unfolding pad
pad-length l h = simp (length-append, length-replicate) (omega arith)

arity : (p : Pattern) → PatternFits narrow p → length (args_in p) ≤ arg_places
arity (variable v) h = omega arith
arity (apply f l) h = h.0

few-variables : (p : Pattern) → PatternFits narrow p → pattern_kind p ≡ 4 → head_of p < 4
few-variables (variable v) h e = omega arith
few-variables (apply f l) h e = absurd (omega arith)

stated-few : (l : List Statement) → length l ≡ length (equations_of l) + length (differences_of l)
unfolding equations_of differences_of
stated-few [] = refl
stated-few (same p q ∷ l) = omega (arith, stated-few l)
stated-few (differ p q ∷ l) = omega (arith, stated-few l)

-- ---- what was read is well-formed

formed-of : (r : M.Reading) → ((s : Read) → r ≡ taken s → Formed s.ledger.context s.clause) → Formed (read_of r).ledger.context (read_of r).clause
unfolding equations_of differences_of
formed-of (faulty f) h =
    record {
      fit = record { ordered = λ i b. absurd (omega arith); within = λ i b. absurd (omega arith); apart = λ i b. absurd (omega arith) };
      placed = tt;
      named = tt;
    }
formed-of (taken s) h = h s refl

-- ---- the parts

module _ (text : List ℕ) (t : Told) (h : Reads text t) where
  pub rows_inside : t.filled.rows ≤ length t.rows
  rows_inside = filled-inside h.rows

  pub said-inside : t.filled.said ≤ length t.said
  said-inside = filled-inside h.said

  pub patterns-inside : t.filled.patterns ≤ length t.patterns
  patterns-inside = filled-inside h.patterns

  pub literals-inside : t.filled.literals ≤ length t.literals
  literals-inside = filled-inside h.literals

  pub literals-counted : literal_count (literals_in t) ≡ t.filled.literals / 3
  literals-counted = omega (arith, length-take t.filled.literals t.literals, literals-inside)

  pub told-context : context_in t ≡ (read_of (read narrow text)).ledger.context
  told-context = says-context text t h

  pub told-clause : clause_in t ≡ (read_of (read narrow text)).clause
  told-clause = says-clause text t h

  pub told-formed : Formed (context_in t) (clause_in t)
  told-formed = rw (told-context, told-clause) (formed-of (read narrow text) (λ s e. read-formed narrow text s e))

  kept : Kept narrow (read_of (read narrow text))
  kept = told-kept text

  abbrev c : Context
  c = (read_of (read narrow text)).ledger.context

  abbrev k : Clause
  k = (read_of (read narrow text)).clause

  row_count_lem : row_count (rows_in t) ≡ length c.rows
  row_count_lem = sym (length-rows (rows_in t)) ∙ ap (λ (x : Context). length x.rows) told-context

  said-count : said_count (said_in t) ≡ length c.statements
  said-count = sym (length-statements (said_in t)) ∙ ap (λ (x : Context). length x.statements) told-context

  pattern-count : pattern_count (patterns_in t) ≡ length k.patterns
  pattern-count = sym (length-patterns (patterns_in t)) ∙ ap (λ (x : Clause). length x.patterns) told-clause

  literal-count : literal_count (literals_in t) ≡ length k.literals
  literal-count = sym (length-literals (literals_in t)) ∙ ap (λ (x : Clause). length x.literals) told-clause

  rows-sized : Each (λ r. length (row_numbers r) ≡ row_size) c.rows
  rows-sized = each_map (RowFits narrow) (λ r. length (row_numbers r) ≡ row_size) c.rows (λ r f. omega (arith, pad-length r.args f.0)) kept.context_fits.rows_fit

  patterns-sized : Each (λ p. length (pattern_numbers p) ≡ pattern_size) k.patterns
  patterns-sized =
      each_map (PatternFits narrow) (λ p. length (pattern_numbers p) ≡ pattern_size) k.patterns (λ p f. omega (arith, pad-length (args_in p) (arity p f)))
      kept.clause_fits.patterns_fit

  count_at : (i : ℕ) → i < row_count (rows_in t) → count_in (rows_in t) i ≡ length (row_at c.rows i).args
  count_at i b =
      rw (filled-part h.rows)
      (number_at row_numbers row_size 1 (λ r. length r.args) row₀ (λ r. refl) (omega arith) c.rows rows-sized i (omega (arith, row_count_lem)))

  module _ (i : ℕ) (b : i < pattern_count (patterns_in t)) where
    pattern-fits : PatternFits narrow (pattern_at k.patterns i)
    pattern-fits = each_at_lem (PatternFits narrow) pattern₀ k.patterns kept.clause_fits.patterns_fit i (omega (arith, pattern-count))

    pattern_number : (from : ℕ) (f : Pattern → ℕ) → ((p : Pattern) → get_or (pattern_numbers p) from 0 ≡ f p) → from < pattern_size
        → get_or (patterns_in t) (i * pattern_size + from) 0 ≡ f (pattern_at k.patterns i)
    pattern_number from f p s =
        rw (filled-part h.patterns) (number_at pattern_numbers pattern_size from f pattern₀ p s k.patterns patterns-sized i (omega (arith, pattern-count)))

    kind-at : pattern_kind_in (patterns_in t) i ≡ pattern_kind (pattern_at k.patterns i)
    kind-at = let e : i * pattern_size ≡ i * pattern_size + 0 = omega arith in rw e (pattern_number 0 pattern_kind (λ p. refl) (omega arith))

    pub variable-few : pattern_kind_in (patterns_in t) i ≡ 4 → head_in (patterns_in t) i < 4
    variable-few e = rw (pattern_number 1 head_of (λ p. refl) (omega arith)) (few-variables (pattern_at k.patterns i) pattern-fits (sym kind-at ∙ e))

    pub arguments-few : pattern_count_in (patterns_in t) i ≤ arg_places
    arguments-few = rw (pattern_number 2 (λ p. length (args_in p)) (λ p. refl) (omega arith)) (arity (pattern_at k.patterns i) pattern-fits)

  pub told_fit : FitContext most_rows most_statements (rows_in t) (said_in t)
  told_fit =
      record {
        rows_few = omega (arith, row_count_lem, kept.context_fits.few_rows);
        said-few = omega (arith, said-count, stated-few c.statements, kept.context_fits.few_equations, kept.context_fits.few_differences);
        counts-few = λ i b. rw (count_at i b) (each_at_lem (RowFits narrow) row₀ c.rows kept.context_fits.rows_fit i (omega (arith, row_count_lem))).0;
        fit = told-formed.fit;
      }

  pub told-rule : FitClause (patterns_in t) (literals_in t)
  told-rule =
      record {
        patterns-few = omega (arith, pattern-count, kept.clause_fits.few_patterns);
        literals-few = omega (arith, literal-count, kept.clause_fits.few_literals);
        variables-few = variable-few;
        counts-few = λ i b n. arguments-few i b;
        placed = told-formed.placed;
        named = rw (length-patterns (patterns_in t)) at told-formed.named;
      }
