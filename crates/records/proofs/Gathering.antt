-- Runs as records: what the rows of a run say as records is what the run says, and both are well-formed alike.
--     records_in, stated_in         the rows of a run as records, and its statements
--     gather-context              they say one context, whatever the runs
--     gather-fit, fit-gather      and are well-formed alike
--     closes-gathered, finds-gathered    so a closing and the finder reply alike to both
-- Assumes nothing.
use mathlib.Core.List.{List, [], ◌∷◌, map}
use mathlib.Core.Path.{◌≡◌, sym, ap, ap₂, subst, ◌∙◌}
use Prim.Native.Nat.{ℕ, zero, suc, ◌+◌, ◌*◌, ◌≤◌, ◌<◌}
use native.Mathlib.Omega.{arith}
use lib.ListN.{length, get_or, take, drop, length-take, length-drop, length-map, get_or-map}
use lib.Seq.{get_or-take, get_or-drop, ext_get_or}
use Rattle.meaning.specs.Context as M
use Rattle.meaning.specs.Context.{Context, row₀, Statement, same}
use Rattle.meaning.specs.Columns.{statement_of, statements_from}
use Rattle.meaning.specs.Equality.{Promise}
use Rattle.runs.specs.Fit.{FitContext}
use Rattle.runs.specs.Limits.{most_rows, most_statements, row_size}
use Rattle.runs.specs.Runs as R
use Rattle.runs.specs.Runs.{each, row_count, said_count}
use Rattle.runs.proofs.Saying.{each-length, each_at_lem, length-rows, length-statements, rows-at, statements-at}
use Rattle.records.specs.declared.ClauseColumns.{ClauseColumns}
use Rattle.classes.specs.Claims.{Closes}
use Rattle.classes.specs.declared.Answer.{Answer}
use Rattle.classes.specs.declared.Answer.TheVariants as A
use Rattle.records.specs.declared.Row.{Row}
use Rattle.records.specs.declared.Statements.{Statements}
use Rattle.std.specs.Prelude.{Option}
use Rattle.replies.specs.declared.Reply.{Reply}
use Rattle.records.specs.Records.{no_row, row_of, context_of, FitRows}
use Rattle.records.specs.Layouts.{patterns_laid, literals_laid, rule_of}
use Rattle.records.specs.Claims.{ClosesRows, FindsRuns, FindsRows}
use Rattle.records.proofs.Layouts.{from_each}
use Rattle.records.proofs.Alike.{judges-alike}

abbrev pub record_in : List ℕ → ℕ → Row
record_in rows i = record {
  symbol = R.symbol_in rows i;
  count = R.count_in rows i;
  args = R.arg_in rows i 0 ∷ R.arg_in rows i 1 ∷ R.arg_in rows i 2 ∷ R.arg_in rows i 3 ∷ [];
}

abbrev pub records_in : List ℕ → List Row
records_in rows = each (record_in rows) (row_count rows)

abbrev pub stated_in : List ℕ → Statements
stated_in said = record {
  kinds = each (R.kind_in said) (said_count said);
  lefts = each (R.left_in said) (said_count said);
  rights = each (R.right_in said) (said_count said);
  count = said_count said;
}

-- ---- rows

four-of : (l : List ℕ) (a : ℕ) → a + 4 ≤ length l → take 4 (drop a l) ≡ get_or l (a + 0) 0 ∷ get_or l (a + 1) 0 ∷ get_or l (a + 2) 0 ∷ get_or l (a + 3) 0 ∷ []
four-of l a h =
    let n : length (take 4 (drop a l)) ≡ 4 = omega (arith, length-take 4 (drop a l), length-drop a l) in
    ext_get_or 0 (take 4 (drop a l)) (get_or l (a + 0) 0 ∷ get_or l (a + 1) 0 ∷ get_or l (a + 2) 0 ∷ get_or l (a + 3) 0 ∷ []) n (λ k b. at k (omega arith))
  where
    at : (k : ℕ) → k < 4 → get_or (take 4 (drop a l)) k 0 ≡ get_or (get_or l (a + 0) 0 ∷ get_or l (a + 1) 0 ∷ get_or l (a + 2) 0 ∷ get_or l (a + 3) 0 ∷ []) k 0
    at zero b = get_or-take 4 (drop a l) 0 0 b ∙ get_or-drop a l 0 0
    at (suc zero) b = get_or-take 4 (drop a l) 1 0 b ∙ get_or-drop a l 1 0
    at (suc (suc zero)) b = get_or-take 4 (drop a l) 2 0 b ∙ get_or-drop a l 2 0
    at (suc (suc (suc zero))) b = get_or-take 4 (drop a l) 3 0 b ∙ get_or-drop a l 3 0
    at (suc (suc (suc (suc k)))) b = absurd (omega arith)

module _ (rows : List ℕ) where
  gather-row : (i : ℕ) → i < row_count rows → row_of (record_in rows i) ≡ R.row_in rows i
  gather-row i h =
      ap (λ (l : List ℕ). record { symbol = R.symbol_in rows i; args = take (R.count_in rows i) l }) (sym (four-of rows (i * row_size + 2) (omega arith)))

  gather-at : (i : ℕ) → i < row_count rows → get_or (records_in rows) i no_row ≡ record_in rows i
  gather-at i h = each_at_lem (record_in rows) (row_count rows) i no_row h

  gather-length : length (records_in rows) ≡ row_count rows
  gather-length = each-length (record_in rows) (row_count rows)

  gather-rows : map row_of (records_in rows) ≡ R.rows_of rows
  gather-rows =
      ext_get_or row₀ (map row_of (records_in rows)) (R.rows_of rows) (length-map (records_in rows) row_of ∙ gather-length ∙ sym (length-rows rows)) (λ i h.
      let l : i < row_count rows = omega (arith, length-map (records_in rows) row_of, gather-length) in
      get_or-map row_of (records_in rows) i no_row ∙ ap row_of (gather-at i l) ∙ gather-row i l ∙ sym (rows-at rows i l))

-- ---- statements

module _ (said : List ℕ) where
  abbrev sides : ℕ → Statement
  sides i = statement_of (get_or (stated_in said).kinds i 0) (get_or (stated_in said).lefts i 0) (get_or (stated_in said).rights i 0)

  gather-said : statements_from (stated_in said).kinds (stated_in said).lefts (stated_in said).rights (said_count said) ≡ R.statements_of said
  gather-said =
      from_each (stated_in said) (said_count said)
      ∙ ext_get_or (same 0 0) (each sides (said_count said)) (R.statements_of said) (each-length sides (said_count said) ∙ sym (length-statements said)) (λ i h.
      let l : i < said_count said = omega (arith, each-length sides (said_count said)) in
      each_at_lem sides (said_count said) i (same 0 0) l
      ∙ rw (each_at_lem (R.kind_in said) (said_count said) i 0 l, each_at_lem (R.left_in said) (said_count said) i 0 l, each_at_lem (R.right_in said) (said_count said) i 0 l)
      (sym (statements-at said i (same 0 0) l)))

-- ---- one context, and well-formed alike

module _ (rows said : List ℕ) where
  pub gather-context : context_of (records_in rows) (stated_in said) ≡ R.context_of rows said
  unfolding context_of
  gather-context = ap₂ (λ (x : List M.Row) (y : List Statement). record { rows = x; statements = y }) (gather-rows rows) (gather-said said)

  pub gather-fit : FitContext most_rows most_statements rows said → FitRows (records_in rows) (stated_in said)
  gather-fit f =
      record {
        rows_few = omega (arith, gather-length rows, f.rows_few);
        statements-few = f.said-few;
        counts-few = λ i h. let l : i < row_count rows = omega (arith, gather-length rows) in rw (gather-at rows i l) (f.counts-few i l);
        fit = rw gather-context f.fit;
      }

  pub fit-gather : FitRows (records_in rows) (stated_in said) → FitContext most_rows most_statements rows said
  fit-gather f =
      record {
        rows_few = omega (arith, gather-length rows, f.rows_few);
        said-few = f.statements-few;
        counts-few = λ i h. rw (gather-at rows i h) at (f.counts-few i (omega (arith, gather-length rows)));
        fit = rw gather-context at f.fit;
      }

  pub closes-gathered : (a : Answer) (t : List ℕ) → ClosesRows (records_in rows) (stated_in said) a t → Closes most_rows most_statements rows said a t
  closes-gathered A.Closed t p = (fit-gather p.0, subst (λ (c : Context). Promise c most_rows t) gather-context p.1)
  closes-gathered A.Unfit t p = (λ f. p.0 (gather-fit f), p.1)

  pub finds-gathered : (k : ClauseColumns) (r : Option Reply) → FindsRows (records_in rows) (stated_in said) k r
      → FindsRuns rows said (patterns_laid k) (literals_laid k) r
  finds-gathered k r p =
      record {
        judges =
            judges-alike _ _ _ _ (context_of (records_in rows) (stated_in said)) (R.context_of rows said) (rule_of k) r fit-gather gather-fit (λ q. q.fit)
            (λ q. record { fit = q }) (λ f. gather-context) p.judges;
      }
