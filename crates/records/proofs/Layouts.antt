-- Records and the runs made of them hold the same context, and are well-formed alike.
--     laid-rows, laid_said                the rows that the run of a table says, and the statements that the run of statements says
--     laid-context                        so records and runs say one context
--     laid-fit, fit-laid                  and are well-formed alike, whatever the records: too many are in neither
--     row-unread, rows-unread, unread     argument places from the count on are not read
-- Assumes nothing.
use mathlib.Core.Bool.{Bool, true, false}
use mathlib.Core.List.{List, [], ◌∷◌, ◌++◌, map}
use mathlib.Core.Path.{◌≡◌, refl, sym, ap, ap₂, ◌∙◌}
use Prim.Native.Nat.{ℕ, zero, suc, ◌≤◌, ◌<◌}
use native.Mathlib.Omega.{arith}
use borrow.Author.Tests.{le-ltb, ltb-true, ltb-false}
use lib.Dec.{ltb}
use lib.ListN.{length, get_or, take, drop, replicate, length-take, length-map, get_or-map, get_or-append}
use lib.Seq.{get_or-take, ext_get_or, take-length}
use Rattle.meaning.specs.Context as M
use Rattle.meaning.specs.Context.{row₀, Statement}
use Rattle.meaning.specs.Columns.{statement_of, statements_from}
use Rattle.runs.specs.Fit.{FitContext}
use Rattle.runs.specs.Limits.{most_rows, most_statements, row_size, said_size}
use Rattle.runs.specs.Runs as R
use Rattle.runs.specs.Runs.{each, row_count, said_count, count_in}
use Rattle.runs.proofs.Saying.{each-length, each_at_lem}
use Rattle.records.specs.declared.Row.{Row}
use Rattle.records.specs.declared.Statements.{Statements}
use Rattle.records.specs.declared.Table.{Table}
use Rattle.records.specs.Records.{no_row, four_of, row_of, context_of, FitRows}
use Rattle.records.specs.Layouts.{room, list_of, told, row_piece, said_piece, rows_laid, said_laid}
use Rattle.records.proofs.Joining.{joined_length, joined_at, joined-rows, joined-said, told-all, told_over}

-- ---- how many

module _ (most count : ℕ) where
  pub told-few : told most count ≤ most → count ≤ most
  told-few h = go (ltb most count) refl
    where
      go : (b : Bool) → ltb most count ≡ b → count ≤ most
      go false e = ltb-false most count e
      go true e = absurd (omega (arith, told_over most count (ltb-true most count e)))

rows-counted : (t : Table) → row_count (rows_laid t) ≡ told most_rows t.count
rows-counted t = omega (arith, joined_length (row_piece t.rows) row_size (λ i. refl) (told most_rows t.count))

said-counted : (s : Statements) → said_count (said_laid s) ≡ told most_statements s.count
said-counted s = omega (arith, joined_length (said_piece s) said_size (λ i. refl) (told most_statements s.count))

-- ---- what the runs say

pub laid-rows : (t : Table) → R.rows_of (rows_laid t) ≡ each (λ i. row_of (get_or t.rows i no_row)) (told most_rows t.count)
laid-rows t = joined-rows (row_piece t.rows) (λ i. refl) (told most_rows t.count)

pub from_each : (s : Statements) (n : ℕ) → statements_from s.kinds s.lefts s.rights n ≡ each (λ i. statement_of (get_or s.kinds i 0) (get_or s.lefts i 0) (get_or s.rights i 0)) n
unfolding statements_from each
from_each s zero = refl
from_each s (suc n) = rw (from_each s n)

pub laid_said : (s : Statements) → s.count ≤ most_statements → R.statements_of (said_laid s) ≡ statements_from s.kinds s.lefts s.rights s.count
laid_said s h =
    joined-said (said_piece s) (λ i. refl) (told most_statements s.count)
    ∙ rw (sym (told-all most_statements s.count h)) (sym (from_each s s.count))

-- ---- records by value

-- the records, and blank ones up to the most
abbrev padded : List Row → List Row
padded rows = rows ++ drop (length rows) (replicate most_rows no_row)

listed-rows : (rows : List Row) → length rows ≤ most_rows → (list_of rows).rows ≡ padded rows
unfolding list_of room
listed-rows rows h = rw (le-ltb most_rows (length rows) h, room, take-length rows)

listed-count : (rows : List Row) → (list_of rows).count ≡ length rows
unfolding list_of
listed-count rows = refl

module _ (rows : List Row) (few : length rows ≤ most_rows) where
  listed_at : (i : ℕ) → i < length rows → get_or (list_of rows).rows i no_row ≡ get_or rows i no_row
  listed_at i h = rw (listed-rows rows few) (get_or-append rows (drop (length rows) (replicate most_rows no_row)) no_row i h)

  many : told most_rows (list_of rows).count ≡ length rows
  many = rw (listed-count rows) (sym (told-all most_rows (length rows) few))

  mapped : each (λ i. row_of (get_or (list_of rows).rows i no_row)) (length rows) ≡ map row_of rows
  mapped =
      ext_get_or row₀ _ _ (each-length _ (length rows) ∙ sym (length-map rows row_of)) (λ i h.
      let l : i < length rows = rw (each-length (λ i. row_of (get_or (list_of rows).rows i no_row)) (length rows)) at h in
      each_at_lem _ (length rows) i row₀ l ∙ ap row_of (listed_at i l) ∙ sym (get_or-map row_of rows i no_row))

  pub listed-say : R.rows_of (rows_laid (list_of rows)) ≡ map row_of rows
  listed-say = laid-rows (list_of rows) ∙ rw many mapped

  listed-counts : (i : ℕ) → i < length rows → count_in (rows_laid (list_of rows)) i ≡ (get_or rows i no_row).count
  listed-counts i h =
      joined_at (row_piece (list_of rows).rows) row_size (λ j. refl) (told most_rows (list_of rows).count) i 1 (rw many h) (omega arith)
      ∙ ap (λ (r : Row). r.count) (listed_at i h)

-- ---- one context, and well-formed alike

module _ (rows : List Row) (s : Statements) where
  pub laid-context : length rows ≤ most_rows → s.count ≤ most_statements → R.context_of (rows_laid (list_of rows)) (said_laid s) ≡ context_of rows s
  unfolding context_of
  laid-context few h = ap₂ (λ (x : List M.Row) (y : List Statement). record { rows = x; statements = y }) (listed-say rows few) (laid_said s h)

  pub laid-fit : FitContext most_rows most_statements (rows_laid (list_of rows)) (said_laid s) → FitRows rows s
  laid-fit f =
      let t : told most_rows (list_of rows).count ≤ most_rows = omega (arith, f.rows_few, rows-counted (list_of rows)) in
      let few : length rows ≤ most_rows = told-few most_rows (length rows) (rw (listed-count rows) at t) in
      let less : s.count ≤ most_statements = told-few most_statements s.count (omega (arith, f.said-few, said-counted s)) in
      record {
        rows_few = few;
        statements-few = less;
        counts-few = λ i h. rw (listed-counts rows few i h) at (f.counts-few i (omega (arith, rows-counted (list_of rows), many rows few)));
        fit = rw (laid-context few less) at f.fit;
      }

  pub fit-laid : FitRows rows s → FitContext most_rows most_statements (rows_laid (list_of rows)) (said_laid s)
  fit-laid f =
      record {
        rows_few = omega (arith, rows-counted (list_of rows), many rows f.rows_few, f.rows_few);
        said-few = omega (arith, said-counted s, told-all most_statements s.count f.statements-few, f.statements-few);
        counts-few = λ i h.
            let l : i < length rows = omega (arith, rows-counted (list_of rows), many rows f.rows_few) in
            rw (listed-counts rows f.rows_few i l) (f.counts-few i l);
        fit = rw (laid-context f.rows_few f.statements-few) f.fit;
      }

four-at : (r : Row) (k : ℕ) → k < 4 → get_or (four_of r) k 0 ≡ get_or r.args k 0
four-at r zero h = refl
four-at r (suc zero) h = refl
four-at r (suc (suc zero)) h = refl
four-at r (suc (suc (suc zero))) h = refl
four-at r (suc (suc (suc (suc k)))) h = absurd (omega arith)

-- ---- what is not read

-- a count over 4 takes all four places
pub row-unread : (r r' : Row) → r.symbol ≡ r'.symbol → r.count ≡ r'.count → ((k : ℕ) → k < r.count → get_or r.args k 0 ≡ get_or r'.args k 0)
    → row_of r ≡ row_of r'
row-unread r r' f c a = ap₂ (λ (x : ℕ) (l : List ℕ). record { symbol = x; args = l }) f same
  where
    same : take r.count (four_of r) ≡ take r'.count (four_of r')
    same =
        rw (sym c)
        (ext_get_or 0 (take r.count (four_of r)) (take r.count (four_of r')) (length-take r.count (four_of r) ∙ sym (length-take r.count (four_of r'))) (λ k h.
        let b : k < r.count = omega (arith, length-take r.count (four_of r)) in
        let l : k < 4 = omega (arith, length-take r.count (four_of r)) in
        get_or-take r.count (four_of r) k 0 b ∙ four-at r k l ∙ a k b ∙ sym (get_or-take r.count (four_of r') k 0 b ∙ four-at r' k l)))

-- two records that say the same, whatever stands in the places that are not read
pub record Alike (r r' : Row) : Type 0 where
  pub symbol : r.symbol ≡ r'.symbol
  pub count : r.count ≡ r'.count
  pub arg : (k : ℕ) → k < r.count → get_or r.args k 0 ≡ get_or r'.args k 0

pub rows-unread : (rows rows' : List Row) → length rows ≡ length rows' → ((i : ℕ) → i < length rows → Alike (get_or rows i no_row) (get_or rows' i no_row))
    → (map row_of rows ≡ map row_of rows') × (map (λ r. r.count) rows ≡ map (λ r. r.count) rows')
rows-unread [] [] e a = (refl, refl)
rows-unread [] (r' ∷ rows') e a = absurd (omega arith)
rows-unread (r ∷ rows) [] e a = absurd (omega arith)
rows-unread (r ∷ rows) (r' ∷ rows') e a = go (a 0 (omega arith)) (rows-unread rows rows' (omega arith) (λ i h. a (suc i) (omega arith)))
  where
    go : Alike r r' → (map row_of rows ≡ map row_of rows') × (map (λ q. q.count) rows ≡ map (λ q. q.count) rows')
        → (map row_of (r ∷ rows) ≡ map row_of (r' ∷ rows')) × (map (λ q. q.count) (r ∷ rows) ≡ map (λ q. q.count) (r' ∷ rows'))
    go b p = (ap₂ ◌∷◌ (row-unread r r' b.symbol b.count b.arg) p.0, ap₂ ◌∷◌ b.count p.1)

module _ (rows rows' : List Row) (s : Statements) (e : map row_of rows ≡ map row_of rows') (c : map (λ r. r.count) rows ≡ map (λ r. r.count) rows') where
  unread-context : context_of rows s ≡ context_of rows' s
  unfolding context_of
  unread-context = ap (λ (l : List M.Row). record { rows = l; statements = statements_from s.kinds s.lefts s.rights s.count }) e

  unread-fit : FitRows rows s → FitRows rows' s
  unread-fit f =
      record {
        rows_few = omega (arith, f.rows_few, long);
        statements-few = f.statements-few;
        counts-few = λ i h. rw (sym (counted i)) (f.counts-few i (omega (arith, long)));
        fit = rw unread-context at f.fit;
      }
    where
      long : length rows ≡ length rows'
      long = sym (length-map rows row_of) ∙ ap length e ∙ length-map rows' row_of

      counted : (i : ℕ) → (get_or rows i no_row).count ≡ (get_or rows' i no_row).count
      counted i = sym (get_or-map (λ r. r.count) rows i no_row) ∙ ap (λ (l : List ℕ). get_or l i 0) c ∙ get_or-map (λ r. r.count) rows' i no_row

  pub unread : (context_of rows s ≡ context_of rows' s) × (FitRows rows s → FitRows rows' s)
  unread = (unread-context, unread-fit)
