-- Well-formedness of the context that runs say is well-formedness of each place of the runs.
--     fit-rows, fit-said          from a well-formed context to its places
--     fit-wider                   what fits limits fits higher ones
--     fit-many .. fit-named       the answers of the test
--     placed_below, named-pair    one place, as a row or a pattern row has it, and as a statement or a literal has it
-- Assumes nothing.
use mathlib.Core.Bool.{Bool, true, false, not}
use mathlib.Core.List.{List, [], ◌∷◌}
use mathlib.Core.Path.{◌≡◌, refl}
use Prim.Native.Nat.{ℕ, zero, suc, ◌+◌, ◌*◌, ◌≤◌, ◌<◌}
use native.Mathlib.Omega.{arith}
use borrow.Author.Rules.{rules}
use borrow.Author.Tests.{not-true, not-false}
use lib.Dec.{eqb}
use lib.ListN.{length, get_or}
use Rattle.meaning.specs.Context.{Statement, same, differ, equations_of, differences_of}
use Rattle.meaning.specs.Rules.{Below}
use Rattle.meaning.specs.Formed.{Ordered, Within}
use Rattle.meaning.specs.Columns.{statement_of}
use Rattle.meaning.proofs.Lists.{below_at}
use Rattle.runs.specs.Limits.{row_size, arg_places}
use Rattle.runs.specs.Runs.{args_from, row_count, said_count, count_in, kind_in, left_in, right_in, rows_of, statements_of}
use Rattle.runs.specs.Fit.{Decides, Every, PlacedAt, RowAt, NamedAt, FitContext}
use Rattle.runs.proofs.Deciding.{decides-false, decides_not}
use Rattle.runs.proofs.Saying.{length-rows, length-statements, rows-at, statements-at, arg-at, args-fewer, args-length}

-- ---- arguments

below_of : (n : ℕ) (l : List ℕ) → ((k : ℕ) → k < length l → get_or l k 0 < n) → Below n l
below_of n [] h = tt
below_of n (a ∷ l) h = (h 0 (omega arith), below_of n l (λ k b. h (suc k) (omega arith)))

module _ (run : List ℕ) (at count i : ℕ) where
  pub placed_below : PlacedAt run at count i → Below i (args_from run at count)
  placed_below p =
      below_of i (args_from run at count) (λ k b.
      let h : k < count = omega (arith, args-fewer run at count) in
      rw (arg-at run at count k h p.few) (p.earlier.each k h))

  pub below-placed : at + arg_places ≤ length run → count ≤ arg_places → Below i (args_from run at count) → PlacedAt run at count i
  below-placed room few b =
      record {
        few = few;
        earlier = record {
          each = λ k h. rw (arg-at run at count k h few) at (below_at i (args_from run at count) b k (omega (arith, args-length run at count room few)));
        };
      }

-- ---- rows

module _ (rows : List ℕ) where
  rows-ordered : Every (row_count rows) (RowAt rows) → Ordered (rows_of rows)
  rows-ordered e i h =
      let b : i < row_count rows = omega (arith, length-rows rows) in
      rw (rows-at rows i b) (placed_below rows (i * row_size + 2) (count_in rows i) i (e.each i b))

  ordered-rows : ((i : ℕ) → i < row_count rows → count_in rows i ≤ arg_places) → Ordered (rows_of rows) → Every (row_count rows) (RowAt rows)
  ordered-rows few o =
      record {
        each = λ i h.
            below-placed rows (i * row_size + 2) (count_in rows i) i (omega arith) (few i h)
            (rw (rows-at rows i h) at (o i (omega (arith, length-rows rows))));
      }

-- ---- statements

abbrev Sided : ℕ → Statement → Type 0
Sided n (same p q) = (p < n) × (q < n)
Sided n (differ p q) = (p < n) × (q < n)

abbrev AllSided : ℕ → List Statement → Type 0
AllSided n [] = Unit {0}
AllSided n (s ∷ l) = Sided n s × AllSided n l

sided-of : (n : ℕ) (l : List Statement) → ((j : ℕ) → j < length l → Sided n (get_or l j (same 0 0))) → AllSided n l
sided-of n [] h = tt
sided-of n (s ∷ l) h = (h 0 (omega arith), sided-of n l (λ j b. h (suc j) (omega arith)))

sided-at : (n : ℕ) (l : List Statement) → AllSided n l → (j : ℕ) → j < length l → Sided n (get_or l j (same 0 0))
sided-at n [] a j h = absurd (omega arith)
sided-at n (s ∷ l) a zero h = a.0
sided-at n (s ∷ l) a (suc j) h = sided-at n l a.1 j (omega arith)

within-cons : (n p q : ℕ) (l : List (ℕ × ℕ)) → (p < n) × (q < n) → Within n l → Within n ((p, q) ∷ l)
within-cons n p q l a w zero h = a
within-cons n p q l a w (suc k) h = w k (omega arith)

sided-equations : (n : ℕ) (l : List Statement) → AllSided n l → Within n (equations_of l)
unfolding equations_of
sided-equations n [] a = λ k h. absurd (omega arith)
sided-equations n (same p q ∷ l) a = within-cons n p q (equations_of l) a.0 (sided-equations n l a.1)
sided-equations n (differ p q ∷ l) a = sided-equations n l a.1

sided-differences : (n : ℕ) (l : List Statement) → AllSided n l → Within n (differences_of l)
unfolding differences_of
sided-differences n [] a = λ k h. absurd (omega arith)
sided-differences n (same p q ∷ l) a = sided-differences n l a.1
sided-differences n (differ p q ∷ l) a = within-cons n p q (differences_of l) a.0 (sided-differences n l a.1)

within-sided : (n : ℕ) (l : List Statement) → Within n (equations_of l) → Within n (differences_of l) → AllSided n l
unfolding equations_of differences_of
within-sided n [] e d = tt
within-sided n (same p q ∷ l) e d = (e 0 (omega arith), within-sided n l (λ k h. e (suc k) (omega arith)) d)
within-sided n (differ p q ∷ l) e d = (d 0 (omega arith), within-sided n l e (λ k h. d (suc k) (omega arith)))

statement-sided : (n kind p q : ℕ) → p < n → q < n → Sided n (statement_of kind p q)
unfolding statement_of
statement-sided n kind p q h l = go (eqb kind 2) refl
  where
    go : (b : Bool) → eqb kind 2 ≡ b → Sided n (statement_of kind p q)
    go true e = rw (e, statement_of) (h, l)
    go false e = rw (e, statement_of) (h, l)

sided-statement : (n kind p q : ℕ) → Sided n (statement_of kind p q) → (p < n) × (q < n)
unfolding statement_of
sided-statement n kind p q s = go (eqb kind 2) refl
  where
    go : (b : Bool) → eqb kind 2 ≡ b → (p < n) × (q < n)
    go true e = rw (e, statement_of) at s
    go false e = rw (e, statement_of) at s

pub named-pair : (said : List ℕ) (n k : ℕ) → (left_in said k < n) × (right_in said k < n) → NamedAt said n k
named-pair said n k p = record { left = p.0; right = p.1 }

module _ (said : List ℕ) (n : ℕ) where
  statements-sided : Every (said_count said) (NamedAt said n) → AllSided n (statements_of said)
  statements-sided e =
      sided-of n (statements_of said) (λ k h.
      let b : k < said_count said = omega (arith, length-statements said) in
      rw (statements-at said k (same 0 0) b)
      (statement-sided n (kind_in said k) (left_in said k) (right_in said k) (e.each k b).left (e.each k b).right))

  sided-statements : AllSided n (statements_of said) → Every (said_count said) (NamedAt said n)
  sided-statements a =
      record {
        each = λ k h.
            named-pair said n k
            (sided-statement n (kind_in said k) (left_in said k) (right_in said k)
            (rw (statements-at said k (same 0 0) h) at (sided-at n (statements_of said) a k (omega (arith, length-statements said)))));
      }

-- ---- the context

module _ (w m : ℕ) (rows said : List ℕ) where
  context-fit : row_count rows ≤ w → said_count said ≤ m → Every (row_count rows) (RowAt rows) → Every (said_count said) (NamedAt said (row_count rows))
      → FitContext w m rows said
  context-fit r s p q =
      let a : AllSided (row_count rows) (statements_of said) = statements-sided said (row_count rows) q in
      let e : length (rows_of rows) ≡ row_count rows = length-rows rows in
      record {
        rows_few = r;
        said-few = s;
        counts-few = λ i h. (p.each i h).few;
        fit = record {
          ordered = rows-ordered rows p;
          within = rw e (sided-equations (row_count rows) (statements_of said) a);
          apart = rw e (sided-differences (row_count rows) (statements_of said) a);
        };
      }

  module _ (f : FitContext w m rows said) where
    pub fit-rows : Every (row_count rows) (RowAt rows)
    fit-rows = ordered-rows rows f.counts-few f.fit.ordered

    pub fit-said : Every (said_count said) (NamedAt said (row_count rows))
    fit-said =
        let e : length (rows_of rows) ≡ row_count rows = length-rows rows in
        sided-statements said (row_count rows)
        (within-sided (row_count rows) (statements_of said) (rw e at f.fit.within) (rw e at f.fit.apart))

    pub fit-wider : (v n : ℕ) → w ≤ v → m ≤ n → FitContext v n rows said
    fit-wider v n a b = record { rows_few = omega (arith, f.rows_few); said-few = omega (arith, f.said-few); counts-few = f.counts-few; fit = f.fit }

  module _ (n : ℕ) (e : n ≡ row_count rows) where
    pub fit-many : w < n → Decides false (FitContext w m rows said)
    fit-many h = decides-false (λ f. omega (arith, f.rows_few))

    pub fit-unplaced : (r : Bool) → Decides r (Every (row_count rows) (RowAt rows)) → not r ≡ true → Decides false (FitContext w m rows said)
    fit-unplaced r d q = decides-false (λ f. decides_not d (not-true r q) (fit-rows f))

    module _ (k : ℕ) (s : k ≡ said_count said) where
      pub fit-much : m < k → Decides false (FitContext w m rows said)
      fit-much h = decides-false (λ f. omega (arith, f.said-few))

      pub fit-named : (q r : Bool) → n ≤ w → k ≤ m → Decides q (Every (row_count rows) (RowAt rows)) → not q ≡ false → Decides r (Every (said_count said) (NamedAt said n))
          → Decides r (FitContext w m rows said)
      fit-named q r hw hm p t d =
          let d' : Decides r (Every (said_count said) (NamedAt said (row_count rows))) = rw e at d in
          record {
            holds = λ y. context-fit (omega arith) (omega arith) (p.holds (not-false q t)) (d'.holds y);
            sure = λ f. d'.sure (fit-said f);
          }

pub ruleset mine = (rules, fit-many, fit-much, fit-unplaced, fit-named)
