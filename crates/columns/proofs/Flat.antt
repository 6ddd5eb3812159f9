-- Well-formedness of what columns say is well-formedness of each place of the columns.
--     context-decides, clause-decides      from answers about the places to the answer about the whole
-- Assumes nothing.
-- ---- the arguments of a row
use mathlib.Core.Bool.{Bool, true, false}
use mathlib.Core.List.{List, [], ◌∷◌}
use mathlib.Core.Path.{◌≡◌, refl, ◌∙◌}
use Prim.Native.Nat.{ℕ, zero, suc, ◌+◌, ◌*◌, ◌≤◌, ◌<◌}
use native.Mathlib.Omega.{arith}
use lib.Dec.{eqb}
use borrow.Author.Tests.{eqb-true, eqb-false, eq-eqb, ne_eqb}
use lib.ListN.{length, get_or, drop, length-take, length-drop}
use lib.Seq.{get_or-take, get_or-drop}
use Rattle.meaning.specs.Context.{row₀, Statement, same, differ, equations_of, differences_of}
use Rattle.meaning.specs.Rules.{Pattern, variable, apply, Literal, equal, Below}
use Rattle.meaning.specs.Formed.{Ordered, Within, Placed, AllPlaced, Names, NamesAll}
use Rattle.meaning.specs.Columns.{args_at, row_from, rows_from, statement_of, statements_from, context_from, pattern_of, patterns_from, literal_of, literals_from}
use Rattle.meaning.proofs.Lists.{below_at}
use Rattle.meaning.proofs.Built.{build, build-length, build-at, statement_at, literal_at, pattern_in, rows-build, statements-build, patterns-build, literals-build, length-rows}
use Rattle.columns.specs.Fit.{Decides, Every, Earlier, PlacedAt, NamedAt, PatternAt, FitContext, FitClause}

below_of : (n : ℕ) (l : List ℕ) → ((k : ℕ) → k < length l → get_or l k 0 < n) → Below n l
below_of n [] h = tt
below_of n (a ∷ l) h = (h 0 (omega arith), below_of n l (λ k b. h (suc k) (omega arith)))

module _ (counts args : List ℕ) (i : ℕ) where
  pub arg-at : (k : ℕ) → k < get_or counts i 0 → get_or (args_at counts args i) k 0 ≡ get_or args (i * 4 + k) 0
  arg-at k h = get_or-take (get_or counts i 0) (drop (i * 4) args) k 0 h ∙ get_or-drop (i * 4) args k 0

  args-fewer : length (args_at counts args i) ≤ get_or counts i 0
  args-fewer = omega (arith, length-take (get_or counts i 0) (drop (i * 4) args))

  pub args-length : i * 4 + get_or counts i 0 ≤ length args → length (args_at counts args i) ≡ get_or counts i 0
  args-length h = omega (arith, length-take (get_or counts i 0) (drop (i * 4) args), length-drop (i * 4) args)

  placed_below : Every (get_or counts i 0) (Earlier args i) → Below i (args_at counts args i)
  placed_below e =
      below_of i (args_at counts args i) (λ k b. let h : k < get_or counts i 0 = omega (arith, args-fewer) in rw (arg-at k h) (e.each k h))

  below-placed : i * 4 + get_or counts i 0 ≤ length args → Below i (args_at counts args i) → Every (get_or counts i 0) (Earlier args i)
  below-placed l b =
      record { each = λ k h. rw (arg-at k h) at (below_at i (args_at counts args i) b k (omega (arith, args-length l))) }

-- ---- rows

rows-ordered : (symbols counts args : List ℕ) (n : ℕ) → Every n (PlacedAt counts args) → Ordered (rows_from symbols counts args n)
rows-ordered symbols counts args n e =
    rw (rows-build symbols counts args n)
    (λ i h. let b : i < n = omega (arith, build-length (row_from symbols counts args) n) in
    rw (build-at (row_from symbols counts args) n i row₀ b) (placed_below counts args i (e.each i b).earlier))

ordered-rows : (symbols counts args : List ℕ) (n : ℕ) → n * 4 ≤ length args → ((i : ℕ) → i < n → get_or counts i 0 ≤ 4)
    → Ordered (rows_from symbols counts args n) → Every n (PlacedAt counts args)
ordered-rows symbols counts args n l few o = record { each = λ i h. record { few = few i h; earlier = one i h } }
  where
    o' : Ordered (build (row_from symbols counts args) n)
    o' = rw (rows-build symbols counts args n) at o

    one : (i : ℕ) → i < n → Every (get_or counts i 0) (Earlier args i)
    one i h =
        below-placed counts args i (omega (arith, few i h))
        (rw (build-at (row_from symbols counts args) n i row₀ h) at (o' i (omega (arith, build-length (row_from symbols counts args) n))))

-- ---- statements

abbrev Sided : ℕ → Statement → Type 0
Sided n (same p q) = (p < n) × (q < n)
Sided n (differ p q) = (p < n) × (q < n)

abbrev AllSided : ℕ → List Statement → Type 0
AllSided n [] = Unit {0}
AllSided n (s ∷ l) = Sided n s × AllSided n l

sided-of : (n : ℕ) (l : List Statement) → ((j : ℕ) → j < length l → Sided n (get_or l j (same 0 0))) → AllSided n l
sided-of n [] h = tt
sided-of n (s ∷ l) h = (h 0 (omega arith), sided-of n l (λ j b. h (suc j) (omega arith)))

sided-at : (n : ℕ) (l : List Statement) → AllSided n l → (j : ℕ) → j < length l → Sided n (get_or l j (same 0 0))
sided-at n [] a j h = absurd (omega arith)
sided-at n (s ∷ l) a zero h = a.0
sided-at n (s ∷ l) a (suc j) h = sided-at n l a.1 j (omega arith)

within-cons : (n p q : ℕ) (l : List (ℕ × ℕ)) → (p < n) × (q < n) → Within n l → Within n ((p, q) ∷ l)
within-cons n p q l a w zero h = a
within-cons n p q l a w (suc k) h = w k (omega arith)

sided-equations : (n : ℕ) (l : List Statement) → AllSided n l → Within n (equations_of l)
unfolding equations_of
sided-equations n [] a = λ k h. absurd (omega arith)
sided-equations n (same p q ∷ l) a = within-cons n p q (equations_of l) a.0 (sided-equations n l a.1)
sided-equations n (differ p q ∷ l) a = sided-equations n l a.1

sided-differences : (n : ℕ) (l : List Statement) → AllSided n l → Within n (differences_of l)
unfolding differences_of
sided-differences n [] a = λ k h. absurd (omega arith)
sided-differences n (same p q ∷ l) a = sided-differences n l a.1
sided-differences n (differ p q ∷ l) a = within-cons n p q (differences_of l) a.0 (sided-differences n l a.1)

within-sided : (n : ℕ) (l : List Statement) → Within n (equations_of l) → Within n (differences_of l) → AllSided n l
unfolding equations_of differences_of
within-sided n [] e d = tt
within-sided n (same p q ∷ l) e d = (e 0 (omega arith), within-sided n l (λ k h. e (suc k) (omega arith)) d)
within-sided n (differ p q ∷ l) e d = (d 0 (omega arith), within-sided n l e (λ k h. d (suc k) (omega arith)))

statement-sided : (n kind p q : ℕ) → p < n → q < n → Sided n (statement_of kind p q)
unfolding statement_of
statement-sided n kind p q h l = go (eqb kind 2) refl
  where
    go : (b : Bool) → eqb kind 2 ≡ b → Sided n (statement_of kind p q)
    go true e = rw (e, statement_of) (h, l)
    go false e = rw (e, statement_of) (h, l)

sided-statement : (n kind p q : ℕ) → Sided n (statement_of kind p q) → (p < n) × (q < n)
unfolding statement_of
sided-statement n kind p q s = go (eqb kind 2) refl
  where
    go : (b : Bool) → eqb kind 2 ≡ b → (p < n) × (q < n)
    go true e = rw (e, statement_of) at s
    go false e = rw (e, statement_of) at s

module _ (kinds lefts rights : List ℕ) (n m : ℕ) where
  statements-sided : Every m (NamedAt lefts rights n) → AllSided n (statements_from kinds lefts rights m)
  statements-sided e =
      rw (statements-build kinds lefts rights m)
      (sided-of n (build (statement_at kinds lefts rights) m) (λ j h.
      let b : j < m = omega (arith, build-length (statement_at kinds lefts rights) m) in
      rw (build-at (statement_at kinds lefts rights) m j (same 0 0) b)
      (statement-sided n (get_or kinds j 0) (get_or lefts j 0) (get_or rights j 0) (e.each j b).left (e.each j b).right)))

  sided-statements : AllSided n (statements_from kinds lefts rights m) → Every m (NamedAt lefts rights n)
  sided-statements a = record { each = λ j h. pair j (one j h) }
    where
      one : (j : ℕ) → j < m → (get_or lefts j 0 < n) × (get_or rights j 0 < n)
      one j h =
          sided-statement n (get_or kinds j 0) (get_or lefts j 0) (get_or rights j 0)
          (rw (build-at (statement_at kinds lefts rights) m j (same 0 0) h) at
          (sided-at n (build (statement_at kinds lefts rights) m) (rw (statements-build kinds lefts rights m) at a) j (omega (arith, build-length (statement_at kinds lefts rights) m))))

      pair : (j : ℕ) → (get_or lefts j 0 < n) × (get_or rights j 0 < n) → NamedAt lefts rights n j
      pair j p = record { left = p.0; right = p.1 }

-- ---- the context

module _ (symbols counts args : List ℕ) (rows : ℕ) (kinds lefts rights : List ℕ) (statements : ℕ) where
  pub context-fit : rows ≤ 255 → statements ≤ 510 → Every rows (PlacedAt counts args) → Every statements (NamedAt lefts rights rows)
      → FitContext symbols counts args rows kinds lefts rights statements
  unfolding context_from
  context-fit r s p q =
      let a : AllSided rows (statements_from kinds lefts rights statements) = statements-sided kinds lefts rights rows statements q in
      let e : length (rows_from symbols counts args rows) ≡ rows = length-rows symbols counts args rows in
      record {
        rows_few = r;
        statements-few = s;
        counts-few = λ i h. (p.each i h).few;
        fit = record {
          ordered = rows-ordered symbols counts args rows p;
          within = rw e (sided-equations rows (statements_from kinds lefts rights statements) a);
          apart = rw e (sided-differences rows (statements_from kinds lefts rights statements) a);
        };
      }

  module _ (f : FitContext symbols counts args rows kinds lefts rights statements) where
    pub fit-rows : rows * 4 ≤ length args → Every rows (PlacedAt counts args)
    unfolding context_from
    fit-rows l = ordered-rows symbols counts args rows l f.counts-few f.fit.ordered

    pub fit-statements : Every statements (NamedAt lefts rights rows)
    unfolding context_from
    fit-statements =
        let e : length (rows_from symbols counts args rows) ≡ rows = length-rows symbols counts args rows in
        sided-statements kinds lefts rights rows statements
        (within-sided rows (statements_from kinds lefts rights statements) (rw e at f.fit.within) (rw e at f.fit.apart))

  pub context-decides : {r : Bool} → rows ≤ 255 → statements ≤ 510 → Every rows (PlacedAt counts args)
      → Decides r (Every statements (NamedAt lefts rights rows)) → Decides r (FitContext symbols counts args rows kinds lefts rights statements)
  context-decides r s p d = record { holds = λ e. context-fit r s p (d.holds e); sure = λ f. d.sure (fit-statements f) }

-- ---- pattern rows

all_placed-of : (i : ℕ) (ps : List Pattern) → ((k : ℕ) → k < length ps → Placed (i + k) (get_or ps k (variable 0))) → AllPlaced i ps
all_placed-of i [] h = tt
all_placed-of i (p ∷ ps) h =
    (let e : i + 0 ≡ i = omega arith in rw e at (h 0 (omega arith)), all_placed-of (suc i) ps (λ k b. let e : suc i + k ≡ i + suc k = omega arith in rw e (h (suc k) (omega arith))))

pub all_placed-at : (i : ℕ) (ps : List Pattern) → AllPlaced i ps → (k : ℕ) → k < length ps → Placed (i + k) (get_or ps k (variable 0))
all_placed-at i [] a k h = absurd (omega arith)
all_placed-at i (p ∷ ps) a zero h = let e : i + 0 ≡ i = omega arith in rw e a.0
all_placed-at i (p ∷ ps) a (suc k) h = let e : suc i + k ≡ i + suc k = omega arith in rw e at (all_placed-at (suc i) ps a.1 k (omega arith))

module _ (kinds heads counts args : List ℕ) where
  pub pattern-at-variable : (i : ℕ) → get_or kinds i 0 ≡ 4 → pattern_in kinds heads counts args i ≡ variable (get_or heads i 0)
  unfolding pattern_of
  pattern-at-variable i e = rw (eq-eqb (get_or kinds i 0) 4 e, pattern_of)

  pub pattern-at-symbol : (i : ℕ) → (get_or kinds i 0 ≡ 4 → ⊥) → pattern_in kinds heads counts args i ≡ apply (get_or heads i 0) (args_at counts args i)
  unfolding pattern_of
  pattern-at-symbol i n = rw (ne_eqb (get_or kinds i 0) 4 n, pattern_of)

  pub patterns-placed : (n : ℕ) → Every n (PatternAt kinds heads counts args) → AllPlaced 0 (patterns_from kinds heads counts args n)
  patterns-placed n e =
      rw (patterns-build kinds heads counts args n)
      (all_placed-of 0 (build (pattern_in kinds heads counts args) n) (λ k h.
      let b : k < n = omega (arith, build-length (pattern_in kinds heads counts args) n) in
      rw (build-at (pattern_in kinds heads counts args) n k (variable 0) b) (let z : 0 + k ≡ k = omega arith in rw z (one k (e.each k b) (eqb (get_or kinds k 0) 4) refl))))
    where
      one : (k : ℕ) → PatternAt kinds heads counts args k → (b : Bool) → eqb (get_or kinds k 0) 4 ≡ b → Placed k (pattern_in kinds heads counts args k)
      one k p true q = rw (pattern-at-variable k (eqb-true (get_or kinds k 0) 4 q)) tt
      one k p false q =
          rw (pattern-at-symbol k (eqb-false (get_or kinds k 0) 4 q)) (placed_below counts args k (p.symbol (eqb-false (get_or kinds k 0) 4 q)).earlier)

  placed-patterns : (n : ℕ) → n * 4 ≤ length args → ((i : ℕ) → i < n → get_or kinds i 0 ≡ 4 → get_or heads i 0 < 4)
      → ((i : ℕ) → i < n → (get_or kinds i 0 ≡ 4 → ⊥) → get_or counts i 0 ≤ 4) → AllPlaced 0 (patterns_from kinds heads counts args n)
      → Every n (PatternAt kinds heads counts args)
  placed-patterns n l vars few a =
      record { each = λ i h. record { variable = vars i h; symbol = λ q. record { few = few i h q; earlier = one i h q } } }
    where
      one : (i : ℕ) → i < n → (get_or kinds i 0 ≡ 4 → ⊥) → Every (get_or counts i 0) (Earlier args i)
      one i h q =
          let z : 0 + i ≡ i = omega arith in
          below-placed counts args i (omega (arith, few i h q))
          (rw (z, pattern-at-symbol i q) at (rw (build-at (pattern_in kinds heads counts args) n i (variable 0) h) at
          (all_placed-at 0 (build (pattern_in kinds heads counts args) n) (rw (patterns-build kinds heads counts args n) at a) i (omega (arith, build-length (pattern_in kinds heads counts args) n)))))

-- ---- literals

names_all-of : (n : ℕ) (l : List Literal) → ((j : ℕ) → j < length l → Names n (get_or l j (equal 0 0))) → NamesAll n l
names_all-of n [] h = tt
names_all-of n (x ∷ l) h = (h 0 (omega arith), names_all-of n l (λ j b. h (suc j) (omega arith)))

names_all-at : (n : ℕ) (l : List Literal) → NamesAll n l → (j : ℕ) → j < length l → Names n (get_or l j (equal 0 0))
names_all-at n [] a j h = absurd (omega arith)
names_all-at n (x ∷ l) a zero h = a.0
names_all-at n (x ∷ l) a (suc j) h = names_all-at n l a.1 j (omega arith)

literal-names : (n kind p q : ℕ) → p < n → q < n → Names n (literal_of kind p q)
unfolding literal_of
literal-names n kind p q h l = go (eqb kind 6) refl
  where
    go : (b : Bool) → eqb kind 6 ≡ b → Names n (literal_of kind p q)
    go true e = rw (e, literal_of) (h, l)
    go false e = rw (e, literal_of) (h, l)

names-literal : (n kind p q : ℕ) → Names n (literal_of kind p q) → (p < n) × (q < n)
unfolding literal_of
names-literal n kind p q s = go (eqb kind 6) refl
  where
    go : (b : Bool) → eqb kind 6 ≡ b → (p < n) × (q < n)
    go true e = rw (e, literal_of) at s
    go false e = rw (e, literal_of) at s

module _ (kinds lefts rights : List ℕ) (n m : ℕ) where
  literals-named : Every m (NamedAt lefts rights n) → NamesAll n (literals_from kinds lefts rights m)
  literals-named e =
      rw (literals-build kinds lefts rights m)
      (names_all-of n (build (literal_at kinds lefts rights) m) (λ j h.
      let b : j < m = omega (arith, build-length (literal_at kinds lefts rights) m) in
      rw (build-at (literal_at kinds lefts rights) m j (equal 0 0) b)
      (literal-names n (get_or kinds j 0) (get_or lefts j 0) (get_or rights j 0) (e.each j b).left (e.each j b).right)))

  named-literals : NamesAll n (literals_from kinds lefts rights m) → Every m (NamedAt lefts rights n)
  named-literals a = record { each = λ j h. pair j (one j h) }
    where
      one : (j : ℕ) → j < m → (get_or lefts j 0 < n) × (get_or rights j 0 < n)
      one j h =
          names-literal n (get_or kinds j 0) (get_or lefts j 0) (get_or rights j 0)
          (rw (build-at (literal_at kinds lefts rights) m j (equal 0 0) h) at
          (names_all-at n (build (literal_at kinds lefts rights) m) (rw (literals-build kinds lefts rights m) at a) j (omega (arith, build-length (literal_at kinds lefts rights) m))))

      pair : (j : ℕ) → (get_or lefts j 0 < n) × (get_or rights j 0 < n) → NamedAt lefts rights n j
      pair j p = record { left = p.0; right = p.1 }

-- ---- the clause

module _ (kinds heads counts args : List ℕ) (patterns : ℕ) (literals lefts rights : List ℕ) (count : ℕ) where
  pub clause-fit : patterns ≤ 64 → count ≤ 16 → Every patterns (PatternAt kinds heads counts args) → Every count (NamedAt lefts rights patterns)
      → FitClause kinds heads counts args patterns literals lefts rights count
  clause-fit p l e n =
      record {
        patterns-few = p;
        literals-few = l;
        variables-few = λ i h. (e.each i h).variable;
        counts-few = λ i h q. ((e.each i h).symbol q).few;
        placed = patterns-placed kinds heads counts args patterns e;
        named = literals-named literals lefts rights patterns count n;
      }

  module _ (f : FitClause kinds heads counts args patterns literals lefts rights count) where
    pub fit-patterns : patterns * 4 ≤ length args → Every patterns (PatternAt kinds heads counts args)
    fit-patterns l = placed-patterns kinds heads counts args patterns l f.variables-few f.counts-few f.placed

    pub fit-literals : Every count (NamedAt lefts rights patterns)
    fit-literals = named-literals literals lefts rights patterns count f.named

  pub clause-decides : {r : Bool} → patterns ≤ 64 → count ≤ 16 → Every patterns (PatternAt kinds heads counts args)
      → Decides r (Every count (NamedAt lefts rights patterns)) → Decides r (FitClause kinds heads counts args patterns literals lefts rights count)
  clause-decides p l e d = record { holds = λ q. clause-fit p l e (d.holds q); sure = λ f. d.sure (fit-literals f) }
