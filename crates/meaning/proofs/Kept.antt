-- What reading keeps: whatever a text is taken as is within the limits, and has the rank of its last line.
--     ContextFits, ClauseFits  no more lines of a group than the limits allow, counts and variables within them, fields of one and of two bytes
--     Kept, read_kept          what is taken fits, and its statements were counted rightly
--     line_kept, nothing-kept  the same, line by line
--     equation-more ..         a statement more makes one equation or one difference more
--     rank_held, read-ranked    the rank is that of the last kind of line that there is
--     rank-row, rank-statement the rank after a row, and after a statement
-- Assumes nothing.
use mathlib.Core.Bool.{Bool, true, ◌&&◌}
use mathlib.Core.List.{List, [], ◌∷◌, ◌++◌, append-nil}
use mathlib.Core.Path.{◌≡◌, refl, ap, ◌∙◌, subst}
use Prim.Native.Nat.{ℕ, zero, suc, ◌%◌, ◌≤◌, ◌<◌}
use native.Mathlib.Omega.{arith}
use lib.Dec.{eqb, ltb, leb}
use borrow.Author.Tests.{ltb-true, leb-true}
use lib.ListN.{length, drop}
use Rattle.meaning.specs.Context.{Row, differ, Context, equations, differences, Statement, equations_of, same, differences_of}
use Rattle.meaning.specs.Rules.{Below, variable, apply, Pattern, Literal, Clause}
use Rattle.meaning.specs.Text.{digit, fields, legible, Line, non_digit, is_nowhere, first_failing, field_at, Entry, row, statement, pattern, literal, symbol_in, Kind, entry_of, context_row, equation, difference, variable_pattern, symbol_pattern, equal_literal, unequal_literal, Limits, Read, clause_of, room, put, put_context, put_clause, rows_of, patterns_of, nothing_read, read, taken, ranked, rank_of}
use Rattle.meaning.proofs.Logic.{and-true-left, and-true-right}
use Rattle.meaning.proofs.Lists.{length-snoc}
use Rattle.meaning.proofs.Lines.{Each, nowhere-each, each_snoc, Passes, entry_in, kind_in, read_keeps}
use Rattle.meaning.proofs.Taken.{equations-append, differences-append}

-- ---- fields of one byte, symbols of two
digits-below : (l : List ℕ) → Each (λ b. ltb (digit b) 16 ≡ true) l → Below 256 (fields l)
unfolding fields
digits-below [] h = tt
digits-below (a ∷ []) h = tt
digits-below (a ∷ b ∷ l) h = (omega (arith, ltb-true (digit a) 16 h.0, ltb-true (digit b) 16 h.1.0), digits-below l h.1.1)

legible-below : (line : Line) → legible line ≡ true → Below 256 (fields line.bytes)
unfolding legible non_digit
legible-below line e =
    let digits : Bool = is_nowhere (first_failing (λ b. ltb (digit b) 16) 0 line.bytes) in
    let even : Bool = eqb (length line.bytes % 2) 0 in
    digits-below line.bytes (nowhere-each (λ b. ltb (digit b) 16) 0 line.bytes
    (and-true-left digits even (and-true-left (digits && even) (ltb 0 (length line.bytes) && line.ended) e)))

field_below : (l : List ℕ) (i : ℕ) → Below 256 l → field_at l i < 256
field_below [] i h = omega arith
field_below (a ∷ l) zero h = h.0
field_below (a ∷ l) (suc i) h = field_below l i h.1

below-drop : (n i : ℕ) (l : List ℕ) → Below n l → Below n (drop i l)
below-drop n zero l h = h
below-drop n (suc i) [] h = tt
below-drop n (suc i) (a ∷ l) h = below-drop n i l h.1

-- a symbol of two bytes over arguments of one
abbrev pub Bytes : ℕ → List ℕ → Type 0
Bytes f l = (f < 65536) × Below 256 l

abbrev Small : Entry → Type 0
Small (row r) = Bytes r.symbol r.args
Small (statement l) = Unit {0}
Small (pattern (variable v)) = Unit {0}
Small (pattern (apply f l)) = Bytes f l
Small (literal l) = Unit {0}

fields-bytes : (l : List ℕ) → Below 256 l → Bytes (symbol_in l) (drop 4 l)
fields-bytes l h = (omega (arith, field_below l 1 h, field_below l 2 h), below-drop 256 4 l h)

entry-small : (k : Kind) (l : List ℕ) → Below 256 l → Small (entry_of k l)
unfolding entry_of
entry-small context_row l h = fields-bytes l h
entry-small equation l h = tt
entry-small difference l h = tt
entry-small variable_pattern l h = tt
entry-small symbol_pattern l h = fields-bytes l h
entry-small equal_literal l h = tt
entry-small unequal_literal l h = tt

-- ---- the limits
abbrev pub RowFits : Limits → Row → Type 0
RowFits L r = (length r.args ≤ L.count) × Bytes r.symbol r.args

abbrev pub PatternFits : Limits → Pattern → Type 0
PatternFits L (variable v) = v ≤ L.variable
PatternFits L (apply f l) = (length l ≤ L.count) × Bytes f l

pub record ContextFits (L : Limits) (c : Context) : Type 0 where
  pub few_rows : length c.rows ≤ L.rows
  pub few_equations : length (equations c) ≤ L.equations
  pub few_differences : length (differences c) ≤ L.differences
  pub rows_fit : Each (RowFits L) c.rows

pub record ClauseFits (L : Limits) (k : Clause) : Type 0 where
  pub few_patterns : length k.patterns ≤ L.patterns
  pub few_literals : length k.literals ≤ L.literals
  pub patterns_fit : Each (PatternFits L) k.patterns

-- as many lines were counted as there are
pub record Kept (L : Limits) (s : Read) : Type 0 where
  pub equation_lines : s.ledger.equation_lines ≡ length (equations s.ledger.context)
  pub difference_lines : s.ledger.difference_lines ≡ length (differences s.ledger.context)
  pub context_fits : ContextFits L s.ledger.context
  pub clause_fits : ClauseFits L s.clause

pattern-kept : (L : Limits) (p : Pattern) (k : Clause) → length k.patterns < L.patterns → PatternFits L p → ClauseFits L k
    → ClauseFits L (clause_of (k.patterns ++ (p ∷ [])) k.literals)
pattern-kept L p k h b f =
    record {
      few_patterns = omega (arith, length-snoc k.patterns p);
      few_literals = f.few_literals;
      patterns_fit = each_snoc (PatternFits L) k.patterns p f.patterns_fit b;
    }

-- how a statement more is counted
pub equation-more : (st : List Statement) (p q : ℕ)
    → (length (equations_of (st ++ (same p q ∷ []))) ≡ suc (length (equations_of st))) × (length (differences_of (st ++ (same p q ∷ []))) ≡ length (differences_of st))
unfolding equations_of differences_of
equation-more st p q = (ap length (equations-append st (same p q ∷ [])) ∙ length-snoc (equations_of st) (p, q), ap length (differences-append st (same p q ∷ []) ∙ append-nil (differences_of st)))

pub difference-more : (st : List Statement) (p q : ℕ)
    → (length (equations_of (st ++ (differ p q ∷ []))) ≡ length (equations_of st)) × (length (differences_of (st ++ (differ p q ∷ []))) ≡ suc (length (differences_of st)))
unfolding equations_of differences_of
difference-more st p q = (ap length (equations-append st (differ p q ∷ []) ∙ append-nil (equations_of st)), ap length (differences-append st (differ p q ∷ [])) ∙ length-snoc (differences_of st) (p, q))

room-both : (n m i j : ℕ) → (ltb n m && leb i j) ≡ true → (n < m) × (i ≤ j)
room-both n m i j e = (ltb-true n m (and-true-left (ltb n m) (leb i j) e), leb-true i j (and-true-right (ltb n m) (leb i j) e))

put-kept : (L : Limits) (e : Entry) (s : Read) → room L e s ≡ true → Small e → Kept L s → Kept L (put e s)
unfolding room put put_context put_clause
put-kept L (row r) s h b k =
    let m : _ = room-both (length (rows_of s)) L.rows (length r.args) L.count h in
    record {
      equation_lines = k.equation_lines;
      difference_lines = k.difference_lines;
      context_fits =
          record {
            few_rows = omega (arith, length-snoc (rows_of s) r);
            few_equations = k.context_fits.few_equations;
            few_differences = k.context_fits.few_differences;
            rows_fit = each_snoc (RowFits L) (rows_of s) r k.context_fits.rows_fit (m.1, b);
          };
      clause_fits = k.clause_fits;
    }
put-kept L (statement (same p q)) s h b k =
    let n : s.ledger.equation_lines < L.equations = ltb-true _ _ h in
    let m : _ = equation-more s.ledger.context.statements p q in
    record {
      equation_lines = omega arith;
      difference_lines = omega arith;
      context_fits = record { few_rows = k.context_fits.few_rows; few_equations = omega arith; few_differences = omega arith; rows_fit = k.context_fits.rows_fit };
      clause_fits = k.clause_fits;
    }
put-kept L (statement (differ p q)) s h b k =
    let n : s.ledger.difference_lines < L.differences = ltb-true _ _ h in
    let m : _ = difference-more s.ledger.context.statements p q in
    record {
      equation_lines = omega arith;
      difference_lines = omega arith;
      context_fits = record { few_rows = k.context_fits.few_rows; few_equations = omega arith; few_differences = omega arith; rows_fit = k.context_fits.rows_fit };
      clause_fits = k.clause_fits;
    }
put-kept L (pattern (variable v)) s h b k =
    let m : _ = room-both (length (patterns_of s)) L.patterns v L.variable h in
    record {
      equation_lines = k.equation_lines;
      difference_lines = k.difference_lines;
      context_fits = k.context_fits;
      clause_fits = pattern-kept L (variable v) s.clause m.0 m.1 k.clause_fits;
    }
put-kept L (pattern (apply f l)) s h b k =
    let m : _ = room-both (length (patterns_of s)) L.patterns (length l) L.count h in
    record {
      equation_lines = k.equation_lines;
      difference_lines = k.difference_lines;
      context_fits = k.context_fits;
      clause_fits = pattern-kept L (apply f l) s.clause m.0 (m.1, b) k.clause_fits;
    }
put-kept L (literal l) s h b k =
    let n : length s.clause.literals < L.literals = ltb-true _ _ h in
    record {
      equation_lines = k.equation_lines;
      difference_lines = k.difference_lines;
      context_fits = k.context_fits;
      clause_fits =
          record { few_patterns = k.clause_fits.few_patterns; few_literals = omega (arith, length-snoc s.clause.literals l); patterns_fit = k.clause_fits.patterns_fit };
    }

pub line_kept : (L : Limits) (line : Line) (s : Read) → Passes L line s → Kept L s → Kept L (put (entry_in line) s)
line_kept L line s p k = put-kept L (entry_in line) s p.roomy (entry-small (kind_in line) _ (legible-below line p.legibly)) k

pub nothing-kept : (L : Limits) → Kept L nothing_read
unfolding equations_of differences_of
nothing-kept L =
    record {
      equation_lines = refl;
      difference_lines = refl;
      context_fits = record { few_rows = omega arith; few_equations = omega arith; few_differences = omega arith; rows_fit = tt };
      clause_fits = record { few_patterns = omega arith; few_literals = omega arith; patterns_fit = tt };
    }

pub read_kept : (L : Limits) (text : List ℕ) (s : Read) → read L text ≡ taken s → Kept L s
read_kept L text s e = read_keeps L (Kept L) (line_kept L) text s e (nothing-kept L)

-- ---- the rank
unfoldable pub rank_held : List Row → List Statement → List Pattern → List Literal → ℕ
rank_held rs st ps (l ∷ ls) = 4
rank_held rs st (p ∷ ps) [] = 3
rank_held rs (e ∷ st) [] [] = 2
rank_held (r ∷ rs) [] [] [] = 1
rank_held [] [] [] [] = 0

pub record Ranked (s : Read) : Type 0 where
  pub rank_is : s.rank ≡ rank_held (rows_of s) s.ledger.context.statements (patterns_of s) s.clause.literals

pub rank-row : (rs : List Row) (st : List Statement) (ps : List Pattern) (ls : List Literal) (r : Row) → rank_held rs st ps ls ≤ 1
    → 1 ≡ rank_held (rs ++ (r ∷ [])) st ps ls
unfolding rank_held
rank-row rs st ps (l ∷ ls) r h = absurd (omega arith)
rank-row rs st (p ∷ ps) [] r h = absurd (omega arith)
rank-row rs (e ∷ st) [] [] r h = absurd (omega arith)
rank-row (q ∷ rs) [] [] [] r h = refl
rank-row [] [] [] [] r h = refl

pub rank-statement : (rs : List Row) (st : List Statement) (ps : List Pattern) (ls : List Literal) (e : Statement) → rank_held rs st ps ls ≤ 2
    → 2 ≡ rank_held rs (st ++ (e ∷ [])) ps ls
unfolding rank_held
rank-statement rs st ps (l ∷ ls) e h = absurd (omega arith)
rank-statement rs st (p ∷ ps) [] e h = absurd (omega arith)
rank-statement rs (d ∷ st) [] [] e h = refl
rank-statement rs [] [] [] e h = refl

rank-pattern : (rs : List Row) (st : List Statement) (ps : List Pattern) (ls : List Literal) (p : Pattern) → rank_held rs st ps ls ≤ 3
    → 3 ≡ rank_held rs st (ps ++ (p ∷ [])) ls
unfolding rank_held
rank-pattern rs st ps (l ∷ ls) p h = absurd (omega arith)
rank-pattern rs st (q ∷ ps) [] p h = refl
rank-pattern rs st [] [] p h = refl

rank-literal : (rs : List Row) (st : List Statement) (ps : List Pattern) (ls : List Literal) (l : Literal) → 4 ≡ rank_held rs st ps (ls ++ (l ∷ []))
unfolding rank_held
rank-literal rs st ps [] l = refl
rank-literal rs st ps (m ∷ ls) l = refl

put-ranked : (e : Entry) (s : Read) → ranked e s ≡ true → Ranked s → Ranked (put e s)
unfolding ranked put put_context put_clause rank_of
put-ranked (row r) s h k =
    let m : s.rank ≤ 1 = leb-true _ _ h in record { rank_is = rank-row (rows_of s) _ _ _ r (subst (λ (n : ℕ). n ≤ 1) k.rank_is m) }
put-ranked (statement (same p q)) s h k =
    let m : s.rank ≤ 2 = leb-true _ _ h in record { rank_is = rank-statement _ s.ledger.context.statements _ _ (same p q) (subst (λ (n : ℕ). n ≤ 2) k.rank_is m) }
put-ranked (statement (differ p q)) s h k =
    let m : s.rank ≤ 2 = leb-true _ _ h in record { rank_is = rank-statement _ s.ledger.context.statements _ _ (differ p q) (subst (λ (n : ℕ). n ≤ 2) k.rank_is m) }
put-ranked (pattern p) s h k =
    let m : s.rank ≤ 3 = leb-true _ _ h in record { rank_is = rank-pattern _ _ (patterns_of s) _ p (subst (λ (n : ℕ). n ≤ 3) k.rank_is m) }
put-ranked (literal l) s h k = record { rank_is = rank-literal _ _ _ s.clause.literals l }

pub read-ranked : (L : Limits) (text : List ℕ) (s : Read) → read L text ≡ taken s → Ranked s
unfolding rank_held
read-ranked L text s e = read_keeps L Ranked (λ line t p k. put-ranked (entry_in line) t p.rising k) text s e record { rank_is = refl }
