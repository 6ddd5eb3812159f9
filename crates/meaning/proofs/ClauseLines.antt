-- Clause lines are read alike after two contexts with the same rows, whatever these state.
--     read-append     reading a text that is taken and then more is to go on from what was taken
--     Beside, extent  two states of reading that clause lines cannot tell apart; how much context was read
--     lines-beside    lines that leave one context as it was are read alike from the other, which they leave as it was
--     rules-alike     rule lines are read without a fault after one context exactly when they are after the other
--     clause-alike    and give the same clause
-- Assumes nothing.
use mathlib.Core.Bool.{true, ◌&&◌}
use mathlib.Core.List.{List, [], ◌∷◌, ◌++◌}
use mathlib.Core.Path.{◌≡◌, refl, ap, ap₂, sym, ◌∙◌, subst}
use mathlib.Core.Logic.{◌⊎◌, inl, inr, ◌↔◌}
use Prim.Native.Nat.{ℕ, suc, ◌+◌, ◌≤◌}
use native.Mathlib.Omega.{arith}
use lib.Dec.{leb, ltb}
use borrow.Author.Tests.{leb-true, le-leb}
use lib.ListN.{length}
use Rattle.meaning.specs.Context.{same, Row, Context, differ, Statement}
use Rattle.meaning.specs.Rules.{Clause, Pattern, Literal, variable, apply}
use Rattle.meaning.specs.Text.{read, Limits, Read, Line, read_lines, taken, put, lines_of, nothing_read, row, rows_of, statement, Entry, put_context, pattern, literal, ranked, rank_of, room, refers, no_row, table_of, is_nowhere, first_failing, named_by, agrees, rows_agree, patterns_agree, put_clause, clause_of, narrow, Ledger}
use Rattle.meaning.specs.Demands.{Bare, Tells}
use Rattle.meaning.proofs.Lists.{length-snoc}
use Rattle.meaning.proofs.Lines.{lines-append, read_first, read_step, passes, entry_in, taken-whole, lines_keep, Passes}
use Rattle.meaning.proofs.Kept.{rank_held, read-ranked}
use Rattle.meaning.proofs.ReadBack.{rank-bare}

-- ---- going on
lines-append-read : (L : Limits) (n : ℕ) (s t : Read) (a b : List Line) → read_lines L n s a ≡ taken t → read_lines L n s (a ++ b) ≡ read_lines L (n + length a) t b
unfolding read_lines
lines-append-read L n s t [] b e = let q : s ≡ t = cc in let z : n + 0 ≡ n = omega arith in rw (z, q) refl
lines-append-read L n s t (line ∷ a) b e =
    let r : _ = read_first L n s line a t e in
    let z : n + suc (length a) ≡ suc n + length a = omega arith in
    read_step L n s line (a ++ b) (passes L line s r.0) ∙ rw z (lines-append-read L (suc n) (put (entry_in line) s) t a b r.1)

pub read-append : (L : Limits) (s w : List ℕ) (t : Read) → read L s ≡ taken t → read L (s ++ w) ≡ read_lines L (suc (length (lines_of s))) t (lines_of w)
unfolding read
read-append L s w t e =
    rw (lines-append s w (taken-whole L s t e)) (lines-append-read L 1 nothing_read t (lines_of s) (lines_of w) e
    ∙ ap (λ (n : ℕ). read_lines L n t (lines_of w)) (omega arith))

-- ---- two states of reading
pub record Beside (s u : Read) : Type 0 where
  pub same_rows : rows_of s ≡ rows_of u
  pub same_clause : s.clause ≡ u.clause
  pub same_rank : (s.rank ≡ u.rank) ⊎ ((s.rank ≤ 2) × (u.rank ≤ 2))

-- how much a context holds: a context line adds to it, and no line takes from it
abbrev pub extent : Read → ℕ
extent s = length (rows_of s) + length s.ledger.context.statements

put-extent : (e : Entry) (s : Read) → extent s ≤ extent (put e s)
unfolding put put_context
put-extent (row r) s = omega (arith, length-snoc (rows_of s) r)
put-extent (statement (same p q)) s = omega (arith, length-snoc s.ledger.context.statements (same p q))
put-extent (statement (differ p q)) s = omega (arith, length-snoc s.ledger.context.statements (differ p q))
put-extent (pattern p) s = omega arith
put-extent (literal l) s = omega arith

lines-extent : (L : Limits) (n : ℕ) (s t : Read) (lines : List Line) → read_lines L n s lines ≡ taken t → extent s ≤ extent t
lines-extent L n s t lines e =
    lines_keep L (λ x. extent s ≤ extent x) (λ line x p h. omega (arith, put-extent (entry_in line) x)) n s t lines e (omega arith)

data OfClause : Entry → Type 0 where
  a_pattern : (p : Pattern) → OfClause (pattern p)
  a_literal : (l : Literal) → OfClause (literal l)

-- a line that adds nothing to the context is a clause line
of-clause : (e : Entry) (s : Read) → extent (put e s) ≤ extent s → OfClause e
unfolding put put_context
of-clause (row r) s h = absurd (omega (arith, length-snoc (rows_of s) r))
of-clause (statement (same p q)) s h = absurd (omega (arith, length-snoc s.ledger.context.statements (same p q)))
of-clause (statement (differ p q)) s h = absurd (omega (arith, length-snoc s.ledger.context.statements (differ p q)))
of-clause (pattern p) s h = a_pattern p
of-clause (literal l) s h = a_literal l

-- the tests of a clause line, from either state
rank-alike : (r n m : ℕ) → (n ≡ m) ⊎ ((n ≤ 2) × (m ≤ 2)) → 3 ≤ r → leb n r ≡ true → leb m r ≡ true
rank-alike r n m (inl q) k h = le-leb m r (omega (arith, leb-true n r h))
rank-alike r n m (inr q) k h = le-leb m r (omega arith)

module _ (L : Limits) (s u : Read) (b : Beside s u) where
  ranked-alike : {e : Entry} → OfClause e → ranked e s ≡ true → ranked e u ≡ true
  unfolding ranked rank_of
  ranked-alike (a_pattern p) h = rank-alike 3 s.rank u.rank b.same_rank (omega arith) h
  ranked-alike (a_literal l) h = rank-alike 4 s.rank u.rank b.same_rank (omega arith) h

  room-alike : {e : Entry} → OfClause e → room L e s ≡ room L e u
  unfolding room
  room-alike (a_pattern (variable v)) = ap (λ (k : Clause). ltb (length k.patterns) L.patterns && leb v L.variable) b.same_clause
  room-alike (a_pattern (apply f l)) = ap (λ (k : Clause). ltb (length k.patterns) L.patterns && leb (length l) L.count) b.same_clause
  room-alike (a_literal l) = ap (λ (k : Clause). ltb (length k.literals) L.literals) b.same_clause

  refers-alike : {e : Entry} → OfClause e → refers e s ≡ refers e u
  unfolding refers no_row table_of
  refers-alike (a_pattern p) = ap (λ (k : Clause). is_nowhere (first_failing (λ r. ltb r (length k.patterns)) 0 (named_by (pattern p)))) b.same_clause
  refers-alike (a_literal l) = ap (λ (k : Clause). is_nowhere (first_failing (λ r. ltb r (length k.patterns)) 0 (named_by (literal l)))) b.same_clause

  agrees-alike : {e : Entry} → OfClause e → agrees e s ≡ agrees e u
  unfolding agrees
  agrees-alike (a_pattern (variable v)) = refl
  agrees-alike (a_pattern (apply f l)) =
      ap₂ ◌&&◌ (ap (λ (rs : List Row). rows_agree f (length l) rs) b.same_rows) (ap (λ (k : Clause). patterns_agree f (length l) k.patterns) b.same_clause)
  agrees-alike (a_literal l) = refl

  passes-alike : (line : Line) → OfClause (entry_in line) → Passes L line s → Passes L line u
  passes-alike line o p =
      record {
        legibly = p.legibly;
        listed = p.listed;
        long = p.long;
        rising = ranked-alike o p.rising;
        roomy = sym (room-alike o) ∙ p.roomy;
        referring = sym (refers-alike o) ∙ p.referring;
        agreeing = sym (agrees-alike o) ∙ p.agreeing;
      }

  put-beside : {e : Entry} → OfClause e → Beside (put e s) (put e u)
  unfolding put put_context
  put-beside {e} (a_pattern p) = record { same_rows = b.same_rows; same_clause = ap (λ (k : Clause). put_clause (pattern p) k) b.same_clause; same_rank = inl refl }
  put-beside {e} (a_literal l) = record { same_rows = b.same_rows; same_clause = ap (λ (k : Clause). put_clause (literal l) k) b.same_clause; same_rank = inl refl }

put-ledger : {e : Entry} (u : Read) → OfClause e → (put e u).ledger ≡ u.ledger
unfolding put put_context
put-ledger u (a_pattern p) = refl
put-ledger u (a_literal l) = refl

-- what reading lines from a state beside another gives
pub record Alongside (L : Limits) (m : ℕ) (u a : Read) (lines : List Line) : Type 0 where
  pub result : Read
  pub reads : read_lines L m u lines ≡ taken result
  pub leaves : result.ledger ≡ u.ledger
  pub clause_is : a.clause ≡ result.clause

pub lines-beside : (L : Limits) (n m : ℕ) (s u a : Read) (lines : List Line) → Beside s u → read_lines L n s lines ≡ taken a → extent a ≤ extent s
    → Alongside L m u a lines
unfolding read_lines
lines-beside L n m s u a [] b e h = record { result = u; reads = refl; leaves = refl; clause_is = let q : s ≡ a = cc in ap (λ (x : Read). x.clause) (sym q) ∙ b.same_clause }
lines-beside L n m s u a (line ∷ lines) b e h =
    let r : _ = read_first L n s line lines a e in
    let k : extent (put (entry_in line) s) ≤ extent a = lines-extent L (suc n) (put (entry_in line) s) a lines r.1 in
    let o : OfClause (entry_in line) = of-clause (entry_in line) s (omega arith) in
    let t : Alongside L (suc m) (put (entry_in line) u) a lines =
    lines-beside L (suc n) (suc m) (put (entry_in line) s) (put (entry_in line) u) a lines (put-beside L s u b o) r.1 (omega (arith, put-extent (entry_in line) s)) in
    record {
      result = t.result;
      reads = read_step L m u line lines (passes L line u (passes-alike L s u b line o r.0)) ∙ t.reads;
      leaves = t.leaves ∙ put-ledger u o;
      clause_is = t.clause_is;
    }

-- ---- rule lines after two bare contexts
bare-rank : (rs : List Row) (st : List Statement) (k : Clause) → k ≡ clause_of [] [] → rank_held rs st k.patterns k.literals ≤ 2
bare-rank rs st k e = subst (λ (x : Clause). rank_held rs st x.patterns x.literals ≤ 2) (sym e) (rank-bare rs st)

module _ (s u w : List ℕ) (c d : Context) (p : Bare s c) (q : Bare u d) (e : c.rows ≡ d.rows) where
  bare-beside : Beside p.tells.all q.tells.all
  bare-beside =
      let x : Read = p.tells.all in
      let y : Read = q.tells.all in
      record {
        same_rows = ap (λ (k : Context). k.rows) p.tells.context ∙ e ∙ sym (ap (λ (k : Context). k.rows) q.tells.context);
        same_clause = p.bare ∙ sym q.bare;
        same_rank =
            inr (
              rw (read-ranked narrow s x p.tells.reads).rank_is (bare-rank (rows_of x) x.ledger.context.statements x.clause p.bare),
              rw (read-ranked narrow u y q.tells.reads).rank_is (bare-rank (rows_of y) y.ledger.context.statements y.clause q.bare),
            );
      }

  told-beside : (t : Tells (s ++ w) c) → Alongside narrow (suc (length (lines_of u))) q.tells.all t.all (lines_of w)
  told-beside t =
      let x : Read = p.tells.all in
      let g : t.all.ledger.context ≡ x.ledger.context = t.context ∙ sym p.tells.context in
      let h : extent t.all ≡ extent x = ap (λ (k : Context). length k.rows + length k.statements) g in
      lines-beside narrow (suc (length (lines_of s))) (suc (length (lines_of u))) x q.tells.all t.all (lines_of w) bare-beside
      (sym (read-append narrow s w x p.tells.reads) ∙ t.reads) (omega arith)

  rules-go : Tells (s ++ w) c → Tells (u ++ w) d
  rules-go t =
      let r : _ = told-beside t in
      record {
        all = r.result;
        reads = read-append narrow u w q.tells.all q.tells.reads ∙ r.reads;
        context = ap (λ (l : Ledger). l.context) r.leaves ∙ q.tells.context;
        consistent = q.tells.consistent;
      }

  pub clause-alike : (t : Tells (s ++ w) c) (v : Tells (u ++ w) d) → t.all.clause ≡ v.all.clause
  clause-alike t v =
      let r : _ = told-beside t in
      let g : taken r.result ≡ taken v.all = sym (read-append narrow u w q.tells.all q.tells.reads ∙ r.reads) ∙ v.reads in
      let h : r.result ≡ v.all = cc in
      r.clause_is ∙ ap (λ (x : Read). x.clause) h

pub rules-alike : (s u w : List ℕ) (c d : Context) → Bare s c → Bare u d → c.rows ≡ d.rows → Tells (s ++ w) c ↔ Tells (u ++ w) d
rules-alike s u w c d p q e = (rules-go s u w c d p q e, rules-go u s w d c q p (sym e))
