-- Between two lines: what stands, one line later, and where the reading ends.
--     stand-start                          before the first line
--     stand-noted, stand-fits               what the functions on a line ask
--     stand-next                           one line later
--     stop-illegible, stop-refused         a line with a fault
-- Assumes nothing.
use mathlib.Core.Bool.{true}
use mathlib.Core.List.{List, [], ◌∷◌, ◌++◌}
use mathlib.Core.Path.{◌≡◌, refl, sym, ap, subst, ◌∙◌}
use Prim.Native.Nat.{ℕ, ◌+◌, ◌*◌, ◌<◌, ◌≤◌}
use native.Mathlib.Numerals.{add-one}
use native.Mathlib.Nat.{add-zero}
use native.Mathlib.Omega.{arith}
use lib.Dec.{ltb, leb}
use lib.ListN.{length, set, drop, replicate, length-append, length-set, length-replicate}
use borrow.Author.Tests.{ltb-true}
use Rattle.std.specs.Prelude.{Ok, Err}
use Rattle.meaning.specs.Context.{Statement, same, differ}
use Rattle.meaning.specs.Rules.{Pattern, variable, apply}
use Rattle.meaning.specs.Columns.{kind_of, pattern_kind, head_of, args_in}
use Rattle.meaning.specs.Text as M
use Rattle.meaning.specs.Text.{Read, nothing_read, read, read_lines, lines_of, narrow, row, statement, pattern, literal, put, put_context, put_clause, rank_of, rows_of, patterns_of, ledger_of}
use Rattle.meaning.proofs.Logic.{and-true-left}
use Rattle.text_lines.specs.Lines.{Legible, Illegible}
use Rattle.text_lines.specs.declared.entries.Term.{Term}
use Rattle.text_lines.specs.declared.entries.Pair.{Pair}
use Rattle.runs.specs.Limits.{most_rows, most_equations, most_differences, most_patterns, most_literals}
use Rattle.runs.specs.Runs as R
use Rattle.text_runs.specs.Numbers.{row_numbers, said_numbers, pattern_numbers, literal_numbers}
use Rattle.text_reader.specs.Agree.{Noted, Used}
use Rattle.text_reader.specs.Faults.{number_of, byte_of, refusal_of}
use Rattle.text_reader.specs.Lines.{entry_in, fault_in, Adds, AddsBy, EntryIs, Filled, Stands, Faulty}
use Rattle.text_reader.specs.Pieces.{term_numbers, pair_numbers, variable_numbers, no_pieces, with_said, with_literal, with_entry, NoteFits, Fits}
use Rattle.text_reader.specs.State.{start_state, passed_to, after, after_row, after_literal}
use Rattle.text_reader.specs.declared.entries.Entry.{Entry}
use Rattle.text_reader.specs.declared.entries.Entry.TheVariants as E
use Rattle.text_reader.specs.declared.faults.Fault.{Fault}
use Rattle.text_reader.specs.declared.faults.Fault.TheVariants as F
use Rattle.text_reader.specs.declared.pieces.Pieces.{Pieces}
use Rattle.text_reader.specs.declared.state.State.{State}
use Rattle.text_reader.proofs.Agreeing.{used_start, used-row, used-symbol, used-variable, used-same}
use Rattle.text_reader.proofs.Filling.{filled-start, filled_put, put-length}
use Rattle.text_reader.proofs.Turn.{room-passed, turn-taken, turn-faulty, turn-illegible}

zeros : (n : ℕ) → ◌≡◌ {A = List ℕ} (replicate n 0) (replicate (length {A = ℕ} (replicate n 0)) 0)
zeros n = ap {B = List ℕ} (λ (k : ℕ). replicate k 0) (sym (length-replicate {A = ℕ} n 0))

pub stand-start : (text : List ℕ) → Stands text start_state no_pieces
unfolding read
stand-start text =
    record {
      so = nothing_read;
      same = refl;
      inside = omega arith;
      within =
          record {
            rows = omega arith;
            equations = omega arith;
            differences = omega arith;
            patterns = omega arith;
            literals = omega arith;
            terms = omega arith;
            lines = refl;
          };
      knows = record { rank = refl; rows = refl; equations = refl; differences = refl; patterns = refl; literals = refl };
      holds =
          record {
            rows = filled-start 6 _ (zeros 1530);
            said = filled-start 3 _ (zeros 1530);
            patterns = filled-start 7 _ (zeros 448);
            literals = filled-start 3 _ (zeros 48);
          };
      used = used_start _ _;
      space =
          record {
            rows = length-replicate {A = ℕ} 1530 0;
            said = length-replicate {A = ℕ} 1530 0;
            patterns = length-replicate {A = ℕ} 448 0;
            literals = length-replicate {A = ℕ} 48 0;
            symbols = length-replicate {A = ℕ} 319 0;
            counts = length-replicate {A = ℕ} 319 0;
          };
    }

grown : {A : Type 0} (l : List A) (x : A) (n : ℕ) → n ≡ length l → n + 1 ≡ length (l ++ (x ∷ []))
grown l x n e = omega (arith, length-append l (x ∷ []))

-- ---- a statement is an equation or a difference
abbrev equations_in : Statement → ℕ
equations_in (same p q) = 1
equations_in (differ p q) = 0

abbrev differences_in : Statement → ℕ
differences_in (same p q) = 0
differences_in (differ p q) = 1

one-statement : (x : Statement) → equations_in x + differences_in x ≡ 1
one-statement (same p q) = refl
one-statement (differ p q) = refl

equation-one : (x : Statement) → kind_of x ≡ 2 → equations_in x ≡ 1
equation-one (same p q) e = refl
equation-one (differ p q) e = absurd (omega (arith, e))

difference-one : (x : Statement) → kind_of x ≡ 3 → equations_in x ≡ 0
difference-one (same p q) e = absurd (omega (arith, e))
difference-one (differ p q) e = refl

equations-room : (x : Statement) (s : Read) → s.ledger.equation_lines ≤ most_equations → M.room narrow (statement x) s ≡ true → s.ledger.equation_lines + equations_in x ≤ most_equations
unfolding M.room
equations-room (same p q) s h r = omega (arith, ltb-true s.ledger.equation_lines most_equations r)
equations-room (differ p q) s h r = omega arith

differences-room : (x : Statement) (s : Read) → s.ledger.difference_lines ≤ most_differences → M.room narrow (statement x) s ≡ true
    → s.ledger.difference_lines + differences_in x ≤ most_differences
unfolding M.room
differences-room (same p q) s h r = omega arith
differences-room (differ p q) s h r = omega (arith, ltb-true s.ledger.difference_lines most_differences r)

abbrev with_statement : Statement → Read → Read
with_statement x s =
    record {
      rank = 2;
      ledger = ledger_of (rows_of s) (s.ledger.context.statements ++ (x ∷ [])) (s.ledger.equation_lines + equations_in x) (s.ledger.difference_lines + differences_in x);
      clause = s.clause;
    }

put-statement : (x : Statement) (s : Read) → put (statement x) s ≡ with_statement x s
unfolding put put_context put_clause rank_of
put-statement (same p q) s = rw (add-one, add-zero)
put-statement (differ p q) s = rw (add-zero, add-one)

-- ---- a pattern row is a variable or a symbol
pattern-room : (x : Pattern) (s : Read) → M.room narrow (pattern x) s ≡ true → length (patterns_of s) < most_patterns
unfolding M.room
pattern-room (variable v) s r = ltb-true (length (patterns_of s)) most_patterns (and-true-left (ltb (length (patterns_of s)) most_patterns) (leb v 3) r)
pattern-room (apply f l) s r = ltb-true (length (patterns_of s)) most_patterns (and-true-left (ltb (length (patterns_of s)) most_patterns) (leb (length l) 4) r)

used-plain : (x : Pattern) → pattern_kind x ≡ 4 → (fs ks : List ℕ) (n : ℕ) (s : Read) → Used fs ks n s → Used fs ks n (put (pattern x) s)
used-plain (variable v) e fs ks n s u = used-variable fs ks n s u v
used-plain (apply f l) e fs ks n s u = absurd (omega (arith, e))

used-head : (x : Pattern) → pattern_kind x ≡ 5 → (fs ks : List ℕ) (n : ℕ) (s : Read) → Used fs ks n s → (f k : ℕ) → n < length fs → n < length ks
    → head_of x ≡ f → length (args_in x) ≡ k → Used (set fs n f) (set ks n k) (n + 1) (put (pattern x) s)
used-head (variable v) e fs ks n s u f k a b c d = absurd (omega (arith, e))
used-head (apply g l) e fs ks n s u f k a b c d = used-symbol fs ks n s u f k a b g l c d

module _ (text : List ℕ) (s : State) (r : Pieces) (h : Stands text s r) where
  pub stand-noted : Noted r.symbols r.counts s.terms
  stand-noted =
      let w = h.within in
      let p = h.space in
      record {
        symbols = omega (arith, w.terms, w.rows, w.patterns, p.symbols);
        counts = omega (arith, w.terms, w.rows, w.patterns, p.counts);
      }

  pub stop-illegible : (o : ℕ) → Illegible text s.at o → Faulty text (refusal_of s.line (F.Illegible o))
  stop-illegible o b = h.same ∙ turn-illegible text s.at s.line o h.so b

  module _ (end : ℕ) (g : Legible text s.at end) where
    pub stop-refused : (f : Fault) → EntryIs text end s r.symbols r.counts (Err f) → Faulty text (refusal_of s.line f)
    stop-refused f y = h.same ∙ turn-faulty text s.at end g s.line h.so (number_of f) (byte_of f) (y.verdict h.so h.knows h.used)

    -- reading goes on after an entry
    goes_on : (e : M.Entry) → fault_in text s.at end h.so ≡ 0 → entry_in text s.at end ≡ e
        → read narrow text ≡ read_lines narrow (s.line + 1) (put e h.so) (lines_of (drop (end + 1) text))
    goes_on e f i = h.same ∙ turn-taken text s.at end g s.line h.so f ∙ rw (i, add-one s.line)

    room_of : (e : M.Entry) → fault_in text s.at end h.so ≡ 0 → entry_in text s.at end ≡ e → M.room narrow e h.so ≡ true
    room_of e f i = room-passed text s.at end h.so e i f

    abbrev next : State
    next = passed_to s (end + 1)

    -- ---- a row
    module _ (t : Term) (a : Adds row row_numbers 6 text s.at end h.so (term_numbers t)) where
      row_room : s.rows < most_rows
      unfolding M.room
      row_room =
          let x = room_of (row a.made) a.fault a.entry in
          omega (arith, ltb-true (length (rows_of h.so)) most_rows (and-true-left (ltb (length (rows_of h.so)) most_rows) (leb (length a.made.args) 4) x), h.knows.rows)

      row-notes : NoteFits s.terms r
      row-notes =
          let w = h.within in
          let p = h.space in
          record {
            symbols = omega (arith, row_room, w.terms, w.patterns, p.symbols);
            counts = omega (arith, row_room, w.terms, w.patterns, p.counts);
          }

      row_fits : s.rows * 6 + 6 ≤ length r.rows
      row_fits = omega (arith, row_room, h.space.rows)

      row-stands : Stands text (after_row next) (with_entry (E.Row t) s r)
      unfolding put put_context put_clause rank_of
      row-stands =
          let w = h.within in
          let k = h.knows in
          let p = h.space in
          let x : a.made.symbol ≡ t.head = let i = a.piece_is in cc in
          let y : length a.made.args ≡ t.count = let i = a.piece_is in cc in
          record {
            so = put (row a.made) h.so;
            same = goes_on (row a.made) a.fault a.entry;
            inside = omega (arith, g.inside);
            within =
                record {
                  rows = omega (arith, row_room);
                  equations = w.equations;
                  differences = w.differences;
                  patterns = w.patterns;
                  literals = w.literals;
                  terms = omega (arith, w.terms);
                  lines = omega (arith, w.lines);
                };
            knows =
                record {
                  rank = refl;
                  rows = grown (rows_of h.so) a.made s.rows k.rows;
                  equations = k.equations;
                  differences = k.differences;
                  patterns = k.patterns;
                  literals = k.literals;
                };
            holds =
                record {
                  rows = filled_put 6 h.holds.rows a.made (term_numbers t) _ a.piece_is a.long refl;
                  said = h.holds.said;
                  patterns = h.holds.patterns;
                  literals = h.holds.literals;
                };
            used = used-row r.symbols r.counts s.terms h.so h.used t.head t.count row-notes.symbols row-notes.counts a.made x y;
            space =
                record {
                  rows = put-length 6 r.rows s.rows (term_numbers t) _ a.long row_fits refl ∙ p.rows;
                  said = p.said;
                  patterns = p.patterns;
                  literals = p.literals;
                  symbols = length-set r.symbols s.terms t.head ∙ p.symbols;
                  counts = length-set r.counts s.terms t.count ∙ p.counts;
                };
          }

    -- ---- a statement
    module _ (kind : ℕ) (q : Pair) (a : Adds statement said_numbers 3 text s.at end h.so (pair_numbers kind q)) where
      kind-is : kind_of a.made ≡ kind
      kind-is = let i = a.piece_is in cc

      room : M.room narrow (statement a.made) h.so ≡ true
      room = room_of (statement a.made) a.fault a.entry

      few-equations : s.equations + equations_in a.made ≤ most_equations
      few-equations = omega (arith, equations-room a.made h.so (omega (arith, h.knows.equations, h.within.equations)) room, h.knows.equations)

      few-differences : s.differences + differences_in a.made ≤ most_differences
      few-differences = omega (arith, differences-room a.made h.so (omega (arith, h.knows.differences, h.within.differences)) room, h.knows.differences)

      said_fits : (s.equations + s.differences) * 3 + 3 ≤ length r.said
      said_fits = omega (arith, few-equations, few-differences, one-statement a.made, h.space.said)

      module _ (m n : ℕ) (m₀ : m ≡ s.equations + equations_in a.made) (n₀ : n ≡ s.differences + differences_in a.made) where
        abbrev after_said : State
        after_said =
            record {
              at = end + 1;
              line = s.line + 1;
              rank = 2;
              rows = s.rows;
              equations = m;
              differences = n;
              patterns = s.patterns;
              literals = s.literals;
              terms = s.terms;
            }

        said-stands : Stands text after_said (with_said (R.put 3 r.said (s.equations + s.differences) (pair_numbers kind q)) r)
        said-stands =
            let w = h.within in
            let k = h.knows in
            let p = h.space in
            let more : s.equations + s.differences + 1 ≡ m + n = omega (arith, one-statement a.made) in
            record {
              so = with_statement a.made h.so;
              same = goes_on (statement a.made) a.fault a.entry ∙ rw (put-statement a.made h.so);
              inside = omega (arith, g.inside);
              within =
                  record {
                    rows = w.rows;
                    equations = omega (arith, few-equations);
                    differences = omega (arith, few-differences);
                    patterns = w.patterns;
                    literals = w.literals;
                    terms = w.terms;
                    lines = omega (arith, w.lines, one-statement a.made);
                  };
              knows =
                  record {
                    rank = refl;
                    rows = k.rows;
                    equations = omega (arith, k.equations);
                    differences = omega (arith, k.differences);
                    patterns = k.patterns;
                    literals = k.literals;
                  };
              holds =
                  record {
                    rows = h.holds.rows;
                    said =
                        subst (λ (n : ℕ). Filled said_numbers 3 n (h.so.ledger.context.statements ++ (a.made ∷ [])) (R.put 3 r.said (s.equations + s.differences) (pair_numbers kind q))) more
                        (filled_put 3 h.holds.said a.made (pair_numbers kind q) _ a.piece_is refl refl);
                    patterns = h.holds.patterns;
                    literals = h.holds.literals;
                  };
              used = used-same r.symbols r.counts s.terms h.so h.used (with_statement a.made h.so) refl refl;
              space =
                  record {
                    rows = p.rows;
                    said = put-length 3 r.said (s.equations + s.differences) (pair_numbers kind q) _ refl said_fits refl ∙ p.said;
                    patterns = p.patterns;
                    literals = p.literals;
                    symbols = p.symbols;
                    counts = p.counts;
                  };
            }

    -- ---- a pattern row: the symbols noted and the numbers differ by its kind
    module _ (piece : List ℕ) (a : Adds pattern pattern_numbers 7 text s.at end h.so piece) where
      pattern-few : s.patterns < most_patterns
      pattern-few = omega (arith, pattern-room a.made h.so (room_of (pattern a.made) a.fault a.entry), h.knows.patterns)

      pattern-fits : s.patterns * 7 + 7 ≤ length r.patterns
      pattern-fits = omega (arith, pattern-few, h.space.patterns)

      pattern-notes : NoteFits s.terms r
      pattern-notes =
          let w = h.within in
          let p = h.space in
          record { symbols = omega (arith, pattern-few, w.terms, w.rows, p.symbols); counts = omega (arith, pattern-few, w.terms, w.rows, p.counts) }

      module _ (n : ℕ) (fs ks : List ℕ) (n₀ : n ≤ s.terms + 1) (f₀ : length fs ≡ length r.symbols) (k₀ : length ks ≡ length r.counts) where
        abbrev after_pattern : State
        after_pattern =
            record {
              at = end + 1;
              line = s.line + 1;
              rank = 3;
              rows = s.rows;
              equations = s.equations;
              differences = s.differences;
              patterns = s.patterns + 1;
              literals = s.literals;
              terms = n;
            }

        abbrev with_symbols : Pieces
        with_symbols =
            record {
              rows = r.rows;
              said = r.said;
              patterns = R.put 7 r.patterns s.patterns piece;
              literals = r.literals;
              symbols = fs;
              counts = ks;
            }

        pattern-stands : Used fs ks n (put (pattern a.made) h.so) → Stands text after_pattern with_symbols
        unfolding put put_context put_clause rank_of
        pattern-stands u =
            let w = h.within in
            let k = h.knows in
            let p = h.space in
            record {
              so = put (pattern a.made) h.so;
              same = goes_on (pattern a.made) a.fault a.entry;
              inside = omega (arith, g.inside);
              within =
                  record {
                    rows = w.rows;
                    equations = w.equations;
                    differences = w.differences;
                    patterns = omega (arith, pattern-few);
                    literals = w.literals;
                    terms = omega (arith, w.terms);
                    lines = omega (arith, w.lines);
                  };
              knows =
                  record {
                    rank = refl;
                    rows = k.rows;
                    equations = k.equations;
                    differences = k.differences;
                    patterns = grown (patterns_of h.so) a.made s.patterns k.patterns;
                    literals = k.literals;
                  };
              holds =
                  record {
                    rows = h.holds.rows;
                    said = h.holds.said;
                    patterns = filled_put 7 h.holds.patterns a.made piece _ a.piece_is a.long refl;
                    literals = h.holds.literals;
                  };
              used = u;
              space =
                  record {
                    rows = p.rows;
                    said = p.said;
                    patterns = put-length 7 r.patterns s.patterns piece _ a.long pattern-fits refl ∙ p.patterns;
                    literals = p.literals;
                    symbols = f₀ ∙ p.symbols;
                    counts = k₀ ∙ p.counts;
                  };
            }

    -- ---- a literal
    module _ (sign : ℕ) (q : Pair) (a : Adds literal literal_numbers 3 text s.at end h.so (pair_numbers sign q)) where
      literal-few : s.literals < most_literals
      unfolding M.room
      literal-few =
          omega (arith, ltb-true (length h.so.clause.literals) most_literals (room_of (literal a.made) a.fault a.entry), h.knows.literals)

      literal-fits : s.literals * 3 + 3 ≤ length r.literals
      literal-fits = omega (arith, literal-few, h.space.literals)

      literal-stands : Stands text (after_literal next) (with_literal (R.put 3 r.literals s.literals (pair_numbers sign q)) r)
      unfolding put put_context put_clause rank_of
      literal-stands =
          let w = h.within in
          let k = h.knows in
          let p = h.space in
          record {
            so = put (literal a.made) h.so;
            same = goes_on (literal a.made) a.fault a.entry;
            inside = omega (arith, g.inside);
            within =
                record {
                  rows = w.rows;
                  equations = w.equations;
                  differences = w.differences;
                  patterns = w.patterns;
                  literals = omega (arith, literal-few);
                  terms = w.terms;
                  lines = omega (arith, w.lines);
                };
            knows =
                record {
                  rank = refl;
                  rows = k.rows;
                  equations = k.equations;
                  differences = k.differences;
                  patterns = k.patterns;
                  literals = grown h.so.clause.literals a.made s.literals k.literals;
                };
            holds =
                record {
                  rows = h.holds.rows;
                  said = h.holds.said;
                  patterns = h.holds.patterns;
                  literals = filled_put 3 h.holds.literals a.made (pair_numbers sign q) _ a.piece_is refl refl;
                };
            used = used-same r.symbols r.counts s.terms h.so h.used (put (literal a.made) h.so) refl refl;
            space =
                record {
                  rows = p.rows;
                  said = p.said;
                  patterns = p.patterns;
                  literals = put-length 3 r.literals s.literals (pair_numbers sign q) _ refl literal-fits refl ∙ p.literals;
                  symbols = p.symbols;
                  counts = p.counts;
                };
          }

    -- ---- any entry
    entry_fits : (e : Entry) → AddsBy text s.at end h.so e → Fits e s r
    entry_fits (E.Row t) a = (row_fits t a, row-notes t a)
    entry_fits (E.Equation q) a = said_fits 2 q a
    entry_fits (E.Difference q) a = said_fits 3 q a
    entry_fits (E.Variable v) a = pattern-fits (variable_numbers v) a
    entry_fits (E.Symbol t) a = (pattern-fits (5 ∷ term_numbers t) a, pattern-notes (5 ∷ term_numbers t) a)
    entry_fits (E.Equal q) a = literal-fits 6 q a
    entry_fits (E.Unequal q) a = literal-fits 7 q a

    entry_stands : (e : Entry) → AddsBy text s.at end h.so e → Stands text (after e next) (with_entry e s r)
    entry_stands (E.Row t) a = row-stands t a
    entry_stands (E.Equation q) a =
        let e = equation-one a.made (kind-is 2 q a) in
        let o = one-statement a.made in
        said-stands 2 q a (s.equations + 1) s.differences (omega arith) (omega arith)
    entry_stands (E.Difference q) a =
        let e = difference-one a.made (kind-is 3 q a) in
        let o = one-statement a.made in
        said-stands 3 q a s.equations (s.differences + 1) (omega arith) (omega arith)
    entry_stands (E.Variable v) a =
        pattern-stands (variable_numbers v) a s.terms r.symbols r.counts (omega arith) refl refl
        (used-plain a.made (let i = a.piece_is in cc) r.symbols r.counts s.terms h.so h.used)
    entry_stands (E.Symbol t) a =
        let n = pattern-notes (5 ∷ term_numbers t) a in
        let x : pattern_kind a.made ≡ 5 = let i = a.piece_is in cc in
        let y : head_of a.made ≡ t.head = let i = a.piece_is in cc in
        let z : length (args_in a.made) ≡ t.count = let i = a.piece_is in cc in
        pattern-stands (5 ∷ term_numbers t) a (s.terms + 1) (set r.symbols s.terms t.head) (set r.counts s.terms t.count) (omega arith)
        (length-set r.symbols s.terms t.head) (length-set r.counts s.terms t.count)
        (used-head a.made x r.symbols r.counts s.terms h.so h.used t.head t.count n.symbols n.counts y z)
    entry_stands (E.Equal q) a = literal-stands 6 q a
    entry_stands (E.Unequal q) a = literal-stands 7 q a

    module _ (e : Entry) (y : EntryIs text end s r.symbols r.counts (Ok e)) where
      pub stand-fits : Fits e s r
      stand-fits = entry_fits e (y.verdict h.so h.knows h.used)

      pub stand-next : Stands text (after e next) (with_entry e s r)
      stand-next = entry_stands e (y.verdict h.so h.knows h.used)
