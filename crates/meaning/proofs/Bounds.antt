-- Bounds: where the first faulty line can be, and how long a normal text can be.
--     Bounded, read-bounded  a refusal of a text names a line after at most as many as can be taken, a number from 1 to 7, and a byte up to 65,535
--     narrow-place           that line is the 846th at the latest
--     normal-bytes           a normal text has at most 7,898 bytes
-- Assumes nothing.
use mathlib.Core.Bool.{Bool, true, false}
use mathlib.Core.List.{List, [], ◌∷◌, ◌++◌, map}
use mathlib.Core.Path.{◌≡◌, refl, sym, ◌∙◌, subst}
use Prim.Native.Nat.{ℕ, zero, suc, ◌+◌, ◌*◌, ◌/◌, ◌%◌, ◌≤◌}
use native.Mathlib.Omega.{arith}
use lib.Dec.{eqb}
use borrow.Author.Tests.{eq-eqb}
use lib.ListN.{length, length-append, length-map}
use Rattle.meaning.specs.Context.{differ, differences, Context, same, Row, Statement}
use Rattle.meaning.specs.Text.{Line, Limits, row, pattern, literal, Read, rows_of, patterns_of, put, Entry, put_context, put_clause, statement, first_fault, tests_of, fields, Refusal, read_lines, read, faulty, nothing_read, lines_of, narrow, linefeed, furthest, offset_of}
use Rattle.meaning.specs.Writing.{frame, hex, rows_text, statements_text, joins, insert, sooner, sorted, context_text, normal_of, lower_first}
use Rattle.meaning.proofs.Lists.{length-snoc}
use Rattle.meaning.proofs.Lines.{fault_in, kind_in, entry_in, passed, read_step, read-stop, length-hex, Each}
use Rattle.meaning.proofs.Kept.{Kept, line_kept, nothing-kept, RowFits, ContextFits}

-- ---- faulty lines
abbrev pub most_lines : Limits → ℕ
most_lines L = L.rows + L.equations + L.differences + L.patterns + L.literals

abbrev lines_in : Read → ℕ
lines_in s = length (rows_of s) + s.ledger.equation_lines + s.ledger.difference_lines + length (patterns_of s) + length s.clause.literals

put-lines : (e : Entry) (s : Read) → lines_in (put e s) ≡ suc (lines_in s)
unfolding put put_context put_clause
put-lines (row r) s = omega (arith, length-snoc (rows_of s) r)
put-lines (statement (same p q)) s = omega arith
put-lines (statement (differ p q)) s = omega arith
put-lines (pattern p) s = omega (arith, length-snoc (patterns_of s) p)
put-lines (literal l) s = omega (arith, length-snoc s.clause.literals l)

first-fault : (n : ℕ) (l : List Bool) → first_fault (suc n) l ≤ n + length l
unfolding first_fault
first-fault n [] = omega arith
first-fault n (true ∷ l) = omega (arith, first-fault (suc n) l)
first-fault n (false ∷ l) = omega arith

fault-number : (L : Limits) (line : Line) (s : Read) → fault_in L line s ≤ 7
unfolding fault_in tests_of
fault-number L line s = first-fault 0 (tests_of L line (fields line.bytes) (kind_in line) (entry_in line) s)

offset-furthest : (n : ℕ) (line : Line) (e : Entry) (s : Read) → offset_of n line e s ≤ furthest
unfolding offset_of
offset-furthest n line e s = omega arith

pub record Bounded (L : Limits) (r : Refusal) : Type 0 where
  pub number_low : 1 ≤ r.number
  pub number_high : r.number ≤ 7
  pub place_low : 1 ≤ r.place
  pub place_high : r.place ≤ suc (most_lines L)
  pub offset_high : r.offset ≤ furthest

lines-bounded : (L : Limits) (n : ℕ) (s : Read) (lines : List Line) (r : Refusal) → n ≡ suc (lines_in s) → Kept L s → read_lines L n s lines ≡ faulty r → Bounded L r
unfolding read_lines
lines-bounded L n s [] r h k e = absurd (let z : ◌≡◌ {A = ℕ} 0 1 = cc in omega arith)
lines-bounded L n s (line ∷ lines) r h k e = go (fault_in L line s) refl (lines-bounded L (suc n) (put (entry_in line) s) lines r)
  where
    go : (f : ℕ) → fault_in L line s ≡ f
        → (suc n ≡ suc (lines_in (put (entry_in line) s)) → Kept L (put (entry_in line) s) → read_lines L (suc n) (put (entry_in line) s) lines ≡ faulty r → Bounded L r)
        → Bounded L r
    go zero z ih = ih (omega (arith, put-lines (entry_in line) s)) (line_kept L line s (passed L line s z) k) (sym (read_step L n s line lines z) ∙ e)
    go (suc f) z ih =
        let o : ℕ = offset_of (suc f) line (entry_in line) s in
        let q : faulty (record { number = suc f; place = n; offset = o }) ≡ faulty r = sym (read-stop L n s line lines f z) ∙ e in
        let v : record { number = suc f; place = n; offset = o } ≡ r = cc in
        let m : suc f ≤ 7 = omega (arith, fault-number L line s) in
        subst (Bounded L) v (record { number_low = omega arith; number_high = m; place_low = omega arith; place_high = omega arith; offset_high = offset-furthest (suc f) line (entry_in line) s })

pub read-bounded : (L : Limits) (text : List ℕ) (r : Refusal) → read L text ≡ faulty r → Bounded L r
unfolding read
read-bounded L text r e = lines-bounded L 1 nothing_read (lines_of text) r refl (nothing-kept L) e

pub narrow-place : (text : List ℕ) (r : Refusal) → read narrow text ≡ faulty r → r.place ≤ 846
narrow-place text r e = (read-bounded narrow text r e).place_high

-- ---- normal texts
length-frame : (l : List ℕ) → length (frame l) ≡ suc (length l * 2)
unfolding frame
length-frame l = omega (arith, length-append (hex l) (linefeed ∷ []), length-hex l)

rows-bytes : (rs : List Row) → Each (RowFits narrow) rs → length (rows_text rs) ≤ length rs * 17
unfolding rows_text
rows-bytes [] h = omega arith
rows-bytes (r ∷ rs) h =
    let l : List ℕ = 1 ∷ r.symbol / 256 ∷ r.symbol % 256 ∷ length r.args ∷ r.args in
    omega (arith, length-append (frame l) (rows_text rs), length-frame l, h.0.0, rows-bytes rs h.1)

statements-bytes : (st : List Statement) → length (statements_text st) ≡ length st * 7
unfolding statements_text
statements-bytes [] = refl
statements-bytes (same p q ∷ st) =
    omega (arith, length-append (frame (2 ∷ p ∷ q ∷ [])) (statements_text st), length-frame (2 ∷ p ∷ q ∷ []), statements-bytes st)
statements-bytes (differ p q ∷ st) =
    omega (arith, length-append (frame (3 ∷ p ∷ q ∷ [])) (statements_text st), length-frame (3 ∷ p ∷ q ∷ []), statements-bytes st)

joins-most : (rep : ℕ → ℕ) (i n : ℕ) → length (joins rep i n) ≤ n
unfolding joins
joins-most rep i zero = omega arith
joins-most rep i (suc n) = go (eqb (rep i) i) refl (joins-most rep (suc i) n)
  where
    go : (z : Bool) → eqb (rep i) i ≡ z → length (joins rep (suc i) n) ≤ n → length (joins rep i (suc n)) ≤ suc n
    go true e h = rw (e, joins) (omega arith)
    go false e h = rw (e, joins) (omega arith)

-- row 0 is its own representative
joins_fewer : (rep : ℕ → ℕ) (n m : ℕ) → rep 0 ≡ 0 → n ≤ suc m → length (joins rep 0 n) ≤ m
unfolding joins
joins_fewer rep zero m e h = omega arith
joins_fewer rep (suc n) m e h = rw (eq-eqb (rep 0) 0 e, joins) (omega (arith, joins-most rep 1 n))

insert-most : (p : ℕ × ℕ) (l : List (ℕ × ℕ)) → length (insert p l) ≤ suc (length l)
unfolding insert
insert-most p [] = omega arith
insert-most p (q ∷ l) = go (sooner p q) (sooner q p) refl refl (insert-most p l)
  where
    go : (x y : Bool) → sooner p q ≡ x → sooner q p ≡ y → length (insert p l) ≤ suc (length l) → length (insert p (q ∷ l)) ≤ suc (suc (length l))
    go true y e f h = rw (e, insert) (omega arith)
    go false true e f h = rw (e, f, insert) (omega arith)
    go false false e f h = rw (e, f, insert) (omega arith)

sorted-most : (l : List (ℕ × ℕ)) → length (sorted l) ≤ length l
unfolding sorted
sorted-most [] = omega arith
sorted-most (p ∷ l) = omega (arith, insert-most p (sorted l), sorted-most l)

-- 255 rows of 17 bytes, 254 equations and 255 differences of 7
pub normal-bytes : (rep : ℕ → ℕ) (c : Context) → ContextFits narrow c → rep 0 ≡ 0 → length (context_text (normal_of rep c)) ≤ 7898
unfolding normal_of context_text
normal-bytes rep c f e =
    let n : ℕ = length c.rows in
    let pairs : List (ℕ × ℕ) = map (lower_first rep) (differences c) in
    let joined : List Statement = joins rep 0 n in
    let parted : List Statement = map (λ p. differ p.0 p.1) (sorted pairs) in
    let rows : _ = rows-bytes c.rows f.rows_fit in
    let parts : length parted ≤ 255 =
    omega (arith, length-map (sorted pairs) (λ p. differ p.0 p.1), sorted-most pairs, length-map (differences c) (lower_first rep), f.few_differences) in
    omega (arith, length-append (rows_text c.rows) (statements_text (joined ++ parted)), statements-bytes (joined ++ parted), length-append joined parted, joins_fewer rep n 254 e f.few_rows, f.few_rows)
