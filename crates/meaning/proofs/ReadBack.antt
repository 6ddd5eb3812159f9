-- A written context is read back as it was.
--     holding              what is read of a context with no clause lines after it
--     Bytewise, Writable   what limits and a context have to be like for its text to be read
--     read_back_lem            reading goes through a context's text, and is then to hold that context
--     text-taken           a context's text is taken as that context
--     read-writable        what a text is taken as can be written
--     narrow-bytes         the limits of texts are so
--     rank-rows, rank-bare the highest rank of rows alone, and of a context alone
-- Assumes nothing.
use mathlib.Core.Bool.{Bool, true, false}
use mathlib.Core.List.{List, [], ◌∷◌, ◌++◌, append_assoc, append-nil}
use mathlib.Core.Path.{◌≡◌, refl, ap, sym, ◌∙◌, subst}
use Prim.Native.Nat.{ℕ, suc, ◌+◌, ◌/◌, ◌%◌, ◌≤◌, ◌<◌}
use native.Mathlib.Nat.{div-add-mod', div-lt_iff_lt-mul, mod-lt}
use native.Mathlib.Omega.{arith}
use lib.Dec.{eqb, ltb}
use borrow.Author.Tests.{eqb-true, eq-eqb, lt-ltb, le-leb}
use lib.ListN.{length, length-append}
use lib.Seq.{get_or-append_seam}
use Rattle.meaning.specs.Context.{Row, Statement, equations_of, differ, differences_of, Context, row_at, row₀, same}
use Rattle.meaning.specs.Rules.{Below, Pattern}
use Rattle.meaning.specs.Text.{Read, ledger_of, clause_of, Limits, row, narrow, read, taken, rows_of, patterns_of, Entry, known, sized, listed_as, kinds, entry_of, ranked, room, refers, agrees, read_lines, Line, lines_of, put, fields, context_row, size_of, rows_agree, put_context, put_clause, rank_of, is_listed, no_row, named_by, table_of, patterns_agree, statement, lines_from}
use Rattle.meaning.specs.Writing.{frame, hex, rows_text, statements_text, context_text}
use Rattle.meaning.specs.Formed.{Fit, Ordered, Within}
use Rattle.meaning.proofs.Logic.{and_both}
use Rattle.meaning.proofs.Lines.{Each, each_map, frame-line, read_step, passes, whole, fields-hex, Passes, frame-legible, each-nowhere}
use Rattle.meaning.proofs.Taken.{read-formed, equations-append, differences-append}
use Rattle.meaning.proofs.Kept.{rank_held, ContextFits, read_kept, RowFits, rank-row, equation-more, rank-statement, difference-more}
use Rattle.meaning.proofs.Counts.{Agreed, RowCounted, read-agreed, RowSays}

-- ---- lists around an element
each_first : {A : Type 0} (P : A → Type 0) (l m : List A) → Each P (l ++ m) → Each P l
each_first P [] m h = tt
each_first P (a ∷ l) m h = (h.0, each_first P l m h.1)

each-seam : {A : Type 0} (P : A → Type 0) (l : List A) (a : A) (m : List A) → Each P (l ++ (a ∷ m)) → P a
each-seam P [] a m h = h.0
each-seam P (b ∷ l) a m h = each-seam P l a m h.1

below_each : (n : ℕ) (l : List ℕ) → Below n l → Each (λ a. ltb a n ≡ true) l
below_each n [] h = tt
below_each n (a ∷ l) h = (lt-ltb a n h.0, below_each n l h.1)

-- ---- what is held, and what can be written
unfoldable pub holding : List Row → List Statement → Read
holding rs st =
    record { rank = rank_held rs st [] []; ledger = ledger_of rs st (length (equations_of st)) (length (differences_of st)); clause = clause_of [] [] }

-- a row's number and a count take one byte
pub record Bytewise (L : Limits) : Type 0 where
  pub rows_byte : L.rows ≤ 256
  pub count_byte : L.count < 256

pub narrow-bytes : Bytewise narrow
narrow-bytes = record { rows_byte = omega arith; count_byte = omega arith }

pub record Writable (L : Limits) (c : Context) : Type 0 where
  pub fit : Fit c
  pub fits : ContextFits L c
  pub agreed : Agreed c.rows []

agreed-rows : (rs : List Row) (ps : List Pattern) → Agreed rs ps → Agreed rs []
agreed-rows rs ps a =
    record {
      of_rows = each_map (RowCounted rs ps) (RowCounted rs []) rs (λ r c. record { in_rows = c.in_rows; in_patterns = tt }) a.of_rows;
      of_patterns = tt;
    }

pub read-writable : (L : Limits) (text : List ℕ) (s : Read) → read L text ≡ taken s → Writable L s.ledger.context
read-writable L text s e =
    record {
      fit = (read-formed L text s e).fit;
      fits = (read_kept L text s e).context_fits;
      agreed = agreed-rows (rows_of s) (patterns_of s) (read-agreed L text s e);
    }

-- ---- a frame that is read
module _ (L : Limits) (n b : ℕ) (l w : List ℕ) (s : Read) (e : Entry) where
  frame-read : Below 256 (b ∷ l) → known (b ∷ l) ≡ true → sized (listed_as b kinds) (b ∷ l) ≡ true → entry_of (listed_as b kinds) (b ∷ l) ≡ e
      → ranked e s ≡ true → room L e s ≡ true → refers e s ≡ true → agrees e s ≡ true
      → read_lines L n s (lines_of (frame (b ∷ l) ++ w)) ≡ read_lines L (suc n) (put e s) (lines_of w)
  frame-read h t2 t3 q t4 t5 t6 t7 = rw (frame-line (b ∷ l) w) (read_step L n s line (lines_of w) (passes L line s all) ∙ rw (f, q) refl)
    where
      line : Line
      line = whole (hex (b ∷ l))

      f : fields line.bytes ≡ b ∷ l
      f = fields-hex (b ∷ l) h

      all : Passes L line s
      all =
          record {
            legibly = frame-legible b l h;
            listed = rw f t2;
            long = rw f t3;
            rising = rw (f, q) t4;
            roomy = rw (f, q) t5;
            referring = rw (f, q) t6;
            agreeing = rw (f, q) t7;
          }

-- ---- rows
abbrev row_bytes : Row → List ℕ
row_bytes r = 1 ∷ r.symbol / 256 ∷ r.symbol % 256 ∷ length r.args ∷ r.args

row-bytes : (L : Limits) (r : Row) → Bytewise L → RowFits L r → Below 256 (row_bytes r)
row-bytes L r y h =
    let a : r.symbol / 256 < 256 = (div-lt_iff_lt-mul {k = 256} {x = r.symbol} {y = 256} (omega arith)).1 h.1.0 in
    (omega arith, (a, (mod-lt r.symbol (omega arith), (omega arith, h.1.1))))

row_sized : (r : Row) → sized context_row (row_bytes r) ≡ true
unfolding sized size_of
row_sized r = eq-eqb (length (row_bytes r)) (4 + length r.args) (omega arith)

row-entry : (r : Row) → entry_of context_row (row_bytes r) ≡ row r
unfolding entry_of
row-entry r = ap (λ (f : ℕ). row (record { symbol = f; args = r.args })) (div-add-mod' r.symbol 256)

pub rank-rows : (rs : List Row) → rank_held rs [] [] [] ≤ 1
unfolding rank_held
rank-rows [] = omega arith
rank-rows (r ∷ rs) = omega arith

pub rank-bare : (rs : List Row) (st : List Statement) → rank_held rs st [] [] ≤ 2
unfolding rank_held
rank-bare rs (e ∷ st) = omega arith
rank-bare (r ∷ rs) [] = omega arith
rank-bare [] [] = omega arith

rows_agree_lem : (f n : ℕ) (rs : List Row) → Each (RowSays f n) rs → rows_agree f n rs ≡ true
unfolding rows_agree
rows_agree_lem f n [] h = refl
rows_agree_lem f n (r ∷ rs) h = go (eqb r.symbol f) refl (rows_agree_lem f n rs h.1)
  where
    go : (z : Bool) → eqb r.symbol f ≡ z → rows_agree f n rs ≡ true → rows_agree f n (r ∷ rs) ≡ true
    go true e t = rw (e, t, eq-eqb (length r.args) n (h.0 (eqb-true r.symbol f e)))
    go false e t = rw (e, t)

put-row-holding : (rs : List Row) (r : Row) → put (row r) (holding rs []) ≡ holding (rs ++ (r ∷ [])) []
unfolding holding put put_context put_clause rank_of
put-row-holding rs r = rw (← rank-row rs [] [] [] r (rank-rows rs))

module _ (L : Limits) (y : Bytewise L) (n : ℕ) where
  row_back : (rs : List Row) (r : Row) (w : List ℕ) → RowFits L r → length rs < L.rows → Below (length rs) r.args
      → Each (RowSays r.symbol (length r.args)) rs
      → read_lines L n (holding rs []) (lines_of (frame (row_bytes r) ++ w)) ≡ read_lines L (suc n) (holding (rs ++ (r ∷ [])) []) (lines_of w)
  unfolding known is_listed listed_as ranked room refers no_row named_by table_of agrees patterns_agree holding rank_of
  row_back rs r w h k b c =
      frame-read L n 1 _ w (holding rs []) (row r) (row-bytes L r y h) refl (row_sized r) (row-entry r)
      (le-leb (rank_held rs [] [] []) 1 (rank-rows rs))
      (and_both _ _ (lt-ltb (length rs) L.rows k) (le-leb (length r.args) L.count h.0))
      (each-nowhere (λ a. ltb a (length rs)) 0 r.args (below_each (length rs) r.args b))
      (and_both _ _ (rows_agree_lem r.symbol (length r.args) rs c) refl)
      ∙ ap (λ (s : Read). read_lines L (suc n) s (lines_of w)) (put-row-holding rs r)

-- the rows of a table, those before them read
module _ (L : Limits) (y : Bytewise L) (all : List Row) (few : length all ≤ L.rows) (o : Ordered all) (f : Each (RowFits L) all) (a : Agreed all []) where
  rows_back : (n : ℕ) (done rs : List Row) (w : List ℕ) → done ++ rs ≡ all
      → read_lines L n (holding done []) (lines_of (rows_text rs ++ w)) ≡ read_lines L (n + length rs) (holding all []) (lines_of w)
  unfolding rows_text
  rows_back n done [] w e =
      let z : n + 0 ≡ n = omega arith in
      let q : done ≡ all = sym (append-nil done) ∙ e in
      rw (z, q) refl
  rows_back n done (r ∷ rs) w e =
      let k : length done < length (done ++ (r ∷ rs)) = omega (arith, length-append done (r ∷ rs)) in
      let m : length done < L.rows = omega (arith, ap length e) in
      let g : row_at (done ++ (r ∷ rs)) (length done) ≡ r = get_or-append_seam done r rs row₀ in
      let b : Below (length done) r.args = subst (λ (x : Row). Below (length done) x.args) g (subst Ordered (sym e) o (length done) k) in
      let h : RowFits L r = each-seam (RowFits L) done r rs (rw (sym e) at f) in
      let c : RowCounted all [] r = each-seam (RowCounted all []) done r rs (subst (λ (x : List Row). Each (RowCounted all []) x) (sym e) a.of_rows) in
      let d : Each (RowSays r.symbol (length r.args)) done = each_first (RowSays r.symbol (length r.args)) done (r ∷ rs) (rw (sym e) at c.in_rows) in
      let z : n + suc (length rs) ≡ suc n + length rs = omega arith in
      rw append_assoc (row_back L y n done r (rows_text rs ++ w) h m b d ∙ rw z (rows_back (suc n) (done ++ (r ∷ [])) rs w (append_assoc done (r ∷ []) rs ∙ e)))

-- ---- statements
-- both sides stand below n
abbrev Named : ℕ → Statement → Type 0
Named n (same p q) = (p < n) × (q < n)
Named n (differ p q) = (p < n) × (q < n)

put-same-holding : (rs : List Row) (st : List Statement) (p q : ℕ) → put (statement (same p q)) (holding rs st) ≡ holding rs (st ++ (same p q ∷ []))
unfolding holding put put_context put_clause rank_of
put-same-holding rs st p q =
    let m : _ = equation-more st p q in
    rw (← rank-statement rs st [] [] (same p q) (rank-bare rs st), m.0, m.1)

put-differ-holding : (rs : List Row) (st : List Statement) (p q : ℕ) → put (statement (differ p q)) (holding rs st) ≡ holding rs (st ++ (differ p q ∷ []))
unfolding holding put put_context put_clause rank_of
put-differ-holding rs st p q =
    let m : _ = difference-more st p q in
    rw (← rank-statement rs st [] [] (differ p q) (rank-bare rs st), m.0, m.1)

module _ (L : Limits) (rs : List Row) (h : length rs ≤ 256) (n : ℕ) (st : List Statement) (w : List ℕ) where
  same_back : (p q : ℕ) → (p < length rs) × (q < length rs) → length (equations_of st) < L.equations
      → read_lines L n (holding rs st) (lines_of (frame (2 ∷ p ∷ q ∷ []) ++ w)) ≡ read_lines L (suc n) (holding rs (st ++ (same p q ∷ []))) (lines_of w)
  unfolding known is_listed listed_as sized size_of entry_of ranked room refers no_row named_by table_of agrees holding rank_of
  same_back p q b k =
      frame-read L n 2 (p ∷ q ∷ []) w (holding rs st) (statement (same p q)) (omega arith, (omega arith, (omega arith, tt))) refl refl refl
      (le-leb (rank_held rs st [] []) 2 (rank-bare rs st))
      (lt-ltb (length (equations_of st)) L.equations k)
      (each-nowhere (λ a. ltb a (length rs)) 0 (p ∷ q ∷ []) (below_each (length rs) (p ∷ q ∷ []) (b.0, (b.1, tt)))) refl
      ∙ ap (λ (s : Read). read_lines L (suc n) s (lines_of w)) (put-same-holding rs st p q)

  differ_back : (p q : ℕ) → (p < length rs) × (q < length rs) → length (differences_of st) < L.differences
      → read_lines L n (holding rs st) (lines_of (frame (3 ∷ p ∷ q ∷ []) ++ w)) ≡ read_lines L (suc n) (holding rs (st ++ (differ p q ∷ []))) (lines_of w)
  unfolding known is_listed listed_as sized size_of entry_of ranked room refers no_row named_by table_of agrees holding rank_of
  differ_back p q b k =
      frame-read L n 3 (p ∷ q ∷ []) w (holding rs st) (statement (differ p q)) (omega arith, (omega arith, (omega arith, tt))) refl refl refl
      (le-leb (rank_held rs st [] []) 2 (rank-bare rs st))
      (lt-ltb (length (differences_of st)) L.differences k)
      (each-nowhere (λ a. ltb a (length rs)) 0 (p ∷ q ∷ []) (below_each (length rs) (p ∷ q ∷ []) (b.0, (b.1, tt)))) refl
      ∙ ap (λ (s : Read). read_lines L (suc n) s (lines_of w)) (put-differ-holding rs st p q)

within_first : (n : ℕ) (p : ℕ × ℕ) (ps : List (ℕ × ℕ)) → Within n (p ∷ ps) → ((p.0 < n) × (p.1 < n)) × Within n ps
within_first n p ps h = (h 0 (omega arith), λ k l. h (suc k) (omega arith))

statements-named : (n : ℕ) (st : List Statement) → Within n (equations_of st) → Within n (differences_of st) → Each (Named n) st
unfolding equations_of differences_of
statements-named n [] e d = tt
statements-named n (same p q ∷ st) e d =
    let f : _ = within_first n (p, q) (equations_of st) e in (f.0, statements-named n st f.1 d)
statements-named n (differ p q ∷ st) e d =
    let f : _ = within_first n (p, q) (differences_of st) d in (f.0, statements-named n st e f.1)

equations-seam : (st l : List Statement) (p q : ℕ) → length (equations_of st) < length (equations_of (st ++ (same p q ∷ l)))
unfolding equations_of
equations-seam st l p q = rw equations-append (omega (arith, length-append (equations_of st) ((p, q) ∷ equations_of l)))

differences-seam : (st l : List Statement) (p q : ℕ) → length (differences_of st) < length (differences_of (st ++ (differ p q ∷ l)))
unfolding differences_of
differences-seam st l p q = rw differences-append (omega (arith, length-append (differences_of st) ((p, q) ∷ differences_of l)))

-- the statements, those before them read
module _ (L : Limits) (rs : List Row) (h : length rs ≤ 256) (all : List Statement) (named : Each (Named (length rs)) all)
    (few_e : length (equations_of all) ≤ L.equations) (few_d : length (differences_of all) ≤ L.differences) where
  statements-back : (n : ℕ) (done st : List Statement) (w : List ℕ) → done ++ st ≡ all
      → read_lines L n (holding rs done) (lines_of (statements_text st ++ w)) ≡ read_lines L (n + length st) (holding rs all) (lines_of w)
  unfolding statements_text
  statements-back n done [] w e =
      let z : n + 0 ≡ n = omega arith in
      let q : done ≡ all = sym (append-nil done) ∙ e in
      rw (z, q) refl
  statements-back n done (same p q ∷ st) w e =
      let b : _ = each-seam (Named (length rs)) done (same p q) st (rw (sym e) at named) in
      let k : length (equations_of done) < L.equations = omega (arith, equations-seam done st p q, ap (λ x. length (equations_of x)) e) in
      let z : n + suc (length st) ≡ suc n + length st = omega arith in
      rw append_assoc (same_back L rs h n done (statements_text st ++ w) p q b k ∙ rw z (statements-back (suc n) (done ++ (same p q ∷ [])) st w (append_assoc done (same p q ∷ []) st ∙ e)))
  statements-back n done (differ p q ∷ st) w e =
      let b : _ = each-seam (Named (length rs)) done (differ p q) st (rw (sym e) at named) in
      let k : length (differences_of done) < L.differences = omega (arith, differences-seam done st p q, ap (λ x. length (differences_of x)) e) in
      let z : n + suc (length st) ≡ suc n + length st = omega arith in
      rw append_assoc (differ_back L rs h n done (statements_text st ++ w) p q b k ∙ rw z (statements-back (suc n) (done ++ (differ p q ∷ [])) st w (append_assoc done (differ p q ∷ []) st ∙ e)))

module _ (L : Limits) (y : Bytewise L) (c : Context) (h : Writable L c) where
  pub read_back_lem : (w : List ℕ)
      → read L (context_text c ++ w) ≡ read_lines L (suc (length c.rows + length c.statements)) (holding c.rows c.statements) (lines_of w)
  unfolding read context_text holding rank_held equations_of differences_of
  read_back_lem w =
      let few : length c.rows ≤ 256 = omega (arith, h.fits.few_rows, y.rows_byte) in
      let named : _ = statements-named (length c.rows) c.statements h.fit.within h.fit.apart in
      rw append_assoc
      (rows_back L y c.rows h.fits.few_rows h.fit.ordered h.fits.rows_fit h.agreed 1 [] c.rows (statements_text c.statements ++ w) refl
      ∙ statements-back L c.rows few c.statements named h.fits.few_equations h.fits.few_differences (1 + length c.rows) [] c.statements w refl
      ∙ ap (λ (m : ℕ). read_lines L m (holding c.rows c.statements) (lines_of w)) (omega arith))

  pub text-taken : read L (context_text c) ≡ taken (holding c.rows c.statements)
  unfolding lines_of lines_from read_lines
  text-taken = ap (λ x. read L x) (sym (append-nil (context_text c))) ∙ read_back_lem []
