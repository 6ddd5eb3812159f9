-- The line of a row from its fields, and how long lines are.
--     row_line, length-row      the first fields of a row make its line
--     Sizing                    the size of the pieces before a piece
--     mine                      what the functions that write rows leave to show
-- Assumes nothing.
use mathlib.Core.List.{List, [], ◌∷◌, ◌++◌}
use mathlib.Core.Path.{◌≡◌, refl, sym, ap, ◌∙◌, subst}
use Prim.Native.Nat.{ℕ, zero, suc, ◌+◌, ◌*◌, ◌/◌, ◌%◌, ◌≤◌, ◌<◌}
use native.Mathlib.Nat.{mod-eq_of_lt}
use native.Mathlib.Numerals.{add-one}
use native.Mathlib.Omega.{arith}
use mir.Syntax.{w64}
use mir.Val.{Fits}
use borrow.Author.Rules.{rules}
use lib.ListN.{length, take, drop, length-append}
use lib.Seq.{drop-cons}
use Rattle.meaning.specs.Writing.{frame}
use Rattle.runs.specs.Limits.{most_rows, row_size, arg_places}
use Rattle.runs.specs.Runs.{row_count, symbol_in, count_in, arg_in}
use Rattle.runs.specs.Fit.{RowAt}
use Rattle.runs.proofs.Saying.{row-length}
use Rattle.reply_lines.specs.Pieces.{low8, Room, Put, LineRoom, run}
use Rattle.normaliser.specs.Pieces.{row_piece, row_lines}
use Rattle.normaliser.specs.Rooms.{row_fields, head_fields, line_length, row_length, rows_size, RowsFit, RowRoom}
use Rattle.reply_lines.proofs.Lines.{length-frame}
use Rattle.reply_lines.proofs.Running.{Running, running-start, running-room, running-step, running-done, run-snoc}

module _ (rows : List ℕ) (fit : RowsFit rows) (i : ℕ) (h : i < row_count rows) where
  placed : RowAt rows i
  placed = fit.placed.each i h

  four-args : take arg_places (drop (i * row_size + 2) rows) ≡ arg_in rows i 0 ∷ arg_in rows i 1 ∷ arg_in rows i 2 ∷ arg_in rows i 3 ∷ []
  four-args =
      let e₀ : i * row_size + 2 ≡ i * row_size + 2 + 0 = omega arith in
      let e₁ : suc (i * row_size + 2 + 0) ≡ i * row_size + 2 + 1 = omega arith in
      let e₂ : suc (i * row_size + 2 + 1) ≡ i * row_size + 2 + 2 = omega arith in
      let e₃ : suc (i * row_size + 2 + 2) ≡ i * row_size + 2 + 3 = omega arith in
      ap (λ (k : ℕ). take arg_places (drop k rows)) e₀
      ∙ ap (take arg_places) (cut 0 (omega arith) ∙ ap (λ (l : List ℕ). arg_in rows i 0 ∷ l)
      (ap (λ (k : ℕ). drop k rows) e₁ ∙ cut 1 (omega arith) ∙ ap (λ (l : List ℕ). arg_in rows i 1 ∷ l)
      (ap (λ (k : ℕ). drop k rows) e₂ ∙ cut 2 (omega arith) ∙ ap (λ (l : List ℕ). arg_in rows i 2 ∷ l)
      (ap (λ (k : ℕ). drop k rows) e₃ ∙ cut 3 (omega arith)))))
    where
      cut : (k : ℕ) → k < arg_places → drop (i * row_size + 2 + k) rows ≡ arg_in rows i k ∷ drop (suc (i * row_size + 2 + k)) rows
      cut k l = drop-cons rows (i * row_size + 2 + k) 0 (omega arith)

  -- an argument that is used is a byte
  used : (k : ℕ) → k < count_in rows i → low8 (arg_in rows i k) ≡ arg_in rows i k
  used k l = mod-eq_of_lt (omega (arith, placed.earlier.each k l, fit.few))

  bytes : (m : ℕ) → m ≡ count_in rows i
      → take m (low8 (arg_in rows i 0) ∷ low8 (arg_in rows i 1) ∷ low8 (arg_in rows i 2) ∷ low8 (arg_in rows i 3) ∷ [])
      ≡ take m (arg_in rows i 0 ∷ arg_in rows i 1 ∷ arg_in rows i 2 ∷ arg_in rows i 3 ∷ [])
  bytes zero e = refl
  bytes (suc zero) e = rw (used 0 (omega arith))
  bytes (suc (suc zero)) e = rw (used 0 (omega arith), used 1 (omega arith))
  bytes (suc (suc (suc zero))) e = rw (used 0 (omega arith), used 1 (omega arith), used 2 (omega arith))
  bytes (suc (suc (suc (suc zero)))) e = rw (used 0 (omega arith), used 1 (omega arith), used 2 (omega arith), used 3 (omega arith))
  bytes (suc (suc (suc (suc (suc m))))) e = absurd (omega (arith, placed.few))

  count-byte : low8 (count_in rows i) ≡ count_in rows i
  count-byte = mod-eq_of_lt (omega (arith, placed.few))

  pub row_line : frame (take (head_fields + count_in rows i) (row_fields rows i)) ≡ row_piece rows i
  unfolding row_piece
  row_line =
      let e : head_fields + count_in rows i ≡ suc (suc (suc (suc (count_in rows i)))) = omega arith in
      rw (e, count-byte)
      (ap (λ (l : List ℕ). frame (1 ∷ symbol_in rows i / 256 ∷ symbol_in rows i % 256 ∷ count_in rows i ∷ l))
      (bytes (count_in rows i) refl ∙ ap (take (count_in rows i)) (sym four-args)))

  pub length-row : length (row_piece rows i) ≡ line_length (head_fields + count_in rows i)
  unfolding row_piece
  length-row = length-frame _ ∙ omega (arith, row-length rows i h placed.few)

pub row_put : {rows fields lent after : List ℕ} {i at x next : ℕ} → RowRoom rows i lent at → x ≡ count_in rows i → fields ≡ row_fields rows i
    → Put lent at (frame (take (head_fields + x) fields)) next after → Put lent at (row_piece rows i) next after
row_put {rows} {fields} {lent} {after} {i} {at} {x} {next} r e f d =
    subst (λ (l : List ℕ). Put lent at l next after)
    (ap (λ (l : List ℕ). frame (take (head_fields + x) l)) f ∙ ap (λ (k : ℕ). frame (take (head_fields + k) (row_fields rows i))) e ∙ row_line rows r.fit i r.inside) d

pub row_room : {rows lent : List ℕ} {i at x : ℕ} → RowRoom rows i lent at → x ≡ count_in rows i → LineRoom (head_fields + x) at lent
row_room {rows} {lent} {i} r e =
    record {
      few = omega (arith, (r.fit.placed.each i r.inside).few);
      room = omega (arith, r.room.fits, length-row rows r.fit i r.inside);
    }

pub row_inside : {rows lent : List ℕ} {i at : ℕ} → RowRoom rows i lent at → i < row_count rows
row_inside r = r.inside

pub row_fits : {rows lent : List ℕ} {i at x : ℕ} → RowRoom rows i lent at → x ≡ count_in rows i → Fits w64 (head_fields + x)
row_fits {rows} {lent} {i} r e = omega (arith, (r.fit.placed.each i r.inside).few)

-- there is room for the row that comes next
pub rows-room : {rows lent : List ℕ} {n at i to : ℕ} {after : List ℕ} → RowsFit rows → Room lent at (row_lines rows) → n ≡ row_count rows
    → Running (row_piece rows) n lent at i to after → i < n → RowRoom rows i after to
rows-room {rows} {lent} {n} {at} {i} {to} {after} fit r e f h =
    let f' : Running (row_piece rows) (row_count rows) lent at i to after = rw e at f in
    record { fit = fit; inside = omega arith; room = running-room r f' (omega arith) }

pub rows-done : (rows : List ℕ) {lent : List ℕ} {n at i to : ℕ} {after : List ℕ} → n ≡ row_count rows → Running (row_piece rows) n lent at i to after → n ≤ i
    → Put lent at (row_lines rows) to after
rows-done rows {lent} {n} {at} {i} {to} {after} e f h = subst (λ (m : ℕ). Put lent at (run (row_piece rows) 0 m) to after) e (running-done f h)

-- the size of the pieces before piece i, each of which has so many bytes at most
pub record Sizing (size : ℕ → ℕ) (most n i sum : ℕ) : Type 0 where
  pub within : i ≤ n
  pub so : sum ≡ size i
  pub small : sum ≤ i * most

module _ (rows : List ℕ) where
  pub sizing-rows-start : (n : ℕ) → Sizing (rows_size rows) row_length n 0 0
  unfolding rows_size
  sizing-rows-start n = record { within = omega arith; so = refl; small = omega arith }

  module _ {n i sum : ℕ} (e : n ≡ row_count rows) (s : Sizing (rows_size rows) row_length n i sum) where
    pub sizing-rows-inside : i < n → i < row_count rows
    sizing-rows-inside h = omega arith

    pub sizing-rows-placed : RowsFit rows → i < n → RowAt rows i
    sizing-rows-placed fit h = fit.placed.each i (sizing-rows-inside h)

    pub sizing-rows-small : RowsFit rows → sum ≤ most_rows * row_length
    sizing-rows-small fit = omega (arith, s.small, s.within, fit.few)

    pub sizing-rows-step : {x : ℕ} → i < n → x ≡ line_length (head_fields + count_in rows i) → x ≤ row_length
        → Sizing (rows_size rows) row_length n (i + 1) (sum + x)
    unfolding rows_size
    sizing-rows-step {x} h f l = record { within = omega arith; so = rw (add-one i, s.so, f); small = omega (arith, s.small) }

    pub sizing-rows-done : n ≤ i → sum ≡ rows_size rows (row_count rows)
    sizing-rows-done h =
        let d : i ≡ row_count rows = omega (arith, s.within) in
        s.so ∙ ap (rows_size rows) d

-- the rows together
pub length-rows : (rows : List ℕ) (m : ℕ) → RowsFit rows → m ≤ row_count rows → length (run (row_piece rows) 0 m) ≡ rows_size rows m
unfolding run rows_size
length-rows rows zero fit h = refl
length-rows rows (suc m) fit h =
    let e : 0 + m ≡ m = omega arith in
    ap length (run-snoc (row_piece rows) 0 m ∙ ap (λ (k : ℕ). run (row_piece rows) 0 m ++ row_piece rows k) e)
    ∙ length-append (run (row_piece rows) 0 m) (row_piece rows m)
    ∙ omega (arith, length-rows rows m fit (omega arith), length-row rows fit m (omega arith))

pub ruleset mine = (
  rules,
  row_room,
  row_inside,
  row_fits,
  row_put,
  running-start,
  running-step,
  rows-room,
  rows-done,
  sizing-rows-start,
  sizing-rows-inside,
  sizing-rows-placed,
  sizing-rows-small,
  sizing-rows-step,
  sizing-rows-done,
)
