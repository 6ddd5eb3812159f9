-- The normal text of runs is its pieces one after the other.
--     keys-sorted    keys in rising order, read back as pairs, are the definition's sorted pairs
--     text-pieces    the normal text is the rows' lines, the equations' lines and the differences' lines
--     length-text    how long it is
-- Assumes nothing.
use mathlib.Core.Bool.{Bool, true, false}
use mathlib.Core.List.{List, [], ◌∷◌, ◌++◌, map, map-append, append_assoc, append-nil}
use mathlib.Core.Logic.{inl, inr, ⊎_elim}
use mathlib.Core.Path.{◌≡◌, refl, sym, ap, ap₂, ◌∙◌, subst}
use Prim.Native.Nat.{ℕ, zero, suc, ◌+◌, ◌/◌, ◌%◌, ◌≤◌, ◌<◌}
use native.Mathlib.Nat.{mod-eq_of_lt}
use native.Mathlib.Omega.{arith}
use borrow.Author.Tests.{ltb-true, ltb-false}
use lib.Dec.{eqb, ltb}
use lib.ListN.{length, get_or, take, length-append}
use lib.Seq.{take-suc, take-length}
use Rattle.meaning.specs.Context.{Row, Statement, same, differ, differences_of}
use Rattle.meaning.specs.Equality.{rep_at}
use Rattle.meaning.specs.Columns.{statement_of}
use Rattle.meaning.specs.Writing.{frame, rows_text, statements_text, context_text, joins, sorted, lower_first, normal_of}
use Rattle.meaning.specs.Members.{In}
use Rattle.meaning.proofs.Taken.{differences-append}
use Rattle.meaning.proofs.Sorted.{in-at, in_map, map-in, Sooner, Ascending, in-sorted, sorted-in, sorted-ascending, ascending-one}
use Rattle.runs.specs.Limits.{most_rows, most_statements}
use Rattle.runs.specs.Runs.{each, row_count, said_count, symbol_in, args_in, kind_in, left_in, right_in, row_in, rows_of, statement_in, statements_of}
use Rattle.runs.specs.Fit.{Every, NamedAt}
use Rattle.runs.proofs.Saying.{row-length, length-rows as rows_long}
use Rattle.runs.proofs.Formed.{fit-rows, fit-said}
use Rattle.reply_lines.specs.Pieces.{run}
use Rattle.normaliser.specs.Pieces.{row_piece, join_piece, key_piece, row_lines, join_lines, key_lines}
use Rattle.normaliser.specs.Rooms.{RowsFit}
use Rattle.sorting.specs.Sorting.{Rising, Sorts}
use Rattle.normaliser.specs.Keyed.{key_base, pair_key, keys_to, KeysIn}
use Rattle.normaliser.specs.Normals.{normal_text, text_of, text_size, Writable}
use Rattle.sorting.proofs.Merging.{in-append}
use Rattle.reply_lines.proofs.Running.{run-snoc}
use Rattle.normaliser.proofs.Rows.{length-rows}
use Rattle.normaliser.proofs.Pairs.{length-joins, length-keys}

-- ---- the rows

rows_append : (l m : List Row) → rows_text (l ++ m) ≡ rows_text l ++ rows_text m
unfolding rows_text
rows_append [] m = refl
rows_append (r ∷ l) m =
    let line : List ℕ = frame (1 ∷ r.symbol / 256 ∷ r.symbol % 256 ∷ length r.args ∷ r.args) in
    ap (λ (t : List ℕ). line ++ t) (rows_append l m) ∙ sym (append_assoc line (rows_text l) (rows_text m))

module _ (rows : List ℕ) (fit : RowsFit rows) where
  row-text : (i : ℕ) → i < row_count rows → rows_text (row_in rows i ∷ []) ≡ row_piece rows i
  unfolding rows_text row_piece
  row-text i h =
      append-nil _
      ∙ ap (λ (k : ℕ). frame (1 ∷ symbol_in rows i / 256 ∷ symbol_in rows i % 256 ∷ k ∷ args_in rows i)) (row-length rows i h (fit.placed.each i h).few)

  first-text : (m : ℕ) → m ≤ row_count rows → rows_text (each (row_in rows) m) ≡ run (row_piece rows) 0 m
  unfolding each rows_text run
  first-text zero h = refl
  first-text (suc m) h =
      let e : 0 + m ≡ m = omega arith in
      rows_append (each (row_in rows) m) (row_in rows m ∷ [])
      ∙ ap₂ (λ (a b : List ℕ). a ++ b) (first-text m (omega arith)) (row-text m (omega arith) ∙ ap (row_piece rows) (sym e))
      ∙ sym (run-snoc (row_piece rows) 0 m)

  rows-text : rows_text (rows_of rows) ≡ row_lines rows
  unfolding rows_of
  rows-text = first-text (row_count rows) (omega arith)

-- ---- the equations

statements-append : (l m : List Statement) → statements_text (l ++ m) ≡ statements_text l ++ statements_text m
unfolding statements_text
statements-append [] m = refl
statements-append (same p q ∷ l) m =
    let line : List ℕ = frame (2 ∷ p ∷ q ∷ []) in
    ap (λ (t : List ℕ). line ++ t) (statements-append l m) ∙ sym (append_assoc line (statements_text l) (statements_text m))
statements-append (differ p q ∷ l) m =
    let line : List ℕ = frame (3 ∷ p ∷ q ∷ []) in
    ap (λ (t : List ℕ). line ++ t) (statements-append l m) ∙ sym (append_assoc line (statements_text l) (statements_text m))

pub joins-text : (table : List ℕ) (i n : ℕ) → statements_text (joins (rep_at table) i n) ≡ run (join_piece table) i n
unfolding joins statements_text run join_piece
joins-text table i zero = refl
joins-text table i (suc n) = go (eqb (rep_at table i) i) refl (joins-text table (suc i) n)
  where
    go : (b : Bool) → eqb (rep_at table i) i ≡ b → statements_text (joins (rep_at table) (suc i) n) ≡ run (join_piece table) (suc i) n
        → statements_text (joins (rep_at table) i (suc n)) ≡ run (join_piece table) i (suc n)
    go true e ih = rw (joins, run, join_piece, e) ih
    go false e ih = rw (joins, run, join_piece, e) (ap (λ (t : List ℕ). frame (2 ∷ rep_at table i ∷ i ∷ []) ++ t) ih)

-- ---- the differences

abbrev unkey : ℕ → ℕ × ℕ
unkey k = (k / key_base, k % key_base)

abbrev apart : ℕ × ℕ → Statement
apart p = differ p.0 p.1

abbrev Bytes : ℕ × ℕ → Type 0
Bytes p = (p.0 < 256) × (p.1 < 256)

key-text : (keys : List ℕ) (k : ℕ) → Bytes (unkey (get_or keys k 0)) → statements_text (apart (unkey (get_or keys k 0)) ∷ []) ≡ key_piece keys k
unfolding statements_text key_piece
key-text keys k h =
    append-nil (frame (3 ∷ get_or keys k 0 / key_base ∷ get_or keys k 0 % key_base ∷ []))
    ∙ ap₂ (λ (a b : ℕ). frame (3 ∷ a ∷ b ∷ [])) (sym (mod-eq_of_lt h.0)) (sym (mod-eq_of_lt h.1))

keys-text : (keys : List ℕ) (n : ℕ) → ((k : ℕ) → k < length keys → Bytes (unkey (get_or keys k 0))) → n ≤ length keys
    → statements_text (map apart (map unkey (take n keys))) ≡ run (key_piece keys) 0 n
unfolding statements_text run
keys-text keys zero small h = refl
keys-text keys (suc n) small h =
    let e : 0 + n ≡ n = omega arith in
    ap (λ (l : List ℕ). statements_text (map apart (map unkey l))) (take-suc keys n 0 (omega arith))
    ∙ ap (λ (l : List (ℕ × ℕ)). statements_text (map apart l)) (map-append unkey (take n keys) (get_or keys n 0 ∷ []))
    ∙ ap statements_text (map-append apart (map unkey (take n keys)) (unkey (get_or keys n 0) ∷ []))
    ∙ statements-append (map apart (map unkey (take n keys))) (apart (unkey (get_or keys n 0)) ∷ [])
    ∙ ap₂ (λ (a b : List ℕ). a ++ b) (keys-text keys n small (omega arith)) (key-text keys n (small n (omega arith)) ∙ ap (key_piece keys) (sym e))
    ∙ sym (run-snoc (key_piece keys) 0 n)

-- ---- keys in order are pairs in order

unkey-key : (p : ℕ × ℕ) → Bytes p → unkey (pair_key p) ≡ p
unkey-key p h =
    let e : pair_key p / key_base ≡ p.0 = omega (arith, h.1) in
    let f : pair_key p % key_base ≡ p.1 = omega (arith, h.1) in
    ap₂ (λ (a b : ℕ). (a, b)) e f

unkey-sooner : (x y : ℕ) → x < y → Sooner (unkey x) (unkey y)
unkey-sooner x y h = go (ltb (x / key_base) (y / key_base)) refl
  where
    go : (b : Bool) → ltb (x / key_base) (y / key_base) ≡ b → Sooner (unkey x) (unkey y)
    go true e = inl (ltb-true (x / key_base) (y / key_base) e)
    go false e = let l : y / key_base ≤ x / key_base = ltb-false (x / key_base) (y / key_base) e in inr (omega arith, omega arith)

rising-ascending : (l : List ℕ) → Rising l → Ascending (map unkey l)
rising-ascending [] r = tt
rising-ascending (x ∷ l) r = (above, rising-ascending l r.1)
  where
    above : (q : ℕ × ℕ) → In q (map unkey l) → Sooner (unkey x) q
    above q i =
        let w : (y : ℕ) × In y l × (q ≡ unkey y) = map-in unkey q l i in
        subst (Sooner (unkey x)) (sym w.2) (unkey-sooner x w.0 (r.0 w.0 w.1))

module _ (pairs : List (ℕ × ℕ)) (keys : List ℕ) (small : (p : ℕ × ℕ) → In p pairs → Bytes p) (s : Sorts (map pair_key pairs) keys) where
  key-pair : (x : ℕ) → In x keys → (p : ℕ × ℕ) × In p pairs × (unkey x ≡ p)
  key-pair x i =
      let v : (q : ℕ × ℕ) × In q pairs × (x ≡ pair_key q) = map-in pair_key x pairs ((s.same x).0 i) in
      (v.0, v.1, ap unkey v.2 ∙ unkey-key v.0 (small v.0 v.1))

  key-bytes : (k : ℕ) → k < length keys → Bytes (unkey (get_or keys k 0))
  key-bytes k h =
      let v : (p : ℕ × ℕ) × In p pairs × (unkey (get_or keys k 0) ≡ p) = key-pair (get_or keys k 0) (in-at keys k 0 h) in
      subst Bytes (sym v.2) (small v.0 v.1)

  pub keys-sorted : map unkey keys ≡ sorted pairs
  keys-sorted =
      ascending-one (map unkey keys) (sorted pairs) (rising-ascending keys s.rising) (sorted-ascending pairs)
      (λ p. (λ i. in-sorted p pairs (to p i), λ i. of p (sorted-in p pairs i)))
    where
      to : (p : ℕ × ℕ) → In p (map unkey keys) → In p pairs
      to p i =
          let w : (x : ℕ) × In x keys × (p ≡ unkey x) = map-in unkey p keys i in
          let v : (q : ℕ × ℕ) × In q pairs × (unkey w.0 ≡ q) = key-pair w.0 w.1 in
          subst (λ (r : ℕ × ℕ). In r pairs) (sym (w.2 ∙ v.2)) v.1

      of : (p : ℕ × ℕ) → In p pairs → In p (map unkey keys)
      of p i =
          subst (λ (r : ℕ × ℕ). In r (map unkey keys)) (unkey-key p (small p i))
          (in_map unkey (pair_key p) keys ((s.same (pair_key p)).1 (in_map pair_key p pairs i)))

  -- their lines are those of the sorted pairs
  pub differences-text : statements_text (map apart (sorted pairs)) ≡ key_lines keys
  differences-text =
      ap (λ (l : List (ℕ × ℕ)). statements_text (map apart l)) (sym keys-sorted)
      ∙ ap (λ (l : List ℕ). statements_text (map apart (map unkey l))) (sym (take-length keys))
      ∙ keys-text keys (length keys) key-bytes (omega arith)

-- ---- a difference's sides are rows

stated-last : (kind a b : ℕ) (q : ℕ × ℕ) → In q (differences_of (statement_of kind a b ∷ [])) → q ≡ (a, b)
unfolding statement_of differences_of
stated-last kind a b q i = go (eqb kind 2) refl
  where
    go : (c : Bool) → eqb kind 2 ≡ c → q ≡ (a, b)
    go true e = absurd (rw (statement_of, e) at i)
    go false e = ⊎_elim (λ f. f) (λ f. absurd f) (rw (statement_of, e) at i)

difference-stated : (said : List ℕ) (m : ℕ) (q : ℕ × ℕ) → In q (differences_of (each (statement_in said) m))
    → (k : ℕ) × (k < m) × (q ≡ (left_in said k, right_in said k))
unfolding each differences_of
difference-stated said zero q i = absurd i
difference-stated said (suc m) q i =
    ⊎_elim (λ j. earlier (difference-stated said m q j)) (λ j. (m, omega arith, stated-last (kind_in said m) (left_in said m) (right_in said m) q j))
    (in-append q (differences_of (each (statement_in said) m)) (differences_of (statement_in said m ∷ []))
    (subst (In q) (differences-append (each (statement_in said) m) (statement_in said m ∷ [])) i))
  where
    earlier : (k : ℕ) × (k < m) × (q ≡ (left_in said k, right_in said k)) → (k : ℕ) × (k < suc m) × (q ≡ (left_in said k, right_in said k))
    earlier w = (w.0, omega (arith, w.1), w.2)

-- ---- the whole

module _ (rows said table : List ℕ) (w : Writable rows said table) where
  pub writable-rows : RowsFit rows
  writable-rows = record { few = w.fit.rows_few; placed = fit-rows most_rows most_statements rows said w.fit }

  pub writable-named : Every (said_count said) (NamedAt said (row_count rows))
  writable-named = fit-said most_rows most_statements rows said w.fit

  pairs : List (ℕ × ℕ)
  pairs = map (lower_first (rep_at table)) (differences_of (statements_of said))

  pairs_small : (p : ℕ × ℕ) → In p pairs → Bytes p
  unfolding pairs statements_of
  pairs_small p i =
      let v : (q : ℕ × ℕ) × In q (differences_of (statements_of said)) × (p ≡ lower_first (rep_at table) q) =
      map-in (lower_first (rep_at table)) p (differences_of (statements_of said)) i in
      let u : (k : ℕ) × (k < said_count said) × (v.0 ≡ (left_in said k, right_in said k)) = difference-stated said (said_count said) v.0 v.1 in
      let e : p ≡ lower_first (rep_at table) (left_in said u.0, right_in said u.0) = v.2 ∙ ap (lower_first (rep_at table)) u.2 in
      let a : rep_at table (left_in said u.0) < row_count rows = w.tabled.reps (left_in said u.0) (writable-named.each u.0 u.1).left in
      let b : rep_at table (right_in said u.0) < row_count rows = w.tabled.reps (right_in said u.0) (writable-named.each u.0 u.1).right in
      subst Bytes (sym e) (omega (arith, w.fit.rows_few), omega (arith, w.fit.rows_few))

  module _ (places : List ℕ) (r : ℕ) (k : KeysIn said table places r) where
    pub text-pieces : normal_text rows said table ≡ text_of rows table (take r places)
    unfolding normal_text context_text normal_of pairs keys_to statements_of
    text-pieces =
        ap₂ (λ (a b : List ℕ). a ++ b) (rows-text rows writable-rows)
        (ap (λ (l : ℕ). statements_text (joins (rep_at table) 0 l ++ map apart (sorted pairs))) (rows_long rows)
        ∙ statements-append (joins (rep_at table) 0 (row_count rows)) (map apart (sorted pairs))
        ∙ ap₂ (λ (a b : List ℕ). a ++ b) (joins-text table 0 (row_count rows)) (differences-text pairs (take r places) pairs_small k.sorts))

pub length-text : (rows table keys : List ℕ) → RowsFit rows → length (text_of rows table keys) ≡ text_size rows table (length keys)
length-text rows table keys fit =
    length-append (row_lines rows) (join_lines table (row_count rows) ++ key_lines keys)
    ∙ omega (
      arith,
      length-append (join_lines table (row_count rows)) (key_lines keys),
      length-rows rows (row_count rows) fit (omega arith),
      length-joins table (row_count rows),
      length-keys keys (length keys),
    )
