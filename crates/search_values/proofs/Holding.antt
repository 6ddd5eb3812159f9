-- The look-up among sorted rows finds what a walk along all rows finds.
--     Seeking      no row whose key stands before a place is the one
--     mine         what the look-up leaves to show
-- Assumes nothing.
use mathlib.Core.Bool.{Bool, true, false, ◌&&◌, true≢false}
use mathlib.Core.List.{List, ◌∷◌, map}
use mathlib.Core.Path.{◌≡◌, refl, sym, ap, ◌∙◌}
use Prim.Native.Nat.{ℕ, zero, suc, ◌+◌, ◌*◌, ◌/◌, ◌%◌, ◌≤◌, ◌<◌}
use native.Mathlib.Omega.{arith}
use borrow.Author.Rules.{rules}
use borrow.Author.Tests.{eqb-true, eq-eqb, ltb-true, ltb-false}
use lib.Dec.{eqb, ltb}
use lib.ListN.{length, get_or, drop, drop_of_length-le}
use lib.Seq.{drop-cons}
use Rattle.std.specs.Prelude.{None, Some}
use Rattle.meaning.specs.Context.{row₀}
use Rattle.meaning.specs.ByTable.{same_list}
use Rattle.meaning.specs.Values.{held}
use Rattle.meaning.proofs.Logic.{and-true-left}
use Rattle.meaning.proofs.Sorted.{in-at, in_place}
use Rattle.runs.specs.Runs.{row_count, symbol_in, args_in, row_in, rows_of}
use Rattle.runs.proofs.Saying.{length-rows, rows-at}
use Rattle.search_values.specs.Index.{key_base, row_key}
use Rattle.search_values.specs.Lookup.{FirstFrom, RowFit, LedgerFit, Looked}
use Rattle.search_values.proofs.Indexing.{key_in, in-key}
use Rattle.search_values.proofs.Places.{ledger-ascends}

module _ (rows : List ℕ) (rep : ℕ → ℕ) (f : ℕ) (ns : List ℕ) where
  -- whether row i is the one
  abbrev pub fits : ℕ → Bool
  fits i = eqb f (symbol_in rows i) && same_list ns (map rep (args_in rows i))

  abbrev n : ℕ
  n = row_count rows

  -- ---- the walk along all rows

  rows-from : (i : ℕ) → i < n → drop i (rows_of rows) ≡ row_in rows i ∷ drop (suc i) (rows_of rows)
  rows-from i h =
      drop-cons (rows_of rows) i row₀ (omega (arith, length-rows rows))
      ∙ ap (◌∷ drop (suc i) (rows_of rows)) (rows-at rows i h)

  held-hit : (d i : ℕ) → i < n → fits i ≡ true → held rep f ns d i (drop i (rows_of rows)) ≡ rep i
  unfolding held
  held-hit d i h e = rw (rows-from i h, held, e)

  held-miss : (d i : ℕ) → i < n → fits i ≡ false → held rep f ns d i (drop i (rows_of rows)) ≡ held rep f ns d (suc i) (drop (suc i) (rows_of rows))
  unfolding held
  held-miss d i h e = rw (rows-from i h, held, e)

  held-past : (d i : ℕ) → n ≤ i → held rep f ns d i (drop i (rows_of rows)) ≡ d
  unfolding held
  held-past d i h = let l : length (rows_of rows) ≤ i = omega (arith, length-rows rows) in rw (drop_of_length-le (rows_of rows) l)

  held-over : (d i : ℕ) → i ≤ n → ((r : ℕ) → r < i → fits r ≡ true → ⊥) → held rep f ns d 0 (rows_of rows) ≡ held rep f ns d i (drop i (rows_of rows))
  held-over d zero l g = refl
  held-over d (suc i) l g = held-over d i (omega arith) (λ r h. g r (omega arith)) ∙ held-miss d i (omega arith) (not-fit (fits i) (g i (omega arith)))
    where
      not-fit : (b : Bool) → (b ≡ true → ⊥) → b ≡ false
      not-fit true h = absurd (h refl)
      not-fit false h = refl

  held_first : (d i : ℕ) → i < n → fits i ≡ true → ((r : ℕ) → r < i → fits r ≡ true → ⊥) → held rep f ns d 0 (rows_of rows) ≡ rep i
  held_first d i h e g = held-over d i (omega arith) g ∙ held-hit d i h e

  held_none : (d : ℕ) → ((r : ℕ) → r < n → fits r ≡ true → ⊥) → held rep f ns d 0 (rows_of rows) ≡ d
  held_none d g = held-over d n (omega arith) g ∙ held-past d n (omega arith)

  fits-symbol : (r : ℕ) → fits r ≡ true → symbol_in rows r ≡ f
  fits-symbol r e = sym (eqb-true f (symbol_in rows r) (and-true-left (eqb f (symbol_in rows r)) (same_list ns (map rep (args_in rows r))) e))

  none-looked : ((r : ℕ) → r < n → fits r ≡ true → ⊥) → Looked rep f ns (rows_of rows) None
  none-looked g = record { so = λ d. sym (held_none d g) }

  -- ---- the walk along the keys

  pub record Seeking (keys : List ℕ) (p : ℕ) : Type 0 where
    pub missed : (r i : ℕ) → r < n → fits r ≡ true → i < p → get_or keys i 0 ≡ row_key rows r → ⊥
    pub above : (i : ℕ) → p ≤ i → i < length keys → f * key_base ≤ get_or keys i 0

  pub seeking-start : (keys : List ℕ) (p : ℕ) → FirstFrom keys (f * key_base) p → Seeking keys p
  seeking-start keys p s =
      record { missed = λ r i h e l k. omega (arith, fits-symbol r e, s.below i l, k); above = s.above }

  module _ (table keys : List ℕ) (l : LedgerFit rows table keys) (p : ℕ) (s : Seeking keys p) where
    -- a row that fits has a key at p or behind it
    record Ahead (r : ℕ) : Type 0 where
      place : ℕ
      inside : place < length keys
      is : get_or keys place 0 ≡ row_key rows r
      behind : p ≤ place

    ahead : (r : ℕ) → r < n → fits r ≡ true → Ahead r
    ahead r h e =
        let w : (k : ℕ) × (k < length keys) × (get_or keys k 0 ≡ row_key rows r) = in_place (row_key rows r) keys 0 ((l.indexed.sorts.same (row_key rows r)).1 (key_in rows r h)) in
        record { place = w.0; inside = w.1; is = w.2; behind = go w.0 w.2 (ltb w.0 p) refl }
      where
        go : (k : ℕ) → get_or keys k 0 ≡ row_key rows r → (b : Bool) → ltb k p ≡ b → p ≤ k
        go k q true b = absurd (s.missed r k h e (ltb-true k p b) q)
        go k q false b = ltb-false k p b

    -- and that key is not below the one at p
    ahead-key : p < length keys → (r : ℕ) → r < n → fits r ≡ true → get_or keys p 0 ≤ row_key rows r
    ahead-key h r m e = go (ahead r m e)
      where
        go : Ahead r → get_or keys p 0 ≤ row_key rows r
        go a = at (ltb p a.place) refl
          where
            at : (b : Bool) → ltb p a.place ≡ b → get_or keys p 0 ≤ row_key rows r
            at true b = omega (arith, a.is, (ledger-ascends l).rises p a.place (ltb-true p a.place b) a.inside)
            at false b =
                let q : p ≡ a.place = omega (arith, a.behind, ltb-false p a.place b) in
                let k : get_or keys p 0 ≡ get_or keys a.place 0 = ap (λ (x : ℕ). get_or keys x 0) q in
                omega (arith, a.is, k)

    pub seeking-ends : (m : ℕ) → m ≡ length keys → m ≤ p → Looked rep f ns (rows_of rows) None
    seeking-ends m q h = none-looked (λ r g e. omega (arith, (ahead r g e).inside, (ahead r g e).behind))

    module _ (m key : ℕ) (q : m ≡ length keys) (h : p < m) (is : key ≡ get_or keys p 0) where
      -- the row of the key at p
      record At : Type 0 where
        row : ℕ
        inside : row < n
        keyed : key ≡ row_key rows row

      at : At
      at =
          let w : (i : ℕ) × (i < n) × (get_or keys p 0 ≡ row_key rows i) = in-key rows (get_or keys p 0) ((l.indexed.sorts.same (get_or keys p 0)).0 (in-at keys p 0 (omega arith))) in
          record { row = w.0; inside = w.1; keyed = is ∙ w.2 }

      row_is : key % key_base ≡ at.row
      row_is = omega (arith, at.keyed, at.inside, l.indexed.few)

      symbol-is : key / key_base ≡ symbol_in rows at.row
      symbol-is = omega (arith, at.keyed, at.inside, l.indexed.few)

      pub seeking-other : (x : ℕ) → x ≡ key / key_base → (x ≡ f → ⊥) → Looked rep f ns (rows_of rows) None
      seeking-other x e d =
          none-looked (λ r g t. d (omega (arith, e, is, ahead-key (omega arith) r g t, fits-symbol r t, s.above p (omega arith) (omega arith), l.indexed.few)))

      module _ (x i : ℕ) (e : x ≡ key / key_base) (same : x ≡ f) (o : i ≡ key % key_base) where
        pub seeking-row : RowFit rows (length table) i
        seeking-row =
            let z : i ≡ at.row = o ∙ row_is in
            record {
              inside = omega (arith, at.inside);
              known = omega (arith, at.inside, l.tabled);
              placed = l.placed.each i (omega (arith, at.inside));
            }

        pub seeking-known : i < length table
        seeking-known = omega (arith, o, row_is, at.inside, l.tabled)

        symbol-here : f ≡ symbol_in rows i
        symbol-here = sym same ∙ e ∙ symbol-is ∙ ap (symbol_in rows) (sym (o ∙ row_is))

        fits-here : (b : Bool) → b ≡ same_list ns (map rep (args_in rows i)) → fits i ≡ b
        fits-here b y = rw (eq-eqb f (symbol_in rows i) symbol-here) (sym y)

        key_here : key ≡ row_key rows i
        key_here = at.keyed ∙ ap (row_key rows) (sym (o ∙ row_is))

        pub seeking-found : (b : Bool) (v : ℕ) → b ≡ same_list ns (map rep (args_in rows i)) → b ≡ true → v ≡ rep i → Looked rep f ns (rows_of rows) (Some v)
        seeking-found b v y t z = record { so = λ d. z ∙ sym (held_first d i seeking-row.inside (fits-here b y ∙ t) earlier) }
          where
            earlier : (r : ℕ) → r < i → fits r ≡ true → ⊥
            earlier r g u =
                omega (arith, is, key_here, fits-symbol r u, symbol-here, ahead-key (omega arith) r (omega (arith, seeking-row.inside)) u)

        pub seeking-next : (b : Bool) → b ≡ same_list ns (map rep (args_in rows i)) → b ≡ false → Seeking keys (p + 1)
        seeking-next b y t =
            record {
              missed = λ r j g u k w. go r j g u k w (ltb j p) refl;
              above = λ j g k. s.above j (omega arith) k;
            }
          where
            go : (r j : ℕ) → r < n → fits r ≡ true → j < p + 1 → get_or keys j 0 ≡ row_key rows r → (c : Bool) → ltb j p ≡ c → ⊥
            go r j g u k w true c = s.missed r j g u (ltb-true j p c) w
            go r j g u k w false c =
                let a : j ≡ p = omega (arith, ltb-false j p c) in
                let z : get_or keys j 0 ≡ get_or keys p 0 = ap (λ (x : ℕ). get_or keys x 0) a in
                let r' : r ≡ i = omega (arith, o, is, z, w, l.indexed.few) in
                let no : fits r ≡ false = ap fits r' ∙ fits-here b y ∙ t in
                true≢false (sym u ∙ no)

pub ruleset mine = (rules, ledger-ascends, seeking-start, seeking-ends, seeking-other, seeking-row, seeking-known, seeking-found, seeking-next)
