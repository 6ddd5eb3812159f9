-- The steps that read a pattern row by its own pattern: each allows what was allowed, for any table.
--     upward-allows       what a row can be, by its variable or by the context rows that fit its arguments
--     downward-allows     what the arguments of a row inside the table can be
--     choosable-allows    what a variable can be, by one of its rows
--     bit-allows          a row inside the table has a class with its symbol's bit
--     row-left-allows, variable-left-allows    a row or a variable with nothing left
-- Assumes nothing.
use mathlib.Core.Bool.{Bool, true, false, not, ◌&&◌}
use mathlib.Core.List.{List, [], ◌∷◌, map}
use mathlib.Core.Path.{◌≡◌, refl, ap, sym, ◌∙◌, subst}
use mathlib.Core.Logic.{◌⊎◌, inl, inr}
use Prim.Native.Nat.{ℕ, zero, suc, ◌+◌, ◌%◌, ◌<◌}
use native.Mathlib.Omega.{arith}
use lib.Dec.{eqb}
use borrow.Author.Tests.{eqb-true, eq-eqb, not-true}
use lib.ListN.{length, get_or}
use Rattle.meaning.specs.Context.{Row, row_at}
use Rattle.meaning.specs.Rules.{Pattern, variable, apply, Below}
use Rattle.meaning.specs.Values.{pattern_at, number_at, args_of}
use Rattle.meaning.proofs.Logic.{and-true-left, and-true-right, and_both, false-true}
use Rattle.meaning.proofs.Lists.{below_at}
use Rattle.bits.specs.Sets.{any_below}
use Rattle.matching.specs.Possible.{Possible, cut, any_row, may}
use Rattle.matching.specs.Steps.{fits, fitting, reached, fixed, upward_by, upward, in_table, seen, cut_all, downward_by, downward, choosable_by, choosable, symbols_of, symbol_bit_by, symbol_bit, row_left, variable_left}
use Rattle.matching.specs.Sound.{In, Allows, Table, Bits}
use Rattle.matching.proofs.Numbers.{Held, Free}
use Rattle.bits.proofs.Members.{any_none}
use Rattle.matching.proofs.Sets.{row_here, row-there}
use Rattle.matching.proofs.Allows.{in-low, in-inside, allows-put, allows-cut, allows-sift, allows-shut}
use Rattle.matching.proofs.Numbered.{Numbered, held_low, free-high, held_fits, fixed_same}

module _ (rows : List Row) (rep : ℕ → ℕ) (bound offset : ℕ) (ps : List Pattern) (table : Table rows rep bound offset)
    (a ns : List ℕ) (numbered : Numbered rows rep bound offset ps a ns) where
  abbrev pub Allowed : Possible → Type 0
  Allowed P = Allows bound offset (length ps) P a ns

  abbrev num : ℕ → ℕ
  num p = number_at ns p

  -- ---- upward

  pub free-flag : (P : Possible) → Allowed P → (f : ℕ) (l : List ℕ) (n : ℕ) → Below (length ps) l → Free rows rep offset ps numbered.done ns f l n
      → not (fixed rows rep bound ps P l && fitting rows rep bound ps P f l) ≡ true
  unfolding fitting fits
  free-flag P w f l n b free = go (fixed rows rep bound ps P l) refl (fitting rows rep bound ps P f l) refl
    where
      go : (c : Bool) → fixed rows rep bound ps P l ≡ c → (d : Bool) → fitting rows rep bound ps P f l ≡ d → not (c && d) ≡ true
      go false x d y = refl
      go true x false y = refl
      go true x true y =
          let i : (j : ℕ) × (j < length rows) × (fits rows rep bound ps P f l (row_at rows j) ≡ true) = row-there (λ j r. fits rows rep bound ps P f l r) rows y in
          let r : Row = row_at rows i.0 in
          let s : Bool = eqb f r.symbol in
          let m : Bool = may P.classes l (map rep r.args) in
          absurd
          (free.none i.0 i.1 (eqb-true f r.symbol (and-true-left s m i.2))
          (fixed_same rows rep bound offset ps table ns P w.rows l (map rep r.args) b (table.args i.0 i.1) x (and-true-right s m i.2)))

  -- for code that cuts what it has, and for code that puts it anew
  pub upward-in : (P : Possible) → Allowed P → (p : ℕ) → p < length ps → (f : ℕ) (l : List ℕ) → Below (length ps) l
      → Held rows rep offset ps ns f l (num p) ⊎ Free rows rep offset ps numbered.done ns f l (num p)
      → In bound offset (reached rows rep bound ps P f l) (not (fixed rows rep bound ps P l && fitting rows rep bound ps P f l)) (num p)
  unfolding reached
  upward-in P w p h f l b (inl k) =
      inl (
        held_low rows rep bound offset ps table ns f l (num p) k,
        row_here (λ i r. fits rows rep bound ps P f l r && eqb (num p) (rep i)) rows k.row k.below
            (and_both (fits rows rep bound ps P f l (row_at rows k.row)) (eqb (num p) (rep k.row))
            (held_fits rows rep bound offset ps table ns P w.rows f l (num p) b k)
            (eq-eqb (num p) (rep k.row) k.number)),
      )
  upward-in P w p h f l b (inr k) = inr (omega (arith, k.number), free-flag P w f l (num p) b k)

  pub upward-allows : (p : ℕ) → p < length ps → (P : Possible) → Allowed P → Allowed (upward rows rep bound ps p P)
  unfolding upward upward_by
  upward-allows p h P w = go (pattern_at ps p) refl
    where
      go : (q : Pattern) → pattern_at ps p ≡ q → Allowed (upward_by rows rep bound ps p q P)
      go (variable v) e =
          let g : (v < length a) × (num p ≡ number_at a v) = numbered.given p v h e in
          let small : number_at a v < bound = numbered.small v g.0 in
          allows-put bound offset (length ps) a ns p (P.candidates v) false P
          (λ l. inl (omega (arith, g.1, small), rw g.1 (w.variables v g.0)))
          w
      go (apply f l) e =
          let k : Below (length ps) l × (Held rows rep offset ps ns f l (num p) ⊎ Free rows rep offset ps numbered.done ns f l (num p)) =
          numbered.applied p f l h e in
          allows-put bound offset (length ps) a ns p (reached rows rep bound ps P f l) (not (fixed rows rep bound ps P l && fitting rows rep bound ps P f l)) P
          (λ _. upward-in P w p h f l k.0 k.1)
          w

  -- ---- downward

  pub cut_all_lem : (set : ℕ → ℕ → Bool) (j : ℕ) (l : List ℕ)
      → ((i : ℕ) → i < length l → (num (get_or l i 0) < bound) × (set (j + i) (num (get_or l i 0)) ≡ true))
      → (P : Possible) → Allowed P → Allowed (cut_all set j l P)
  unfolding cut_all
  cut_all_lem set j [] h P w = w
  cut_all_lem set j (p ∷ l) h P w =
      cut_all_lem set (suc j) l
      (λ i b. ((h (suc i) (omega arith)).0, let z : j + suc i ≡ suc j + i = omega arith in subst (λ (n : ℕ). set n (num (get_or l i 0)) ≡ true) z (h (suc i) (omega arith)).1))
      (cut p (set j) false P)
      (allows-cut bound offset (length ps) a ns table.low p (set j) false P
      (λ _. let z : j + 0 ≡ j = omega arith in inl ((h 0 (omega arith)).0, subst (λ (n : ℕ). set n (num p) ≡ true) z (h 0 (omega arith)).1))
      w)

  pub args-length : (l : List ℕ) → length (args_of ns l) ≡ length l
  args-length [] = refl
  args-length (p ∷ l) = ap suc (args-length l)

  pub args_at_lem : (l : List ℕ) (i : ℕ) → i < length l → get_or (args_of ns l) i 0 ≡ num (get_or l i 0)
  args_at_lem [] i h = absurd (omega arith)
  args_at_lem (p ∷ l) zero h = refl
  args_at_lem (p ∷ l) (suc i) h = args_at_lem l i (omega arith)

  module _ (P : Possible) (w : Allowed P) (p : ℕ) (h : p < length ps) (f : ℕ) (l : List ℕ) (b : Below (length ps) l) (k : Held rows rep offset ps ns f l (num p)) where
    abbrev xs : List ℕ
    xs = map rep (row_at rows k.row).args

    table-row : in_table rows rep bound ps P p f l k.row (row_at rows k.row) ≡ true
    unfolding in_table
    table-row =
        and_both (P.classes p (rep k.row)) (fits rows rep bound ps P f l (row_at rows k.row))
        (subst (λ (n : ℕ). P.classes p n ≡ true) k.number
        (in-low bound offset table.low (P.classes p) (P.outside p) (num p) (held_low rows rep bound offset ps table ns f l (num p) k) (w.rows p h)))
        (held_fits rows rep bound offset ps table ns P w.rows f l (num p) b k)

    seen_at : (i : ℕ) → i < length l → (num (get_or l i 0) < bound) × (seen rows rep bound ps P p f l (0 + i) (num (get_or l i 0)) ≡ true)
    unfolding seen
    seen_at i c =
        let e : num (get_or l i 0) ≡ get_or xs i 0 = sym (args_at_lem l i c) ∙ ap (λ (m : List ℕ). get_or m i 0) k.args in
        let n : length xs ≡ length l = sym (ap length k.args) ∙ args-length l in
        let z : 0 + i ≡ i = omega arith in (
          omega (arith, e, below_at bound xs (table.args k.row k.below) i (omega arith)),
          rw z
              (row_here (λ j r. in_table rows rep bound ps P p f l j r && eqb (num (get_or l i 0)) (get_or (map rep r.args) i 0)) rows k.row k.below
              (and_both (in_table rows rep bound ps P p f l k.row (row_at rows k.row)) (eqb (num (get_or l i 0)) (get_or xs i 0)) table-row
              (eq-eqb (num (get_or l i 0)) (get_or xs i 0) e))),
        )

    downward-held : Allowed (downward_by rows rep bound ps p (apply f l) P)
    unfolding downward_by
    downward-held = go (P.outside p) refl
      where
        go : (o : Bool) → P.outside p ≡ o → Allowed (downward_by rows rep bound ps p (apply f l) P)
        go true e = rw (e, downward_by) w
        go false e =
            rw (e, downward_by)
            (allows-shut bound offset (length ps) a ns (not (any_row (in_table rows rep bound ps P p f l) 0 rows)) (cut_all (seen rows rep bound ps P p f l) 0 l P)
            (λ n. false-true (row_here (in_table rows rep bound ps P p f l) rows k.row k.below table-row) (not-true (any_row (in_table rows rep bound ps P p f l) 0 rows) n))
            (cut_all_lem (seen rows rep bound ps P p f l) 0 l seen_at P w))

  pub downward-allows : (p : ℕ) → p < length ps → (P : Possible) → Allowed P → Allowed (downward rows rep bound ps p P)
  unfolding downward downward_by
  downward-allows p h P w = go (pattern_at ps p) refl
    where
      go : (q : Pattern) → pattern_at ps p ≡ q → Allowed (downward_by rows rep bound ps p q P)
      go (variable v) e = w
      go (apply f l) e = by (numbered.applied p f l h e).0 (numbered.applied p f l h e).1
        where
          by : Below (length ps) l → Held rows rep offset ps ns f l (num p) ⊎ Free rows rep offset ps numbered.done ns f l (num p)
              → Allowed (downward_by rows rep bound ps p (apply f l) P)
          by b (inl k) = downward-held P w p h f l b k
          by b (inr k) = out (P.outside p) refl
            where
              out : (o : Bool) → P.outside p ≡ o → Allowed (downward_by rows rep bound ps p (apply f l) P)
              out true x = rw (x, downward_by) w
              out false x =
                  absurd
                  (free-high rows rep bound offset ps table ns numbered.done f l (num p) k
                  (in-inside bound offset table.low (P.classes p) (P.outside p) (num p) x (w.rows p h)).0)

  -- ---- candidates

  pub choosable-allows : (p : ℕ) → p < length ps → (P : Possible) → Allowed P → Allowed (choosable rows rep bound ps p P)
  unfolding choosable choosable_by
  choosable-allows p h P w = go (pattern_at ps p) refl
    where
      go : (q : Pattern) → pattern_at ps p ≡ q → Allowed (choosable_by rows rep bound ps p q P)
      go (variable v) e =
          let g : (v < length a) × (num p ≡ number_at a v) = numbered.given p v h e in
          allows-sift bound offset (length ps) a ns v (P.classes p) P
          (λ l. subst (λ (n : ℕ). P.classes p n ≡ true) g.1
          (in-low bound offset table.low (P.classes p) (P.outside p) (num p) (omega (arith, g.1, numbered.small v l)) (w.rows p h)))
          w
      go (apply f l) e = w

  -- ---- symbols as bits

  pub symbols-bits : Bits rows rep (symbols_of rows rep bound ps)
  unfolding symbols_of
  symbols-bits =
      record {
        has = λ i h.
            let b : ℕ = (row_at rows i).symbol % 64 in
            row_here (λ j r. eqb (rep i) (rep j) && eqb b (r.symbol % 64)) rows i h
            (and_both (eqb (rep i) (rep i)) (eqb b b) (eq-eqb (rep i) (rep i) refl) (eq-eqb b b refl));
      }

  pub bit-allows : (bits : ℕ → ℕ → Bool) → Bits rows rep bits → (p : ℕ) → p < length ps → (P : Possible) → Allowed P → Allowed (symbol_bit rows rep bound ps bits p P)
  unfolding symbol_bit symbol_bit_by
  bit-allows bits m p h P w = go (pattern_at ps p) refl
    where
      go : (q : Pattern) → pattern_at ps p ≡ q → Allowed (symbol_bit_by rows rep bound ps bits p q P)
      go (variable v) e = w
      go (apply f l) e = allows-cut bound offset (length ps) a ns table.low p (λ x. bits x (f % 64)) true P (λ _. in-bit (numbered.applied p f l h e).1) w
        where
          in-bit : Held rows rep offset ps ns f l (num p) ⊎ Free rows rep offset ps numbered.done ns f l (num p) → In bound offset (λ x. bits x (f % 64)) true (num p)
          in-bit (inl k) = inl (held_low rows rep bound offset ps table ns f l (num p) k, rw (k.number, k.symbol) (m.has k.row k.below))
          in-bit (inr k) = inr (omega (arith, k.number), refl)

  -- ---- nothing left

  pub row-left-allows : (p : ℕ) → p < length ps → (P : Possible) → Allowed P → Allowed (row_left rows rep bound ps p P)
  unfolding row_left
  row-left-allows p h P w =
      allows-shut bound offset (length ps) a ns (not (P.outside p) && not (any_below bound (P.classes p))) P
      (λ e.
      let o : P.outside p ≡ false = not-true (P.outside p) (and-true-left (not (P.outside p)) (not (any_below bound (P.classes p))) e) in
      let n : any_below bound (P.classes p) ≡ false =
      not-true (any_below bound (P.classes p)) (and-true-right (not (P.outside p)) (not (any_below bound (P.classes p))) e) in
      let i : (num p < bound) × (P.classes p (num p) ≡ true) = in-inside bound offset table.low (P.classes p) (P.outside p) (num p) o (w.rows p h) in
      any_none bound (P.classes p) (num p) n i.0 i.1)
      w

  pub variable-left-allows : (v : ℕ) → v < length a → (P : Possible) → Allowed P → Allowed (variable_left rows rep bound ps v P)
  unfolding variable_left
  variable-left-allows v h P w =
      allows-shut bound offset (length ps) a ns (not (any_below bound (P.candidates v))) P
      (λ e. any_none bound (P.candidates v) (number_at a v) (not-true (any_below bound (P.candidates v)) e) (numbered.small v h) (w.variables v h))
      w
