-- A row that is a symbol, and whether a context row fits it.
--     symbol-again, row-ask .. arg-set   what is asked, once it is asked of more
--     arg-room, arg-fits         an argument's set, and the class in it
--     head-yes .. head-row       whether the symbols and the counts are the same
--     FitsTo, fits-start .. fits-misfit  whether the arguments fit, one by one
-- Assumes nothing.
use mathlib.Core.Bool.{Bool, true, false, not}
use mathlib.Core.List.{List}
use mathlib.Core.Path.{◌≡◌, refl, ap, sym, ◌∙◌, subst}
use Prim.Native.Nat.{ℕ, ◌+◌, ◌*◌, ◌/◌, ◌≤◌, ◌<◌}
use native.Mathlib.Omega.{arith}
use borrow.Author.Rules.{rules}
use borrow.Author.Tests.{eqb-true, eqb-false, eq-eqb, not-true}
use lib.Dec.{eqb}
use lib.ListN.{length, get_or}
use Rattle.meaning.proofs.Logic.{false-true}
use Rattle.bits.specs.Sets.{has}
use Rattle.runs.specs.Limits.{arg_places}
use Rattle.runs.specs.Runs.{row_count, symbol_in, count_in, arg_in, pattern_count, head_in, pattern_count_in, pattern_arg_in}
use Rattle.runs.specs.Fit.{Decides}
use Rattle.search_sets.specs.Rising.{Symbol, SameHead, RowAsk, HeadAsk, ArgAsk, ArgFits, FitsIn}
use Rattle.search_sets.proofs.Changed.{sets-apart}

-- ---- what is asked

pub symbol-again : (rows table patterns : List ℕ) (size more width p : ℕ) → Symbol rows table patterns size width p → more ≡ size → Symbol rows table patterns more width p
symbol-again rows table patterns size more width p h e = subst (λ (n : ℕ). Symbol rows table patterns n width p) (sym e) h

pub row-ask : (rows table patterns : List ℕ) (size width p i : ℕ) → Symbol rows table patterns size width p → i < row_count rows → RowAsk rows table patterns size width p i
row-ask rows table patterns size width p i h l = record { symbol = h; below = l }

pub row_below : (rows table patterns : List ℕ) (size width p i : ℕ) → RowAsk rows table patterns size width p i → i < row_count rows
row_below rows table patterns size width p i h = h.below

pub row-entry : (rows table patterns : List ℕ) (size width p i : ℕ) → RowAsk rows table patterns size width p i → i < length table
row-entry rows table patterns size width p i h = omega (arith, h.below, h.symbol.long)

pub pattern-below : (rows table patterns : List ℕ) (size width p i : ℕ) → RowAsk rows table patterns size width p i → p < pattern_count patterns
pattern-below rows table patterns size width p i h = h.symbol.row.row

module _ (rows table patterns : List ℕ) (size width p i k : ℕ) (h : ArgAsk rows table patterns size width p i k) where
  pub arg-few : k < arg_places
  arg-few = omega (arith, h.place, (h.ask.symbol.placed.each i h.ask.below).few)

  pub arg-row : i < row_count rows
  arg-row = h.ask.below

  pub arg-pattern : p < pattern_count patterns
  arg-pattern = h.ask.symbol.row.row

  arg-earlier : arg_in rows i k < i
  arg-earlier = (h.ask.symbol.placed.each i h.ask.below).earlier.each k h.place

  pub arg-entry : (j : ℕ) → j ≡ arg_in rows i k → j < length table
  arg-entry j e = omega (arith, e, arg-earlier, h.ask.below, h.ask.symbol.long)

  pattern-earlier : pattern_arg_in patterns p k < p
  pattern-earlier = h.ask.symbol.args.earlier.each k (omega (arith, h.head.count, h.place))

  pub arg-set : (a : ℕ) → a ≡ pattern_arg_in patterns p k → a < 69
  arg-set a e = omega (arith, e, pattern-earlier, h.ask.symbol.row.row, h.ask.symbol.row.room.few)

  pub arg-room : (b a c j : ℕ) → a ≡ pattern_arg_in patterns p k → b ≡ a * width → j ≡ arg_in rows i k → c ≡ get_or table j 0 → b + c / 64 < size
  arg-room b a c j ea eb ej ec =
      let l : get_or table (arg_in rows i k) 0 < width * 64 = h.ask.symbol.entries (arg_in rows i k) (omega (arith, arg-earlier, h.ask.below)) in
      let m : a * width + width ≤ (pattern_count patterns + 4) * width = sets-apart width a (pattern_count patterns + 4) (omega (arith, ea, pattern-earlier, h.ask.symbol.row.row)) in
      omega (arith, eb, ec ∙ ap (λ (n : ℕ). get_or table n 0) ej, l, m, h.ask.symbol.row.room.long)

  pub arg-fits : (b a c j : ℕ) (sets : List ℕ) (r : Bool) → a ≡ pattern_arg_in patterns p k → b ≡ a * width → j ≡ arg_in rows i k → c ≡ get_or table j 0 → r ≡ has sets b c
      → r ≡ has sets (pattern_arg_in patterns p k * width) (get_or table (arg_in rows i k) 0)
  arg-fits b a c j sets r ea eb ej ec e =
      e ∙ ap (λ (n : ℕ). has sets n c) (eb ∙ ap (λ (n : ℕ). n * width) ea) ∙ ap (has sets (pattern_arg_in patterns p k * width)) (ec ∙ ap (λ (n : ℕ). get_or table n 0) ej)

-- ---- whether a context row fits

pub not-false : (r : Bool) → not r ≡ false → r ≡ true
not-false true e = refl
not-false false e = sym e

pub head-yes : (rows patterns : List ℕ) (p i x y n m : ℕ) → x ≡ symbol_in rows i → y ≡ head_in patterns p → x ≡ y → n ≡ count_in rows i → m ≡ pattern_count_in patterns p
    → Decides (eqb n m) (SameHead rows patterns p i)
head-yes rows patterns p i x y n m ex ey e en em =
    record {
      holds = λ t. record { symbol = sym ex ∙ e ∙ ey; count = sym en ∙ eqb-true n m t ∙ em };
      sure = λ f. eq-eqb n m (en ∙ f.count ∙ sym em);
    }

pub head-no : (rows patterns : List ℕ) (p i x y : ℕ) → x ≡ symbol_in rows i → y ≡ head_in patterns p → (x ≡ y → ⊥) → Decides false (SameHead rows patterns p i)
head-no rows patterns p i x y ex ey n = record { holds = λ e. false-true e refl; sure = λ f. absurd (n (ex ∙ f.symbol ∙ sym ey)) }

pub head-ask : (rows table patterns : List ℕ) (size width p i : ℕ) (r : Bool) → RowAsk rows table patterns size width p i → Decides r (SameHead rows patterns p i) → r ≡ true
    → HeadAsk rows table patterns size width p i
head-ask rows table patterns size width p i r h d e = record { ask = h; head = d.holds e }

pub head-misfits : (rows table patterns sets : List ℕ) (width p i : ℕ) (r : Bool) → Decides r (SameHead rows patterns p i) → r ≡ false → Decides false (FitsIn rows table patterns sets width p i)
head-misfits rows table patterns sets width p i r d e = record { holds = λ t. false-true t refl; sure = λ f. false-true (d.sure f.head) e }

-- the first k arguments fit
pub record FitsTo (rows table patterns sets : List ℕ) (width p i n k : ℕ) : Type 0 where
  pub all : n ≡ count_in rows i
  pub within : k ≤ n
  pub args : (j : ℕ) → j < k → ArgFits rows table patterns sets width p i j

pub fits-start : (rows table patterns sets : List ℕ) (width p i n k : ℕ) → n ≡ count_in rows i → k ≡ 0 → FitsTo rows table patterns sets width p i n k
fits-start rows table patterns sets width p i n k en z = record { all = en; within = omega arith; args = λ j h. absurd (omega arith) }

pub fits-turn : (rows table patterns sets : List ℕ) (width p i n k m : ℕ) (r : Bool) → FitsTo rows table patterns sets width p i n k
    → r ≡ has sets (pattern_arg_in patterns p k * width) (get_or table (arg_in rows i k) 0) → not r ≡ false → k < n → m ≡ k + 1 → FitsTo rows table patterns sets width p i n m
fits-turn rows table patterns sets width p i n k m r f e t l q = record { all = f.all; within = omega arith; args = λ j h. go j h (eqb j k) refl }
  where
    go : (j : ℕ) → j < m → (b : Bool) → eqb j k ≡ b → ArgFits rows table patterns sets width p i j
    go j h true z = subst (λ (l : ℕ). ArgFits rows table patterns sets width p i l) (sym (eqb-true j k z)) (sym e ∙ not-false r t)
    go j h false z = f.args j (omega (arith, eqb-false j k z))

pub fits-end : (rows table patterns sets : List ℕ) (size width p i n k : ℕ) → HeadAsk rows table patterns size width p i → FitsTo rows table patterns sets width p i n k → n ≤ k
    → Decides true (FitsIn rows table patterns sets width p i)
fits-end rows table patterns sets size width p i n k h f g =
    record { holds = λ _. record { head = h.head; args = λ j l. f.args j (omega (arith, f.all)) }; sure = λ _. refl }

pub fits-misfit : (rows table patterns sets : List ℕ) (width p i n k : ℕ) (r : Bool) → FitsTo rows table patterns sets width p i n k
    → r ≡ has sets (pattern_arg_in patterns p k * width) (get_or table (arg_in rows i k) 0) → not r ≡ true → k < n → Decides false (FitsIn rows table patterns sets width p i)
fits-misfit rows table patterns sets width p i n k r g e t l =
    record { holds = λ z. false-true z refl; sure = λ f. false-true (f.args k (omega (arith, g.all, l))) (sym e ∙ not-true r t) }

pub arg-ask : (rows table patterns sets : List ℕ) (size width p i n k : ℕ) → HeadAsk rows table patterns size width p i → FitsTo rows table patterns sets width p i n k → k < n
    → ArgAsk rows table patterns size width p i k
arg-ask rows table patterns sets size width p i n k h f l = record { ask = h.ask; head = h.head; place = omega (arith, f.all, l) }

pub head-row : (rows table patterns : List ℕ) (size width p i : ℕ) → HeadAsk rows table patterns size width p i → i < row_count rows
head-row rows table patterns size width p i h = h.ask.below

pub ruleset mine = (rules, symbol-again, row-ask, row_below, row-entry, pattern-below, arg-ask, arg-few, arg-row, arg-pattern, arg-entry, arg-set, arg-room, arg-fits, head-yes, head-no, head-ask, head-misfits, head-row, fits-start, fits-turn, fits-end, fits-misfit)
