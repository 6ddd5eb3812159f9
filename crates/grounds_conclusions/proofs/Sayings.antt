-- What shows a literal, as the code writes it.
--     Placing                   a loop over stated differences: the first so many have two labels
--     said_of                   what is said by a literal's kind is said for the literal
--     placing, saying           what the functions of this crate leave to show
-- Assumes nothing.
use mathlib.Core.Bool.{Bool, true, false, not}
use mathlib.Core.List.{List}
use mathlib.Core.Path.{◌≡◌, refl, ap, ap₂, sym, ◌∙◌, subst}
use Prim.Native.Nat.{ℕ, suc, ◌+◌, ◌-◌, ◌≤◌, ◌<◌}
use native.Mathlib.Numerals.{add-one}
use native.Mathlib.Omega.{arith}
use lib.Dec.{eqb}
use Rattle.std.specs.Prelude.{Option}
use Rattle.std.specs.Option.{unwrap_or}
use borrow.Author.Rules.{rules}
use borrow.Author.Tests.{eq-eqb, ne_eqb}
use Rattle.meaning.specs.Context.{Row, left_at, right_at}
use Rattle.meaning.specs.Values.{number_at}
use Rattle.meaning.specs.Columns.{literal_of}
use Rattle.meaning.specs.Checking.{first_false}
use Rattle.grounds_numbers.specs.Limits.{most_numbers}
use Rattle.grounds_numbers.specs.Pairs.{pair_count, pairs_in}
use Rattle.grounds_numbers.proofs.Pairing.{pairs-length}
use Rattle.grounds_laws.specs.Draft.{Wrote}
use Rattle.grounds_laws.specs.Classes.{State, state_of, same}
use Rattle.grounds_laws.specs.Rounds.{one_label}
use Rattle.grounds_laws.specs.Concluding.{parted, place_same, Found, said_equal, said_same, said_differ, said_by, said}
use Rattle.grounds_classes.specs.Settling.{furthered_by}
use Rattle.grounds_conclusions.specs.Saying.{Says, differing_by, saying_by}

-- ---- the first stated difference

module _ (table pairs : List ℕ) where
  abbrev diffs : List (ℕ × ℕ)
  diffs = pairs_in pairs

  abbrev count : ℕ
  count = pair_count pairs

  abbrev test : ℕ → Bool
  test i = parted table diffs i

  pub record Placing (i : ℕ) : Type 0 where
    pub so : place_same table diffs ≡ first_false test i (count - i)
    pub reach : i ≤ count

  pub placing-start : Placing 0
  unfolding place_same
  placing-start = record { so = ap (first_false test 0) (pairs-length pairs ∙ omega arith); reach = omega arith }

  one_more : (i : ℕ) → i < count → Placing i → (b : Bool) → test i ≡ b → place_same table diffs ≡ elim b [ true ↦ first_false test (suc i) (count - suc i) | false ↦ i ]
  unfolding first_false
  one_more i h w b e = let z : count - i ≡ suc (count - suc i) = omega arith in w.so ∙ ap (first_false test i) z ∙ rw (e, first_false)

  module _ {i m l r : ℕ} {b : Bool} (w : Placing i) (n : m ≡ count) (h : i < m) (el : l ≡ left_at diffs i) (er : r ≡ right_at diffs i) (e : b ≡ one_label table l r) where
    tested : test i ≡ not b
    unfolding parted
    tested = ap not (ap₂ (one_label table) (sym el) (sym er) ∙ sym e)

    pub placing-next : b ≡ false → Placing (i + 1)
    placing-next f = record { so = rw add-one (one_more i (omega arith) w true (tested ∙ ap not f)); reach = omega arith }

    pub placing-found : b ≡ true → Found table diffs i
    placing-found f = record { place = sym (one_more i (omega arith) w false (tested ∙ ap not f)); most = omega (arith, pairs-length pairs) }

  pub placing-done : {i m : ℕ} → Placing i → m ≡ count → m ≤ i → Found table diffs count
  unfolding first_false
  placing-done {i} {m} w n h =
      let e : i ≡ count = omega (arith, w.reach) in
      let z : count - i ≡ 0 = omega arith in
      record { place = sym (w.so ∙ ap (first_false test i) z ∙ e); most = omega (arith, pairs-length pairs) }

  pub placed-is : (o : Option ℕ) {i m : ℕ} → Found table diffs (unwrap_or o count) → m ≡ count → i ≡ unwrap_or o m → Found table diffs i
  placed-is o f e q = subst (Found table diffs) (sym (q ∙ ap (unwrap_or o) e)) f

  pub placed-few : {i : ℕ} → Found table diffs i → count + 1 < most_numbers → i + 1 < most_numbers
  placed-few w h = omega (arith, w.most, pairs-length pairs)

  pub placed-sum : {i : ℕ} → Found table diffs i → count + 1 < most_numbers → i + 1 < 18446744073709551616
  placed-sum w h = omega (arith, placed-few w h)

-- ---- what is said

pub equal-said : (cells table : List ℕ) (x y : ℕ) {after : List ℕ} {w : ℕ} → Wrote after w (same cells table x y) → Says after w 0 (said_equal cells table x y)
unfolding said_equal
equal-said cells table x y e = record { column = e.column; step = e.step; stated = refl }

pub same-said : (cells table pairs : List ℕ) {after : List ℕ} {i l r w : ℕ} → Found table (pairs_in pairs) i → l ≡ left_at (pairs_in pairs) i → r ≡ right_at (pairs_in pairs) i
    → Wrote after w (same cells table l r)
    → Says after w (i + 1) (said_same cells table (pairs_in pairs))
unfolding said_same
same-said cells table pairs found el er e = rw (sym found.place, sym el, sym er) (record { column = e.column; step = e.step; stated = refl })

pub differ-said : (keys pairs : List ℕ) (x y : ℕ) (cells table : List ℕ) {own cells' own' after : List ℕ} {first difference : ℕ} → own ≡ table
    → state_of cells' own' ≡ furthered_by keys x y (state_of cells own)
    → Says after first difference (said_same cells' own' (pairs_in pairs))
    → Says after first difference (differing_by keys pairs x y (state_of cells table))
unfolding said_differ
differ-said keys pairs x y cells table {own} {cells'} {own'} {after} {first} {difference} c w e =
    subst (λ (s : State). Says after first difference (said_same s.cells s.table (pairs_in pairs))) (w ∙ ap (λ (l : List ℕ). furthered_by keys x y (state_of cells l)) c) e

module _ (keys pairs : List ℕ) (kind x y : ℕ) (cells table : List ℕ) {after : List ℕ} {first difference : ℕ} where
  pub by_equal : kind ≡ 6 → Says after first difference (said_equal cells table x y) → Says after first difference (saying_by keys pairs kind x y (state_of cells table))
  unfolding said_by
  by_equal e w = rw (eq-eqb kind 6 e, said_by) w

  pub by-differ : (kind ≡ 6 → ⊥) → Says after first difference (differing_by keys pairs x y (state_of cells table))
      → Says after first difference (saying_by keys pairs kind x y (state_of cells table))
  unfolding said_by
  by-differ d w = rw (ne_eqb kind 6 d, said_by) w

-- ---- a literal

module _ (n : ℕ) (ks : List Row) (ns : List ℕ) (rows : ℕ) (diffs : List (ℕ × ℕ)) where
  pub said_of : (kind p q : ℕ) (state : State)
      → said n ks ns rows diffs (literal_of kind p q) state ≡ said_by n ks diffs kind (number_at ns (rows + p)) (number_at ns (rows + q)) state
  unfolding said said_by literal_of
  said_of kind p q state = go (eqb kind 6) refl
    where
      go : (b : Bool) → eqb kind 6 ≡ b → said n ks ns rows diffs (literal_of kind p q) state ≡ said_by n ks diffs kind (number_at ns (rows + p)) (number_at ns (rows + q)) state
      go true e = rw (e, literal_of, said_by)
      go false e = rw (e, literal_of, said_by)

pub ruleset placing = (rules, placing-start, placing-next, placing-found, placing-done)

pub ruleset saying = (rules, placed-is, placed-few, placed-sum, equal-said, same-said, differ-said, by_equal, by-differ)
