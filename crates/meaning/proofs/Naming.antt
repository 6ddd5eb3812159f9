-- Numbers that name values: any relation of numbers and values in which each class names itself and one number goes with one value.
--     Naming, Fair, Classes    such a relation; one number, one value; a number below the limit names its class
--     Nameds                   a list of numbers names the values at its places
--     fair-more                one more name, which is old, or new on both sides
--     held-settle              the look-up by numbers and the look-up by values go alike
--     met-cases                what the look-up among the pattern rows read answers
-- Assumes nothing.
use mathlib.Core.Bool.{Bool, true, false, ◌&&◌}
use mathlib.Core.List.{List, [], ◌∷◌, map}
use mathlib.Core.Path.{◌≡◌, refl, ap₂, sym, ◌∙◌, subst}
use mathlib.Core.Logic.{◌⊎◌, inl, inr, ◌↔◌}
use Prim.Native.Nat.{ℕ, suc, ◌+◌, ◌<◌}
use native.Mathlib.Omega.{arith}
use lib.Dec.{eqb}
use borrow.Author.Tests.{eqb-true, eq-eqb}
use lib.ListN.{length}
use Rattle.meaning.specs.Context.{Row, row_at}
use Rattle.meaning.specs.Rules.{Pattern, apply, Below}
use Rattle.meaning.specs.ByTable.{same_list}
use Rattle.meaning.specs.Values.{pattern_at, number_at, args_of, held, is_over, met}
use Rattle.meaning.proofs.Logic.{and-true-left, and-true-right, and_both, bool_same}
use Rattle.meaning.proofs.Lists.{same_list-true, same_list-self}
use Rattle.meaning.proofs.Model.{Val, Vals, at_row, app, vstop, vmore, row_vals, are_rows, settle}
use Rattle.meaning.proofs.Meaning.{are_rows-true, are_rows-self}
use Rattle.meaning.proofs.Box.{Mem}

-- ---- names

abbrev pub Naming : Type 1
Naming = ℕ → Val → Type 0

-- one number, one value
abbrev pub Fair : Naming → Type 0
Fair Named = (n m : ℕ) (v w : Val) → Named n v → Named m w → (n ≡ m) ↔ (v ≡ w)

abbrev pub Classes : ℕ → Naming → Type 0
Classes limit Named = (n : ℕ) → n < limit → Named n (at_row n)

abbrev pub Nameds : Naming → List ℕ → Vals → Type 0
Nameds Named [] vstop = Unit {0}
Nameds Named [] (vmore v vs) = ⊥
Nameds Named (n ∷ ns) vstop = ⊥
Nameds Named (n ∷ ns) (vmore v vs) = Named n v × Nameds Named ns vs

-- the representatives of some rows, from row i on, and of their arguments stand below a limit
abbrev pub Small : (ℕ → ℕ) → ℕ → ℕ → List Row → Type 0
Small rep limit i rs = (k : ℕ) → k < length rs → (rep (i + k) < limit) × Below limit (map rep (row_at rs k).args)

-- the look-ups of a symbol over numbers and over values among some rows, from row i on: both find a class, or neither does
abbrev pub Alike : (ℕ → ℕ) → ℕ → ℕ → List ℕ → Vals → ℕ → ℕ → List Row → Type 0
Alike rep limit f ns vs d i rs =
    ((n : ℕ) × (n < limit) × (held rep f ns d i rs ≡ n) × (settle rep f vs i rs ≡ at_row n))
    ⊎ ((held rep f ns d i rs ≡ d) × (settle rep f vs i rs ≡ app f vs))

module _ (Named : Naming) where
  nameds-class : (limit : ℕ) → Classes limit Named → (l : List ℕ) → Below limit l → Nameds Named l (row_vals l)
  unfolding row_vals
  nameds-class limit c [] b = tt
  nameds-class limit c (a ∷ l) b = (c a b.0, nameds-class limit c l b.1)

  pub fair-values : Fair Named → (ns ms : List ℕ) (vs ws : Vals) → Nameds Named ns vs → Nameds Named ms ws → ns ≡ ms → vs ≡ ws
  fair-values f [] [] vstop vstop h k e = refl
  fair-values f [] [] vstop (vmore w ws) h k e = absurd k
  fair-values f [] [] (vmore v vs) ws h k e = absurd h
  fair-values f [] (m ∷ ms) vs ws h k e = cc
  fair-values f (n ∷ ns) [] vs ws h k e = cc
  fair-values f (n ∷ ns) (m ∷ ms) vstop ws h k e = absurd h
  fair-values f (n ∷ ns) (m ∷ ms) (vmore v vs) vstop h k e = absurd k
  fair-values f (n ∷ ns) (m ∷ ms) (vmore v vs) (vmore w ws) h k e =
      let p : n ≡ m = cc in
      let q : ns ≡ ms = cc in
      ap₂ vmore ((f n m v w h.0 k.0).0 p) (fair-values f ns ms vs ws h.1 k.1 q)

  pub fair-numbers : Fair Named → (ns ms : List ℕ) (vs ws : Vals) → Nameds Named ns vs → Nameds Named ms ws → vs ≡ ws → ns ≡ ms
  fair-numbers f [] [] vs ws h k e = refl
  fair-numbers f [] (m ∷ ms) vstop vstop h k e = absurd k
  fair-numbers f [] (m ∷ ms) vstop (vmore w ws) h k e = cc
  fair-numbers f [] (m ∷ ms) (vmore v vs) ws h k e = absurd h
  fair-numbers f (n ∷ ns) [] vs vstop h k e = absurd (rw e at h)
  fair-numbers f (n ∷ ns) [] vs (vmore w ws) h k e = absurd k
  fair-numbers f (n ∷ ns) (m ∷ ms) vstop ws h k e = absurd h
  fair-numbers f (n ∷ ns) (m ∷ ms) (vmore v vs) vstop h k e = absurd k
  fair-numbers f (n ∷ ns) (m ∷ ms) (vmore v vs) (vmore w ws) h k e =
      let p : v ≡ w = cc in
      let q : vs ≡ ws = cc in
      ap₂ ◌∷◌ ((f n m v w h.0 k.0).1 p) (fair-numbers f ns ms vs ws h.1 k.1 q)

  -- neither the number nor the value has been named
  pub record Fresh (x : ℕ) (y : Val) : Type 0 where
    pub unused : (n : ℕ) (v : Val) → Named n v → n ≡ x → ⊥
    pub unmet : (n : ℕ) (v : Val) → Named n v → v ≡ y → ⊥

  pub fair-more : Fair Named → (New : Naming) (x : ℕ) (y : Val)
      → ((n : ℕ) (v : Val) → New n v → Named n v ⊎ ((n ≡ x) × (v ≡ y)))
      → Named x y ⊎ Fresh x y → Fair New
  fair-more f New x y back o n m v w p q = go (back n v p) (back m w q) o
    where
      go : Named n v ⊎ ((n ≡ x) × (v ≡ y)) → Named m w ⊎ ((m ≡ x) × (w ≡ y)) → Named x y ⊎ Fresh x y → (n ≡ m) ↔ (v ≡ w)
      go (inl a) (inl b) z = f n m v w a b
      go (inr a) (inr b) z = (λ _. a.1 ∙ sym b.1, λ _. a.0 ∙ sym b.0)
      go (inl a) (inr b) (inl z) = f n m v w a (rw (b.0, b.1) z)
      go (inr a) (inl b) (inl z) = f n m v w (rw (a.0, a.1) z) b
      go (inl a) (inr b) (inr z) = (λ e. absurd (z.unused n v a (e ∙ b.0)), λ e. absurd (z.unmet n v a (e ∙ b.1)))
      go (inr a) (inl b) (inr z) = (λ e. absurd (z.unused m w b (sym e ∙ a.0)), λ e. absurd (z.unmet m w b (sym e ∙ a.1)))

  -- ---- the look-up among the context rows

  module _ (rep : ℕ → ℕ) (limit : ℕ) (fair : Fair Named) (classes : Classes limit Named) (f : ℕ) (ns : List ℕ) (vs : Vals) (named : Nameds Named ns vs) where
    same_test : (l : List ℕ) → Below limit l → same_list ns l ≡ are_rows vs l
    same_test l b =
        bool_same (same_list ns l) (are_rows vs l)
        (λ e. let q : vs ≡ row_vals l = fair-values fair ns l vs (row_vals l) named (nameds-class limit classes l b) (same_list-true ns l e) in rw q (are_rows-self l))
        (λ e. let q : ns ≡ l = fair-numbers fair ns l vs (row_vals l) named (nameds-class limit classes l b) (are_rows-true vs l e) in rw q (same_list-self l))

    pub held-settle : (d i : ℕ) (rs : List Row) → Small rep limit i rs → Alike rep limit f ns vs d i rs
    unfolding held settle
    held-settle d i [] s = inr (refl, refl)
    held-settle d i (r ∷ rs) s = go (eqb f r.symbol && are_rows vs (map rep r.args)) refl (held-settle d (suc i) rs rest)
      where
        rest : Small rep limit (suc i) rs
        rest k h =
            let e : i + suc k ≡ suc i + k = omega arith in
            (subst (λ (x : ℕ). rep x < limit) e (s (suc k) (omega arith)).0, (s (suc k) (omega arith)).1)

        here : rep i < limit
        here = let e : i + 0 ≡ i = omega arith in subst (λ (x : ℕ). rep x < limit) e (s 0 (omega arith)).0

        go : (b : Bool) → (eqb f r.symbol && are_rows vs (map rep r.args)) ≡ b → Alike rep limit f ns vs d (suc i) rs → Alike rep limit f ns vs d i (r ∷ rs)
        go true e w = rw (same_test (map rep r.args) (s 0 (omega arith)).1, held, settle, e) (inl (rep i, here, refl, refl))
        go false e w = rw (same_test (map rep r.args) (s 0 (omega arith)).1, held, settle, e) w

-- ---- the look-up among the pattern rows read

pub over-true : (f : ℕ) (args ns : List ℕ) (g : ℕ) (l : List ℕ) → is_over f args ns (apply g l) ≡ true → (f ≡ g) × (args ≡ args_of ns l)
unfolding is_over
over-true f args ns g l e = (
  eqb-true f g (and-true-left (eqb f g) (same_list args (args_of ns l)) e),
  same_list-true args (args_of ns l) (and-true-right (eqb f g) (same_list args (args_of ns l)) e),
)

pub over-self : (f : ℕ) (args ns : List ℕ) (g : ℕ) (l : List ℕ) → f ≡ g → args ≡ args_of ns l → is_over f args ns (apply g l) ≡ true
unfolding is_over
over-self f args ns g l e q = and_both (eqb f g) (same_list args (args_of ns l)) (eq-eqb f g e) (rw q (same_list-self (args_of ns l)))

module _ (ps : List Pattern) (f : ℕ) (args ns : List ℕ) (d : ℕ) where
  abbrev pub MetCases : List ℕ → Type 0
  MetCases qs =
      ((q : ℕ) × Mem q qs × (is_over f args ns (pattern_at ps q) ≡ true) × (met ps f args ns d qs ≡ number_at ns q))
      ⊎ ((met ps f args ns d qs ≡ d) × ((q : ℕ) → Mem q qs → is_over f args ns (pattern_at ps q) ≡ false))

  pub met-cases : (qs : List ℕ) → MetCases qs
  unfolding met
  met-cases [] = inr (refl, λ q m. absurd m)
  met-cases (q ∷ qs) = go (is_over f args ns (pattern_at ps q)) refl (met-cases qs)
    where
      go : (b : Bool) → is_over f args ns (pattern_at ps q) ≡ b → MetCases qs → MetCases (q ∷ qs)
      go true e w = inl (q, inl refl, e, rw (e, met) refl)
      go false e (inl w) = inl (w.0, inr w.1, w.2, rw (e, met) w.3)
      go false e (inr w) = inr (rw (e, met) w.0, other)
        where
          other : (p : ℕ) → Mem p (q ∷ qs) → is_over f args ns (pattern_at ps p) ≡ false
          other p (inl u) = rw u e
          other p (inr u) = w.1 p u
