-- The normal texts of two contexts with the same rows agree just where the same rows are equal and the same are kept apart.
--     parts-chosen, chosen-parts  the differences of a normal context: pairs of representatives, lower first, that are kept apart
--     normal-alike, alike-normal  alike contexts have one normal context, and only they
--     normal-agree                the texts of the normal contexts agree just where the contexts are alike
--     normal-one                  any two tables that represent a context give it one normal context
-- Assumes nothing.
use mathlib.Core.Bool.{true, false}
use mathlib.Core.List.{List, ◌∷◌, ◌++◌, map}
use mathlib.Core.Path.{◌≡◌, refl, ap, ap₂, sym, ◌∙◌, subst}
use mathlib.Core.Logic.{inl, inr, ◌↔◌}
use Prim.Native.Nat.{ℕ, zero, suc, ◌+◌, ◌≤◌, ◌<◌, min, max}
use native.Mathlib.Omega.{arith}
use lib.Dec.{eqb}
use lib.ListN.{length}
use Rattle.meaning.specs.Context.{Row, Context, Statement, same, differ, equations, differences, term_at}
use Rattle.meaning.specs.Equality.{EqualIn, ApartIn, Lowest, Representatives}
use Rattle.meaning.specs.Writing.{joins, lower_first, normal_of, context_text}
use Rattle.meaning.specs.Demands.{Alike}
use Rattle.meaning.specs.Formed.{Fit}
use Rattle.meaning.specs.Members.{In}
use Rattle.meaning.proofs.Promised.{representatives-same}
use Rattle.meaning.proofs.Sorted.{sorted-ascending, ascending-one}
use Rattle.meaning.proofs.Joins.{parts_of}
use Rattle.meaning.proofs.Pairs.{EqualRows, ApartRows, Sides, Parted, apart-parted, parted-apart, within_in}
use Rattle.meaning.proofs.Normals.{Inside, Source, Turned, lower-cases, rep-settled, parts_in, in_parts, parts-parted, normal-equal, normal-apart}
use Rattle.meaning.proofs.Injective.{context_text-injective}

-- ---- the differences of a normal context

-- two representatives, the lower one first, that are kept apart
abbrev pub Chosen : Context → (ℕ → ℕ) → ℕ × ℕ → Type 0
Chosen c rep y =
    (y.0 ≤ y.1) × (y.1 < length c.rows) × (rep y.0 ≡ y.0) × (rep y.1 ≡ y.1) × ApartRows c y.0 y.1

module _ (c : Context) (rep : ℕ → ℕ) (represents : Representatives c rep) (fit : Fit c) where
  settled : (i r : ℕ) → i < length c.rows → r ≡ rep i → rep r ≡ r
  settled i r h e = ap rep e ∙ rep-settled c rep represents i h ∙ sym e

  pub parts-chosen : (y : ℕ × ℕ) → In y (parts_of rep c) → Chosen c rep y
  parts-chosen y m =
      let w : Source rep c y = parts_in c rep represents fit y m in
      let x : ℕ × ℕ = w.0 in
      let k : rep x.0 < length c.rows = (represents x.0 w.3.0).row in
      let l : rep x.1 < length c.rows = (represents x.1 w.3.1).row in
      let p : y.0 ≡ min (rep x.0) (rep x.1) = ap (λ (z : ℕ × ℕ). z.0) w.2 in
      let q : y.1 ≡ max (rep x.0) (rep x.1) = ap (λ (z : ℕ × ℕ). z.1) w.2 in
      let r : (rep y.0 ≡ y.0) × (rep y.1 ≡ y.1) = go x w.3 w.2 (lower-cases rep x) in
      (omega arith, omega arith, r.0, r.1, parted-apart c.rows (equations c) (differences c) _ _ (parts-parted c rep represents fit y m))
    where
      go : (x : ℕ × ℕ) → Inside c x → y ≡ lower_first rep x → Turned rep x → (rep y.0 ≡ y.0) × (rep y.1 ≡ y.1)
      go x h e (inl f) = (
        settled x.0 y.0 h.0 (ap (λ (z : ℕ × ℕ). z.0) (e ∙ f)),
        settled x.1 y.1 h.1 (ap (λ (z : ℕ × ℕ). z.1) (e ∙ f)),
      )
      go x h e (inr f) = (
        settled x.1 y.0 h.1 (ap (λ (z : ℕ × ℕ). z.0) (e ∙ f)),
        settled x.0 y.1 h.0 (ap (λ (z : ℕ × ℕ). z.1) (e ∙ f)),
      )

  -- the sides of a stated difference that the pair is equal to have its two numbers for representatives
  pub chosen-parts : (y : ℕ × ℕ) → Chosen c rep y → In y (parts_of rep c)
  chosen-parts y h =
      let w : Parted c.rows (equations c) (differences c) (term_at c.rows y.0) (term_at c.rows y.1) =
      apart-parted c.rows (equations c) (differences c) _ _ h.4 in
      let k : Inside c w.0 = within_in _ (differences c) fit.apart w.0 w.1 in
      subst (λ (z : ℕ × ℕ). In z (parts_of rep c)) (sym (pair w.0 k w.2)) (in_parts c rep represents fit w.0 w.1)
    where
      low : y.0 < length c.rows
      low = omega (arith, h.0, h.1)

      pair : (x : ℕ × ℕ) → Inside c x → Sides c.rows (equations c) x (term_at c.rows y.0) (term_at c.rows y.1) → y ≡ lower_first rep x
      pair x k (inl s) =
          let p : rep y.0 ≡ rep x.0 = representatives-same c rep represents y.0 x.0 low k.0 s.0 in
          let q : rep y.1 ≡ rep x.1 = representatives-same c rep represents y.1 x.1 h.1 k.1 s.1 in
          ap₂ (λ (a b : ℕ). (a, b)) (omega (arith, h.0, h.2, h.3)) (omega (arith, h.0, h.2, h.3))
      pair x k (inr s) =
          let p : rep y.1 ≡ rep x.0 = representatives-same c rep represents y.1 x.0 h.1 k.0 s.0 in
          let q : rep y.0 ≡ rep x.1 = representatives-same c rep represents y.0 x.1 low k.1 s.1 in
          ap₂ (λ (a b : ℕ). (a, b)) (omega (arith, h.0, h.2, h.3)) (omega (arith, h.0, h.2, h.3))

-- ---- alike contexts

joins-agree : (rep rep' : ℕ → ℕ) (i n : ℕ) → ((j : ℕ) → j < i + n → rep j ≡ rep' j) → joins rep i n ≡ joins rep' i n
unfolding joins
joins-agree rep rep' i zero f = refl
joins-agree rep rep' i (suc n) f =
    ap₂ (λ (r : ℕ) (l : List Statement). elim (eqb r i) [ true ↦ l | false ↦ same r i ∷ l ]) (f i (omega arith))
    (joins-agree rep rep' (suc i) n (λ j h. f j (omega arith)))

module _ (c d : Context) (rep rep' : ℕ → ℕ) (one : Representatives c rep) (two : Representatives d rep') (alike : Alike c d) (rows : c.rows ≡ d.rows) where
  alike-reps : (i : ℕ) → i < length c.rows → rep i ≡ rep' i
  alike-reps i h =
      let l : length c.rows ≡ length d.rows = ap length rows in
      let k : i < length d.rows = omega arith in
      let p : Lowest c i (rep i) = one i h in
      let q : Lowest d i (rep' i) = two i k in
      let r : rep i < length d.rows = omega (arith, p.row) in
      let r' : rep' i < length c.rows = omega (arith, q.row) in
      omega
      (arith, p.least (rep' i) r' ((alike.equal i (rep' i) h r').1 q.equal), q.least (rep i) r ((alike.equal i (rep i) h p.row).0 p.equal))

  alike-chosen : (y : ℕ × ℕ) → Chosen c rep y → Chosen d rep' y
  alike-chosen y h =
      let l : length c.rows ≡ length d.rows = ap length rows in
      let k : y.0 < length c.rows = omega (arith, h.0, h.1) in (
        h.0,
        omega (arith, h.1),
        sym (alike-reps y.0 k) ∙ h.2,
        sym (alike-reps y.1 h.1) ∙ h.3,
        (alike.apart y.0 y.1 k h.1).0 h.4,
      )

alike_turned : (c d : Context) → c.rows ≡ d.rows → Alike c d → Alike d c
alike_turned c d rows a =
    let l : length c.rows ≡ length d.rows = ap length rows in
    record {
      equal = λ i j hi hj. ((a.equal i j (omega arith) (omega arith)).1, (a.equal i j (omega arith) (omega arith)).0);
      apart = λ i j hi hj. ((a.apart i j (omega arith) (omega arith)).1, (a.apart i j (omega arith) (omega arith)).0);
    }

-- what holds of two rows of the one holds of them in the other, where the normal contexts are one
module _ (c d : Context) (rep rep' : ℕ → ℕ) (one : Representatives c rep) (two : Representatives d rep') (fit : Fit c) (fit' : Fit d) (rows : c.rows ≡ d.rows) (e : normal_of rep c ≡ normal_of rep' d) (i j : ℕ) where
  equal_over : EqualRows c i j → EqualRows d i j
  equal_over h =
      subst (λ (r : List Row). EqualIn d (term_at r i) (term_at r j)) rows
      ((normal-equal d rep' two fit' _ _).1
      (subst (λ (n : Context). EqualIn n (term_at c.rows i) (term_at c.rows j)) e ((normal-equal c rep one fit _ _).0 h)))

  apart-over : ApartRows c i j → ApartRows d i j
  apart-over h =
      subst (λ (r : List Row). ApartIn d (term_at r i) (term_at r j)) rows
      ((normal-apart d rep' two fit' _ _).1
      (subst (λ (n : Context). ApartIn n (term_at c.rows i) (term_at c.rows j)) e ((normal-apart c rep one fit _ _).0 h)))

module _ (c d : Context) (rep rep' : ℕ → ℕ) (one : Representatives c rep) (two : Representatives d rep') (fit : Fit c) (fit' : Fit d) (rows : c.rows ≡ d.rows) where
  pub normal-alike : Alike c d → normal_of rep c ≡ normal_of rep' d
  unfolding normal_of
  normal-alike alike =
      ap₂ (λ (r : List Row) (l : List Statement). record { rows = r; statements = l }) rows
      (ap₂ ◌++◌
      (joins-agree rep rep' 0 (length c.rows) (λ j h. alike-reps c d rep rep' one two alike rows j (omega arith))
      ∙ ap (λ (r : List Row). joins rep' 0 (length r)) rows)
      (ap (map (λ p. differ p.0 p.1)) parts))
    where
      parts : parts_of rep c ≡ parts_of rep' d
      parts =
          ascending-one (parts_of rep c) (parts_of rep' d) (sorted-ascending (map (lower_first rep) (differences c))) (sorted-ascending (map (lower_first rep') (differences d)))
          (λ y. (
            λ m. chosen-parts d rep' two fit' y (alike-chosen c d rep rep' one two alike rows y (parts-chosen c rep one fit y m)),
            λ m.
                chosen-parts c rep one fit y
                (alike-chosen d c rep' rep two one (alike_turned c d rows alike) (sym rows) y (parts-chosen d rep' two fit' y m)),
          ))

  pub alike-normal : normal_of rep c ≡ normal_of rep' d → Alike c d
  alike-normal e =
      record {
        equal = λ i j hi hj. (equal_over c d rep rep' one two fit fit' rows e i j, equal_over d c rep' rep two one fit' fit (sym rows) (sym e) i j);
        apart = λ i j hi hj. (apart-over c d rep rep' one two fit fit' rows e i j, apart-over d c rep' rep two one fit' fit (sym rows) (sym e) i j);
      }

  pub normal-agree : (context_text (normal_of rep c) ≡ context_text (normal_of rep' d)) ↔ Alike c d
  normal-agree = (λ e. alike-normal (context_text-injective _ _ e), λ a. ap context_text (normal-alike a))

pub normal-one : (c : Context) (rep rep' : ℕ → ℕ) → Representatives c rep → Representatives c rep' → Fit c → normal_of rep c ≡ normal_of rep' c
normal-one c rep rep' one two fit =
    normal-alike c c rep rep' one two fit fit refl (record { equal = λ i j hi hj. (λ d. d, λ d. d); apart = λ i j hi hj. (λ a. a, λ a. a) })
