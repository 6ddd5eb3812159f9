-- The normal context of a context: the same terms are equal in both, the same are kept apart, and it is its own normal context.
--     rep-settled, lower-cases               a representative is its own; the pair of representatives of a pair, as it stands or turned
--     normal-equal, normal-apart             the same terms are equal, and the same are kept apart
--     parts_in, in_parts, parts-parted       the differences of the normal context, and the stated ones that they come from
--     normal-fit, normal-represents          it is well-formed, and the table represents it too
--     normal-twice, normal-consistent        it is its own normal context; it contradicts itself just where the context does
-- Assumes nothing.
use mathlib.Core.Bool.{Bool, true, false}
use mathlib.Core.List.{List, [], ◌∷◌, ◌++◌, map}
use mathlib.Core.Path.{◌≡◌, refl, ap, ap₂, sym, ◌∙◌, subst, subst₂}
use mathlib.Core.Logic.{◌⊎◌, inl, inr, ⊎_elim, ◌↔◌}
use Prim.Native.Nat.{ℕ, ◌<◌, min, max}
use native.Mathlib.Omega.{arith}
use lib.Dec.{eqb, leb}
use borrow.Author.Tests.{eqb-true, eqb-false, leb-true, leb-false}
use lib.ListN.{length}
use Rattle.meaning.specs.Context.{Term, Context, differ, equations, differences, term_at}
use Rattle.meaning.specs.Equality.{reflexive, symmetric, transitive, Equal, Apart, EqualIn, ApartIn, Consistent, Representatives}
use Rattle.meaning.specs.Writing.{joins, sorted, lower_first, normal_of}
use Rattle.meaning.specs.Formed.{Within, Fit}
use Rattle.meaning.specs.Members.{In}
use Rattle.meaning.proofs.Promised.{representatives-same}
use Rattle.meaning.proofs.Sorted.{in_map, map-in, in-sorted, sorted-in, sorted-ascending, sorted-self}
use Rattle.meaning.proofs.Joins.{Joint, joins-in, in-joins, joins_of, parts_of, normal-equations, normal-differences}
use Rattle.meaning.proofs.Pairs.{EqualRows, in-equal, equal_by, within_in, in_within, Sides, Parted, apart-parted, parted-apart, parted-by, consistent-free, free-consistent}

-- both numbers of a pair are rows
abbrev pub Inside : Context → ℕ × ℕ → Type 0
Inside c x = (x.0 < length c.rows) × (x.1 < length c.rows)

-- a stated difference whose representatives are the pair
abbrev pub Source : (ℕ → ℕ) → Context → ℕ × ℕ → Type 0
Source rep c y = (x : ℕ × ℕ) × In x (differences c) × (y ≡ lower_first rep x) × Inside c x

abbrev pub Turned : (ℕ → ℕ) → ℕ × ℕ → Type 0
Turned rep x = (lower_first rep x ≡ (rep x.0, rep x.1)) ⊎ (lower_first rep x ≡ (rep x.1, rep x.0))

-- the pair of representatives, as it stands or turned
pub lower-cases : (rep : ℕ → ℕ) (x : ℕ × ℕ) → Turned rep x
lower-cases rep x = go (leb (rep x.0) (rep x.1)) refl
  where
    go : (b : Bool) → leb (rep x.0) (rep x.1) ≡ b
        → Turned rep x
    go true e = inl (ap₂ (λ (a b : ℕ). (a, b)) (omega (arith, leb-true (rep x.0) (rep x.1) e)) (omega (arith, leb-true (rep x.0) (rep x.1) e)))
    go false e = inr (ap₂ (λ (a b : ℕ). (a, b)) (omega (arith, leb-false (rep x.0) (rep x.1) e)) (omega (arith, leb-false (rep x.0) (rep x.1) e)))

map-fixed : {A : Type 0} (f : A → A) (l : List A) → ((x : A) → In x l → f x ≡ x) → map f l ≡ l
map-fixed f [] h = refl
map-fixed f (x ∷ l) h = ap₂ ◌∷◌ (h x (inl refl)) (map-fixed f l (λ y m. h y (inr m)))

module _ (c : Context) (rep : ℕ → ℕ) (represents : Representatives c rep) where
  pub rep-settled : (i : ℕ) → i < length c.rows → rep (rep i) ≡ rep i
  rep-settled i h = sym (representatives-same c rep represents i (rep i) h (represents i h).row (represents i h).equal)

  lower-twice : (x : ℕ × ℕ) → Inside c x → lower_first rep (lower_first rep x) ≡ lower_first rep x
  lower-twice x h = go (lower-cases rep x)
    where
      go : Turned rep x → lower_first rep (lower_first rep x) ≡ lower_first rep x
      go (inl e) = ap (lower_first rep) e ∙ ap₂ (λ (a b : ℕ). (min a b, max a b)) (rep-settled x.0 h.0) (rep-settled x.1 h.1)
      go (inr e) =
          ap (lower_first rep) e
          ∙ ap₂ (λ (a b : ℕ). (min a b, max a b)) (rep-settled x.1 h.1) (rep-settled x.0 h.0)
          ∙ ap₂ (λ (a b : ℕ). (a, b)) (omega arith) (omega arith)

  lower-equal : (x : ℕ × ℕ) → Inside c x
      → EqualRows c x.0 x.1 ↔ EqualRows c (lower_first rep x).0 (lower_first rep x).1
  lower-equal x h = go (lower-cases rep x)
    where
      p : EqualRows c x.0 (rep x.0)
      p = (represents x.0 h.0).equal

      q : EqualRows c x.1 (rep x.1)
      q = (represents x.1 h.1).equal

      goal : ℕ × ℕ → Type 0
      goal y = EqualRows c x.0 x.1 ↔ EqualRows c y.0 y.1

      go : Turned rep x
          → EqualRows c x.0 x.1 ↔ EqualRows c (lower_first rep x).0 (lower_first rep x).1
      go (inl e) = subst goal (sym e) (λ d. transitive (symmetric p) (transitive d q), λ d. transitive p (transitive d (symmetric q)))
      go (inr e) = subst goal (sym e) (λ d. transitive (symmetric q) (transitive (symmetric d) p), λ d. transitive p (transitive (symmetric d) (symmetric q)))

  module _ (fit : Fit c) where
    -- ---- equality

    -- each row is joined to its representative
    joins-row : (i : ℕ) → i < length c.rows → Equal c.rows (joins_of rep c) (term_at c.rows (rep i)) (term_at c.rows i)
    joins-row i h = go (eqb (rep i) i) refl
      where
        go : (b : Bool) → eqb (rep i) i ≡ b → Equal c.rows (joins_of rep c) (term_at c.rows (rep i)) (term_at c.rows i)
        go true e = subst (λ (r : ℕ). Equal c.rows (joins_of rep c) (term_at c.rows r) (term_at c.rows i)) (sym (eqb-true (rep i) i e)) reflexive
        go false e = in-equal c.rows (joins_of rep c) (rep i, i) (in-joins rep 0 (length c.rows) i (omega arith) (omega arith) (eqb-false (rep i) i e))

    joins-equal : (s t : Term) → EqualIn c s t → Equal c.rows (joins_of rep c) s t
    joins-equal = equal_by c.rows (equations c) (joins_of rep c) each
      where
        each : (x : ℕ × ℕ) → In x (equations c) → Equal c.rows (joins_of rep c) (term_at c.rows x.0) (term_at c.rows x.1)
        each x m =
            let h : Inside c x = within_in _ (equations c) fit.within x m in
            let e : rep x.0 ≡ rep x.1 = representatives-same c rep represents x.0 x.1 h.0 h.1 (in-equal c.rows (equations c) x m) in
            transitive (symmetric (joins-row x.0 h.0))
            (subst (λ (r : ℕ). Equal c.rows (joins_of rep c) (term_at c.rows r) (term_at c.rows x.1)) (sym e) (joins-row x.1 h.1))

    equal-joins : (s t : Term) → Equal c.rows (joins_of rep c) s t → EqualIn c s t
    equal-joins = equal_by c.rows (joins_of rep c) (equations c) each
      where
        each : (x : ℕ × ℕ) → In x (joins_of rep c) → EqualRows c x.0 x.1
        each x m =
            let j : Joint rep 0 (length c.rows) x = joins-in rep 0 (length c.rows) x m in
            subst (λ (r : ℕ). EqualRows c r x.1) (sym j.2) (symmetric (represents x.1 (omega (arith, j.1))).equal)

    pub normal-equal : (s t : Term) → EqualIn c s t ↔ EqualIn (normal_of rep c) s t
    unfolding normal_of
    normal-equal s t = (
      λ d. subst (λ (l : List (ℕ × ℕ)). Equal c.rows l s t) (sym (normal-equations rep c)) (joins-equal s t d),
      λ d. equal-joins s t (subst (λ (l : List (ℕ × ℕ)). Equal c.rows l s t) (normal-equations rep c) d),
    )

    -- ---- apartness

    -- the rows of a pair are equal to the sides of the pair of their representatives, in the one orientation or the other
    sides-lower : (eqs : List (ℕ × ℕ)) (x : ℕ × ℕ) → ((i : ℕ) → i < length c.rows → Equal c.rows eqs (term_at c.rows i) (term_at c.rows (rep i)))
        → Inside c x
        → Sides c.rows eqs (lower_first rep x) (term_at c.rows x.0) (term_at c.rows x.1)
    sides-lower eqs x f h = go (lower-cases rep x)
      where
        goal : ℕ × ℕ → Type 0
        goal y = Sides c.rows eqs y (term_at c.rows x.0) (term_at c.rows x.1)

        go : Turned rep x
            → Sides c.rows eqs (lower_first rep x) (term_at c.rows x.0) (term_at c.rows x.1)
        go (inl e) = subst goal (sym e) (inl (f x.0 h.0, f x.1 h.1))
        go (inr e) = subst goal (sym e) (inr (f x.1 h.1, f x.0 h.0))

    pub parts_in : (y : ℕ × ℕ) → In y (parts_of rep c)
        → Source rep c y
    parts_in y m =
        let w : (x : ℕ × ℕ) × In x (differences c) × (y ≡ lower_first rep x) =
        map-in (lower_first rep) y (differences c) (sorted-in y (map (lower_first rep) (differences c)) m) in
        (w.0, w.1, w.2, within_in _ (differences c) fit.apart w.0 w.1)

    pub in_parts : (x : ℕ × ℕ) → In x (differences c) → In (lower_first rep x) (parts_of rep c)
    in_parts x m = in-sorted (lower_first rep x) (map (lower_first rep) (differences c)) (in_map (lower_first rep) x (differences c) m)

    parts-apart : (s t : Term) → Parted c.rows (equations c) (differences c) s t → Parted c.rows (joins_of rep c) (parts_of rep c) s t
    parts-apart = parted-by c.rows (equations c) (joins_of rep c) (differences c) (parts_of rep c) joins-equal
        (λ x m. (
          lower_first rep x,
          in_parts x m,
          sides-lower (joins_of rep c) x (λ i h. symmetric (joins-row i h)) (within_in _ (differences c) fit.apart x m),
        ))

    -- each pair is kept apart in the context, since its sides are those of a stated difference in the one orientation or the other
    pub parts-parted : (y : ℕ × ℕ) → In y (parts_of rep c) → Parted c.rows (equations c) (differences c) (term_at c.rows y.0) (term_at c.rows y.1)
    parts-parted y m =
        let w : Source rep c y = parts_in y m in
        let x : ℕ × ℕ = w.0 in (
          x,
          w.1,
          ⊎_elim (λ h. inl (symmetric h.0, symmetric h.1)) (λ h. inr (symmetric h.1, symmetric h.0))
              (subst (λ (z : ℕ × ℕ). Sides c.rows (equations c) z (term_at c.rows x.0) (term_at c.rows x.1)) (sym w.2)
              (sides-lower (equations c) x (λ i h. (represents i h).equal) w.3)),
        )

    apart_parts : (s t : Term) → Parted c.rows (joins_of rep c) (parts_of rep c) s t → Parted c.rows (equations c) (differences c) s t
    apart_parts = parted-by c.rows (joins_of rep c) (equations c) (parts_of rep c) (differences c) equal-joins parts-parted

    pub normal-apart : (s t : Term) → ApartIn c s t ↔ ApartIn (normal_of rep c) s t
    unfolding normal_of
    normal-apart s t = (
      λ a.
          subst₂ (λ (k l : List (ℕ × ℕ)). Apart c.rows k l s t) (sym (normal-equations rep c)) (sym (normal-differences rep c))
          (parted-apart c.rows (joins_of rep c) (parts_of rep c) s t (parts-apart s t (apart-parted c.rows (equations c) (differences c) s t a))),
      λ a.
          parted-apart c.rows (equations c) (differences c) s t
          (apart_parts s t
          (apart-parted c.rows (joins_of rep c) (parts_of rep c) s t
          (subst₂ (λ (k l : List (ℕ × ℕ)). Apart c.rows k l s t) (normal-equations rep c) (normal-differences rep c) a))),
    )

    -- ---- well-formed, represented and consistent

    pub normal-fit : Fit (normal_of rep c)
    unfolding normal_of
    normal-fit =
        record {
          ordered = fit.ordered;
          within = subst (Within (length c.rows)) (sym (normal-equations rep c)) (in_within _ (joins_of rep c) left);
          apart = subst (Within (length c.rows)) (sym (normal-differences rep c)) (in_within _ (parts_of rep c) right);
        }
      where
        left : (x : ℕ × ℕ) → In x (joins_of rep c) → Inside c x
        left x m =
            let j : Joint rep 0 (length c.rows) x = joins-in rep 0 (length c.rows) x m in
            let h : x.1 < length c.rows = omega (arith, j.1) in
            (omega (arith, j.2, (represents x.1 h).row), h)

        right : (y : ℕ × ℕ) → In y (parts_of rep c) → Inside c y
        right y m =
            let w : Source rep c y = parts_in y m in
            let p : rep w.0.0 < length c.rows = (represents w.0.0 w.3.0).row in
            let q : rep w.0.1 < length c.rows = (represents w.0.1 w.3.1).row in
            (omega (arith, ap (λ (z : ℕ × ℕ). z.0) w.2), omega (arith, ap (λ (z : ℕ × ℕ). z.1) w.2))

    pub normal-represents : Representatives (normal_of rep c) rep
    unfolding normal_of
    normal-represents i h =
        record {
          row = (represents i h).row;
          equal = (normal-equal _ _).0 (represents i h).equal;
          least = λ j hj d. (represents i h).least j hj ((normal-equal _ _).1 d);
        }

    pub normal-twice : normal_of rep (normal_of rep c) ≡ normal_of rep c
    unfolding normal_of
    normal-twice =
        ap (λ (l : List (ℕ × ℕ)). record { rows = c.rows; statements = joins rep 0 (length c.rows) ++ map (λ p. differ p.0 p.1) l })
        (ap (λ (l : List (ℕ × ℕ)). sorted (map (lower_first rep) l)) (normal-differences rep c)
        ∙ ap sorted (map-fixed (lower_first rep) (parts_of rep c) fixed)
        ∙ sorted-self (parts_of rep c) (sorted-ascending (map (lower_first rep) (differences c))))
      where
        fixed : (y : ℕ × ℕ) → In y (parts_of rep c) → lower_first rep y ≡ y
        fixed y m =
            let w : Source rep c y = parts_in y m in
            rw w.2 (lower-twice w.0 w.3)

    -- a stated difference with equal sides and the pair of its representatives, each from the other
    pub normal-consistent : Consistent c ↔ Consistent (normal_of rep c)
    unfolding normal_of
    normal-consistent = (
      λ f. free-consistent (normal_of rep c) (λ y m d. parts f y (subst (In y) (normal-differences rep c) m) ((normal-equal _ _).1 d)),
      λ f.
          free-consistent c
          (λ x m d. consistent-free (normal_of rep c) f (lower_first rep x) (subst (In (lower_first rep x)) (sym (normal-differences rep c)) (in_parts x m))
          ((normal-equal _ _).0 ((lower-equal x (within_in _ (differences c) fit.apart x m)).0 d))),
    )
      where
        parts : Consistent c → (y : ℕ × ℕ) → In y (parts_of rep c) → EqualRows c y.0 y.1 → ⊥
        parts f y m d =
            let w : Source rep c y = parts_in y m in
            consistent-free c f w.0 w.1 ((lower-equal w.0 w.3).1 (subst (λ (z : ℕ × ℕ). EqualRows c z.0 z.1) w.2 d))
