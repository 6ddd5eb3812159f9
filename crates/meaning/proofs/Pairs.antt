-- Statements by membership: what is equal, and what is kept apart, depends on which pairs are stated and not on where they stand.
--     EqualRows, ApartRows               two rows are equal, or kept apart
--     same-mono, equal_by                what is equal by some pairs is equal by others, where each of these pairs is
--     Sides, Parted, parted-by           likewise of what is kept apart
--     within_in, in_within               pairs of rows
--     consistent-free, free-consistent   no stated difference has equal sides
-- Assumes nothing.
use mathlib.Core.List.{List}
use mathlib.Core.Path.{◌≡◌, ap, sym, subst, subst₂}
use mathlib.Core.Logic.{◌⊎◌, inl, inr, ⊎_elim}
use Prim.Native.Nat.{ℕ, ◌<◌}
use lib.ListN.{length, get_or}
use Rattle.meaning.specs.Context.{Term, Row, Context, differences, term_at}
use Rattle.meaning.specs.Equality.{Same, given, transitive, Stated, Equal, Apart, EqualIn, ApartIn, Consistent}
use Rattle.meaning.specs.Formed.{Within}
use Rattle.meaning.specs.Members.{In}
use Rattle.meaning.proofs.Least.{Congruence, same-congruence, least}
use Rattle.meaning.proofs.Sorted.{in-at, in_place}

abbrev pub EqualRows : Context → ℕ → ℕ → Type 0
EqualRows c i j = EqualIn c (term_at c.rows i) (term_at c.rows j)

abbrev pub ApartRows : Context → ℕ → ℕ → Type 0
ApartRows c i j = ApartIn c (term_at c.rows i) (term_at c.rows j)

-- ---- equality

pub same-mono : {E F : Term → Term → Type 0} → ((s t : Term) → E s t → Same F s t) → {s t : Term} → Same E s t → Same F s t
same-mono {F = F} f =
    let w : Congruence F (Same F) = same-congruence F in
    least (record { contains = f; reflects = w.reflects; turns = w.turns; joins = w.joins; lifts = w.lifts })

pub in-equal : (rows : List Row) (pairs : List (ℕ × ℕ)) (x : ℕ × ℕ) → In x pairs → Equal rows pairs (term_at rows x.0) (term_at rows x.1)
in-equal rows pairs x m =
    let w : (k : ℕ) × (k < length pairs) × (get_or pairs k (0, 0) ≡ x) = in_place x pairs (0, 0) m in
    given (w.0, w.1, ap (λ (y : ℕ × ℕ). term_at rows y.0) (sym w.2), ap (λ (y : ℕ × ℕ). term_at rows y.1) (sym w.2))

-- where each pair of the one list is equal by the other, so is all that is equal by the one
pub equal_by : (rows : List Row) (pairs others : List (ℕ × ℕ)) → ((x : ℕ × ℕ) → In x pairs → Equal rows others (term_at rows x.0) (term_at rows x.1))
    → (s t : Term) → Equal rows pairs s t → Equal rows others s t
equal_by rows pairs others f s t = same-mono each
  where
    each : (u v : Term) → Stated rows pairs u v → Equal rows others u v
    each u v g = subst₂ (Equal rows others) (sym g.2) (sym g.3) (f (get_or pairs g.0 (0, 0)) (in-at pairs g.0 (0, 0) g.1))

pub within_in : (n : ℕ) (pairs : List (ℕ × ℕ)) → Within n pairs → (x : ℕ × ℕ) → In x pairs → (x.0 < n) × (x.1 < n)
within_in n pairs w x m =
    let k : (k : ℕ) × (k < length pairs) × (get_or pairs k (0, 0) ≡ x) = in_place x pairs (0, 0) m in
    subst (λ (y : ℕ × ℕ). (y.0 < n) × (y.1 < n)) k.2 (w k.0 k.1)

pub in_within : (n : ℕ) (pairs : List (ℕ × ℕ)) → ((x : ℕ × ℕ) → In x pairs → (x.0 < n) × (x.1 < n)) → Within n pairs
in_within n pairs f k h = f (get_or pairs k (0, 0)) (in-at pairs k (0, 0) h)

-- ---- apartness

-- s and t are equal to the sides of x, in either orientation
abbrev pub Sides : List Row → List (ℕ × ℕ) → ℕ × ℕ → Term → Term → Type 0
Sides rows eqs x s t =
    (Equal rows eqs s (term_at rows x.0) × Equal rows eqs t (term_at rows x.1))
    ⊎ (Equal rows eqs t (term_at rows x.0) × Equal rows eqs s (term_at rows x.1))

abbrev pub Parted : List Row → List (ℕ × ℕ) → List (ℕ × ℕ) → Term → Term → Type 0
Parted rows eqs diffs s t = (x : ℕ × ℕ) × In x diffs × Sides rows eqs x s t

pub apart-parted : (rows : List Row) (eqs diffs : List (ℕ × ℕ)) (s t : Term) → Apart rows eqs diffs s t → Parted rows eqs diffs s t
apart-parted rows eqs diffs s t a = (get_or diffs a.0 (0, 0), in-at diffs a.0 (0, 0) a.1, a.2)

pub parted-apart : (rows : List Row) (eqs diffs : List (ℕ × ℕ)) (s t : Term) → Parted rows eqs diffs s t → Apart rows eqs diffs s t
parted-apart rows eqs diffs s t p =
    let w : (k : ℕ) × (k < length diffs) × (get_or diffs k (0, 0) ≡ p.0) = in_place p.0 diffs (0, 0) p.1 in
    (w.0, w.1, subst (λ (y : ℕ × ℕ). Sides rows eqs y s t) (sym w.2) p.2)

-- s and t are equal to s' and t', or to t' and s'
sides-move : (rows : List Row) (eqs : List (ℕ × ℕ)) (x : ℕ × ℕ) (s t s' t' : Term)
    → (Equal rows eqs s s' × Equal rows eqs t t') ⊎ (Equal rows eqs t s' × Equal rows eqs s t') → Sides rows eqs x s' t' → Sides rows eqs x s t
sides-move rows eqs x s t s' t' (inl h) (inl k) = inl (transitive h.0 k.0, transitive h.1 k.1)
sides-move rows eqs x s t s' t' (inl h) (inr k) = inr (transitive h.1 k.0, transitive h.0 k.1)
sides-move rows eqs x s t s' t' (inr h) (inl k) = inr (transitive h.0 k.0, transitive h.1 k.1)
sides-move rows eqs x s t s' t' (inr h) (inr k) = inl (transitive h.1 k.0, transitive h.0 k.1)

-- where all that is equal by the one is so by the other, and each pair is parted by the other, so is all that is parted by the one
pub parted-by : (rows : List Row) (eqs eqs' diffs diffs' : List (ℕ × ℕ)) → ((s t : Term) → Equal rows eqs s t → Equal rows eqs' s t)
    → ((x : ℕ × ℕ) → In x diffs → Parted rows eqs' diffs' (term_at rows x.0) (term_at rows x.1))
    → (s t : Term) → Parted rows eqs diffs s t → Parted rows eqs' diffs' s t
parted-by rows eqs eqs' diffs diffs' f g s t p =
    let x : ℕ × ℕ = p.0 in
    let w : Parted rows eqs' diffs' (term_at rows x.0) (term_at rows x.1) = g x p.1 in (
      w.0,
      w.1,
      sides-move rows eqs' w.0 s t (term_at rows x.0) (term_at rows x.1)
          (⊎_elim (λ h. inl (f _ _ h.0, f _ _ h.1)) (λ h. inr (f _ _ h.0, f _ _ h.1)) p.2)
          w.2,
    )

-- no stated difference has equal sides
pub consistent-free : (c : Context) → Consistent c → (x : ℕ × ℕ) → In x (differences c) → EqualRows c x.0 x.1 → ⊥
consistent-free c f x m d =
    let w : (k : ℕ) × (k < length (differences c)) × (get_or (differences c) k (0, 0) ≡ x) = in_place x (differences c) (0, 0) m in
    f w.0 (w.1, subst (λ (y : ℕ × ℕ). EqualRows c y.0 y.1) (sym w.2) d)

pub free-consistent : (c : Context) → ((x : ℕ × ℕ) → In x (differences c) → EqualRows c x.0 x.1 → ⊥) → Consistent c
free-consistent c f k m = f (get_or (differences c) k (0, 0)) (in-at (differences c) k (0, 0) m.0) m.1
