-- One merge in the table, and passes of merges: what has to hold of the table stays so, and the sum falls or nothing changes.
--     kept-start                         own numbers
--     outcome-none, outcome-then         no step; one step after another
--     merge-unite                        in a table whose rows come after their representatives a merge is that of `meaning`
--     merge-outcome, merge-joins         the merge of two rows that are equal; it gives them one representative
-- Assumes nothing.
use mathlib.Core.Bool.{Bool, true, false}
use mathlib.Core.List.{List, ◌++◌, map, map-append}
use mathlib.Core.Path.{◌≡◌, refl, ap, sym, ◌∙◌, subst}
use mathlib.Core.Logic.{◌⊎◌, inl, inr, ⊎_elim}
use Prim.Native.Nat.{ℕ, ◌≤◌, ◌<◌}
use native.Mathlib.Omega.{arith}
use lib.Dec.{eqb, ltb}
use lib.ListN.{length, get_or, take, drop, length-map, length-take, take-append-drop}
use lib.Seq.{ext_get_or, get_or-take}
use borrow.Author.Tests.{eqb-true, eqb-false, ltb-true, ltb-false}
use Rattle.meaning.specs.Context.{Row, term_at}
use Rattle.meaning.specs.Equality.{Equal, reflexive, symmetric, transitive, rep_at}
use Rattle.meaning.specs.Closing.{Sofar, move, total, unite, count}
use Rattle.meaning.proofs.Progress.{move-cases, merge_keeps, merge-falls}
use Rattle.meaning.proofs.Closes.{rep_at-map, move-none, length-count, rep_at-count}
use Rattle.classes.specs.Steps.{move_from, merge, Kept, Grown, Outcome}

module _ (rows : List Row) (eqs : List (ℕ × ℕ)) where
  abbrev pub sum : List ℕ → ℕ
  sum l = total (length rows) (rep_at l)

  pub kept-start : Kept rows eqs (count (length rows) 0)
  kept-start =
      record {
        long = length-count (length rows) 0;
        so = record {
          low = λ i k. omega (arith, own i k);
          settled = λ i k. ap (rep_at (count (length rows) 0)) (own i k);
          sound = λ i k. subst (λ (x : ℕ). Equal rows eqs (term_at rows i) (term_at rows x)) (sym (own i k)) reflexive;
        };
      }
    where
      own : (i : ℕ) → i < length rows → rep_at (count (length rows) 0) i ≡ i
      own i k = omega (arith, rep_at-count (length rows) 0 i k)

  pub outcome-none : {P : Type 0} {l : List ℕ} → Kept rows eqs l → P → Outcome rows eqs P l l
  outcome-none k p = record { kept = k; grown = λ x y hx hy e. e; did = inl (refl, p) }

  pub outcome-then : {P Q R : Type 0} {l m o : List ℕ} → Outcome rows eqs P l m → Outcome rows eqs Q m o → (m ≡ l → P → Q → R) → Outcome rows eqs R l o
  outcome-then {P} {Q} {R} {l} {m} {o} a b f =
      record { kept = b.kept; grown = λ x y hx hy e. b.grown x y hx hy (a.grown x y hx hy e); did = go a.did b.did }
    where
      go : (((m ≡ l) × P) ⊎ (sum m < sum l)) → (((o ≡ m) × Q) ⊎ (sum o < sum m)) → (((o ≡ l) × R) ⊎ (sum o < sum l))
      go (inl p) (inl q) = inl (q.0 ∙ p.0, f p.0 p.1 q.1)
      go (inl p) (inr q) = inr (subst (λ (x : List ℕ). sum o < sum x) p.0 q)
      go (inr p) (inl q) = inr (subst (λ (x : List ℕ). sum x < sum l) (sym q.0) p)
      go (inr p) (inr q) = inr (omega arith)

  -- the class of row j goes to that of row i
  lowers : (l : List ℕ) → Kept rows eqs l → (i j : ℕ) → i < length rows → j < length rows
      → Equal rows eqs (term_at rows i) (term_at rows j) → rep_at l i < rep_at l j
      → Kept rows eqs (map (move (rep_at l i) (rep_at l j)) l) × (sum (map (move (rep_at l i) (rep_at l j)) l) < sum l)
  lowers l k i j hi hj d less = (
    record {
      long = length-map l (move (rep_at l i) (rep_at l j)) ∙ k.long;
      so = merge_keeps rows eqs (rep_at l) rep' (rep_at l i) (rep_at l j) so less inside (so.settled i hi) (so.settled j hj) same moved;
    },
    merge-falls rows eqs (rep_at l) rep' (rep_at l i) (rep_at l j) so less inside (so.settled i hi) (so.settled j hj) same moved,
  )
    where
      so : Sofar rows eqs (rep_at l)
      so = k.so

      rep' : ℕ → ℕ
      rep' = rep_at (map (move (rep_at l i) (rep_at l j)) l)

      inside : rep_at l j < length rows
      inside = omega (arith, so.low j hj)

      same : Equal rows eqs (term_at rows (rep_at l j)) (term_at rows (rep_at l i))
      same = transitive (symmetric (so.sound j hj)) (transitive (symmetric d) (so.sound i hi))

      moved : (r : ℕ) → r < length rows → rep' r ≡ move (rep_at l i) (rep_at l j) (rep_at l r)
      moved r h = rep_at-map (move (rep_at l i) (rep_at l j)) l r (omega (arith, k.long))

  map-grown : (f : ℕ → ℕ) (l : List ℕ) → length l ≡ length rows → Grown (length rows) l (map f l)
  map-grown f l n x y hx hy e = rep_at-map f l x (omega arith) ∙ ap f e ∙ sym (rep_at-map f l y (omega arith))

  unite-outcome : (l : List ℕ) → Kept rows eqs l → (i j : ℕ) → i < length rows → j < length rows
      → Equal rows eqs (term_at rows i) (term_at rows j) → Outcome rows eqs (rep_at l i ≡ rep_at l j) l (unite i j l)
  unfolding unite
  unite-outcome l k i j hi hj d = go (ltb (rep_at l i) (rep_at l j)) refl (eqb (rep_at l i) (rep_at l j)) refl
    where
      go : (b : Bool) → ltb (rep_at l i) (rep_at l j) ≡ b → (c : Bool) → eqb (rep_at l i) (rep_at l j) ≡ c → Outcome rows eqs (rep_at l i ≡ rep_at l j) l (unite i j l)
      go true e c f =
          let w : Kept rows eqs (map (move (rep_at l i) (rep_at l j)) l) × (sum (map (move (rep_at l i) (rep_at l j)) l) < sum l) =
          lowers l k i j hi hj d (ltb-true _ _ e) in
          rw (e, unite) (record { kept = w.0; grown = map-grown _ l k.long; did = inr w.1 })
      go false e false f =
          let w : Kept rows eqs (map (move (rep_at l j) (rep_at l i)) l) × (sum (map (move (rep_at l j) (rep_at l i)) l) < sum l) =
          lowers l k j i hj hi (symmetric d) (omega (arith, ltb-false (rep_at l i) (rep_at l j) e, eqb-false (rep_at l i) (rep_at l j) f)) in
          rw (e, unite) (record { kept = w.0; grown = map-grown _ l k.long; did = inr w.1 })
      go false e true f =
          let q : rep_at l i ≡ rep_at l j = eqb-true _ _ f in
          let s : map (move (rep_at l j) (rep_at l i)) l ≡ l = ap (λ (x : ℕ). map (move (rep_at l j) x) l) q ∙ move-none (rep_at l j) l in
          rw (e, unite, s) (record { kept = k; grown = λ x y hx hy z. z; did = inl (refl, q) })

unite-joins : (l : List ℕ) (i j : ℕ) → i < length l → j < length l → rep_at (unite i j l) i ≡ rep_at (unite i j l) j
unfolding unite
unite-joins l i j hi hj = go (ltb (rep_at l i) (rep_at l j)) refl
  where
    to : (lo hi : ℕ) → move lo hi hi ≡ lo
    to lo hi = ⊎_elim (λ c. c.1) (λ c. absurd (c.0 refl)) (move-cases lo hi hi)

    from : (lo hi : ℕ) → move lo hi lo ≡ lo
    from lo hi = ⊎_elim (λ c. c.1) (λ c. c.1) (move-cases lo hi lo)

    go : (b : Bool) → ltb (rep_at l i) (rep_at l j) ≡ b → rep_at (unite i j l) i ≡ rep_at (unite i j l) j
    go true e = rw (e, unite) (rep_at-map _ l i hi ∙ from _ _ ∙ sym (rep_at-map _ l j hj ∙ to _ _))
    go false e = rw (e, unite) (rep_at-map _ l i hi ∙ to _ _ ∙ sym (rep_at-map _ l j hj ∙ from _ _))

-- ---- the places before the higher representative

module _ (l : List ℕ) (low : (r : ℕ) → r < length l → rep_at l r ≤ r) where
  before-stay : (lo hi : ℕ) → map (move lo hi) (take hi l) ≡ take hi l
  before-stay lo hi =
      ext_get_or 0 (map (move lo hi) (take hi l)) (take hi l) (length-map (take hi l) (move lo hi))
      (λ r h.
      let inside : r < length (take hi l) = omega (arith, length-map (take hi l) (move lo hi)) in
      let here : get_or (take hi l) r 0 ≡ rep_at l r = get_or-take hi l r 0 (omega (arith, length-take hi l)) in
      rep_at-map (move lo hi) (take hi l) r inside
      ∙ ⊎_elim (λ c. absurd (omega (arith, c.0, here, length-take hi l, low r (omega (arith, length-take hi l))))) (λ c. c.1) (move-cases lo hi (get_or (take hi l) r 0)))

  move-from : (lo hi : ℕ) → move_from lo hi l ≡ map (move lo hi) l
  unfolding move_from
  move-from lo hi =
      ap (◌++ map (move lo hi) (drop hi l)) (sym (before-stay lo hi))
      ∙ sym (map-append (move lo hi) (take hi l) (drop hi l))
      ∙ ap (map (move lo hi)) (take-append-drop hi l)

  pub merge-unite : (i j : ℕ) → merge i j l ≡ unite i j l
  unfolding merge unite
  merge-unite i j = go (ltb (rep_at l i) (rep_at l j)) refl
    where
      go : (b : Bool) → ltb (rep_at l i) (rep_at l j) ≡ b → merge i j l ≡ unite i j l
      go true e = rw (e, merge, unite) (move-from (rep_at l i) (rep_at l j))
      go false e = rw (e, merge, unite) (move-from (rep_at l j) (rep_at l i))

module _ (rows : List Row) (eqs : List (ℕ × ℕ)) (l : List ℕ) (k : Kept rows eqs l) (i j : ℕ) (hi : i < length rows) (hj : j < length rows) where
  kept-merge : merge i j l ≡ unite i j l
  kept-merge = merge-unite l (λ r h. k.so.low r (omega (arith, k.long))) i j

  pub merge-outcome : Equal rows eqs (term_at rows i) (term_at rows j) → Outcome rows eqs (rep_at l i ≡ rep_at l j) l (merge i j l)
  merge-outcome d = rw kept-merge (unite-outcome rows eqs l k i j hi hj d)

  pub merge-joins : rep_at (merge i j l) i ≡ rep_at (merge i j l) j
  merge-joins = rw kept-merge (unite-joins l i j (omega (arith, k.long)) (omega (arith, k.long)))
