-- The closing of a table is closed.
-- Assumes nothing.
use mathlib.Core.Bool.{Bool, true, false}
use mathlib.Core.List.{List, [], ◌∷◌, map}
use mathlib.Core.Path.{◌≡◌, refl, ap, ap₂, sym, ◌∙◌, subst}
use mathlib.Core.Logic.{◌⊎◌, inl, inr, ⊎_elim}
use Prim.Native.Nat.{ℕ, zero, suc, ◌+◌, ◌<◌}
use native.Mathlib.Omega.{arith}
use lib.Dec.{eqb, ltb}
use borrow.Author.Tests.{eqb-true, eqb-false, eq-eqb, ltb-true, ltb-false}
use lib.ListN.{length, length-map}
use Rattle.meaning.specs.Context.{Row, term_at, pick, terms, row_at, left_at, right_at}
use Rattle.meaning.specs.Equality.{rep_at, Equal, transitive, symmetric, Sames, Stated, same_stop, same_more, congruent, given, reflexive}
use Rattle.meaning.specs.Rules.{Below}
use Rattle.meaning.specs.Formed.{Ordered, Within}
use Rattle.meaning.specs.ByTable.{same_list}
use Rattle.meaning.specs.Closing.{move, Sofar, total, count, upto, unite, agree, unite_if, round, rows_pass, row_pass, stated_pass, rounds, close}
use Rattle.meaning.proofs.Logic.{and-true-left, and-true-right}
use Rattle.meaning.proofs.Lists.{below_wider, same_list-true, same_list-self}
use Rattle.meaning.proofs.Table.{term-at}
use Rattle.meaning.proofs.Model.{Closed}
use Rattle.meaning.proofs.Progress.{move-cases, merge_keeps, merge-falls}

-- ---- lists

pub rep_at-map : (f : ℕ → ℕ) (l : List ℕ) (r : ℕ) → r < length l → rep_at (map f l) r ≡ f (rep_at l r)
rep_at-map f [] r h = absurd (omega arith)
rep_at-map f (a ∷ l) zero h = refl
rep_at-map f (a ∷ l) (suc r) h = rep_at-map f l r (omega arith)

pub move-none : (a : ℕ) (l : List ℕ) → map (move a a) l ≡ l
move-none a [] = refl
move-none a (x ∷ l) = ap₂ ◌∷◌ (⊎_elim (λ c. c.1 ∙ sym c.0) (λ c. c.1) (move-cases a a x)) (move-none a l)

pub length-count : (n i : ℕ) → length (count n i) ≡ n
unfolding count
length-count zero i = refl
length-count (suc n) i = ap suc (length-count n (suc i))

pub rep_at-count : (n i r : ℕ) → r < n → rep_at (count n i) r ≡ i + r
unfolding count
rep_at-count zero i r h = absurd (omega arith)
rep_at-count (suc n) i zero h = omega arith
rep_at-count (suc n) i (suc r) h = omega (arith, rep_at-count n (suc i) r (omega arith))

-- what holds of the representatives between rounds
pub record Going (rows : List Row) (eqs : List (ℕ × ℕ)) (l : List ℕ) : Type 0 where
  pub long : length l ≡ length rows
  pub so : Sofar rows eqs (rep_at l)

module _ (rows : List Row) (eqs : List (ℕ × ℕ)) where
  abbrev Good : List ℕ → Type 0
  Good l = (length l ≡ length rows) × Sofar rows eqs (rep_at l)

  abbrev pub sum : List ℕ → ℕ
  sum l = total (length rows) (rep_at l)

  -- from l to m: nothing changed, and a goal is met; or the sum fell
  record Outcome (Ok : List ℕ → Type 0) (l m : List ℕ) : Type 0 where
    good : Good m
    did : ((m ≡ l) × Ok l) ⊎ (sum m < sum l)

  then : {P Q : List ℕ → Type 0} {l m o : List ℕ} → Outcome P l m → Outcome Q m o → Outcome (λ x. P x × Q x) l o
  then {P} {Q} {l} {m} {o} a b = record { good = b.good; did = go a.did b.did }
    where
      go : (((m ≡ l) × P l) ⊎ (sum m < sum l)) → (((o ≡ m) × Q m) ⊎ (sum o < sum m)) → (((o ≡ l) × (P l × Q l)) ⊎ (sum o < sum l))
      go (inl p) (inl q) = inl (q.0 ∙ p.0, (p.1, subst Q p.0 q.1))
      go (inl p) (inr q) = inr (subst (λ (x : List ℕ). sum o < sum x) p.0 q)
      go (inr p) (inl q) = inr (subst (λ (x : List ℕ). sum x < sum l) (sym q.0) p)
      go (inr p) (inr q) = inr (omega arith)

  weaken : {P Q : List ℕ → Type 0} {l m : List ℕ} → ((x : List ℕ) → P x → Q x) → Outcome P l m → Outcome Q l m
  weaken {l} f a = record { good = a.good; did = ⊎_elim (λ p. inl (p.0, f l p.1)) (λ p. inr p) a.did }

  upto-outcome : (n : ℕ) (step : ℕ → List ℕ → List ℕ) (Ok : ℕ → List ℕ → Type 0)
      → ((k : ℕ) → k < n → (l : List ℕ) → Good l → Outcome (Ok k) l (step k l))
      → (l : List ℕ) → Good l → Outcome (λ x. (k : ℕ) → k < n → Ok k x) l (upto n step l)
  unfolding upto
  upto-outcome zero step Ok h l g = record { good = g; did = inl (refl, λ k k<. absurd (omega arith)) }
  upto-outcome (suc n) step Ok h l g =
      let a : Outcome (λ x. (k : ℕ) → k < n → Ok k x) l (upto n step l) = upto-outcome n step Ok (λ k k<. h k (omega arith)) l g in
      weaken last (then a (h n (omega arith) (upto n step l) a.good))
    where
      last : (x : List ℕ) → (((k : ℕ) → k < n → Ok k x) × Ok n x) → (k : ℕ) → k < suc n → Ok k x
      last x p k k< = go (eqb k n) refl
        where
          go : (b : Bool) → eqb k n ≡ b → Ok k x
          go true e = subst (λ (y : ℕ). Ok y x) (sym (eqb-true k n e)) p.1
          go false e = p.0 k (omega (arith, eqb-false k n e))

  -- ---- a merge

  -- the class of row j goes to that of row i
  lowers : (l : List ℕ) → Good l → (i j : ℕ) → i < length rows → j < length rows → Equal rows eqs (term_at rows i) (term_at rows j)
      → rep_at l i < rep_at l j
      → Good (map (move (rep_at l i) (rep_at l j)) l) × (sum (map (move (rep_at l i) (rep_at l j)) l) < sum l)
  lowers l g i j hi hj d less =
      let so : Sofar rows eqs (rep_at l) = g.1 in
      let rep' : ℕ → ℕ = rep_at (map (move (rep_at l i) (rep_at l j)) l) in
      let inside : rep_at l j < length rows = omega (arith, so.low j hj) in
      let same : Equal rows eqs (term_at rows (rep_at l j)) (term_at rows (rep_at l i)) =
      transitive (symmetric (so.sound j hj)) (transitive (symmetric d) (so.sound i hi)) in
      let moved : (r : ℕ) → r < length rows → rep' r ≡ move (rep_at l i) (rep_at l j) (rep_at l r) =
      λ r h. rep_at-map (move (rep_at l i) (rep_at l j)) l r (omega (arith, g.0)) in (
        (
          length-map l (move (rep_at l i) (rep_at l j)) ∙ g.0,
          merge_keeps rows eqs (rep_at l) rep' (rep_at l i) (rep_at l j) so less inside (so.settled i hi) (so.settled j hj) same moved,
        ),
        merge-falls rows eqs (rep_at l) rep' (rep_at l i) (rep_at l j) so less inside (so.settled i hi) (so.settled j hj) same moved,
      )

  unite-outcome : (l : List ℕ) → Good l → (i j : ℕ) → i < length rows → j < length rows → Equal rows eqs (term_at rows i) (term_at rows j)
      → Outcome (λ x. rep_at x i ≡ rep_at x j) l (unite i j l)
  unfolding unite
  unite-outcome l g i j hi hj d = go (ltb (rep_at l i) (rep_at l j)) refl (eqb (rep_at l i) (rep_at l j)) refl
    where
      go : (b : Bool) → ltb (rep_at l i) (rep_at l j) ≡ b → (c : Bool) → eqb (rep_at l i) (rep_at l j) ≡ c → Outcome (λ x. rep_at x i ≡ rep_at x j) l (unite i j l)
      go true e c f =
          let w : Good (map (move (rep_at l i) (rep_at l j)) l) × (sum (map (move (rep_at l i) (rep_at l j)) l) < sum l) = lowers l g i j hi hj d (ltb-true _ _ e) in
          rw (e, unite) (record { good = w.0; did = inr w.1 })
      go false e false f =
          let w : Good (map (move (rep_at l j) (rep_at l i)) l) × (sum (map (move (rep_at l j) (rep_at l i)) l) < sum l) =
          lowers l g j i hj hi (symmetric d) (omega (arith, ltb-false (rep_at l i) (rep_at l j) e, eqb-false (rep_at l i) (rep_at l j) f)) in
          rw (e, unite) (record { good = w.0; did = inr w.1 })
      go false e true f =
          let q : rep_at l i ≡ rep_at l j = eqb-true _ _ f in
          let s : map (move (rep_at l j) (rep_at l i)) l ≡ l = ap (λ (x : ℕ). map (move (rep_at l j) x) l) q ∙ move-none (rep_at l j) l in
          rw (e, unite, s) (record { good = g; did = inl (refl, q) })

  -- ---- two rows that agree are equal

  picks-same : (rep : ℕ → ℕ) → Sofar rows eqs rep → (l m : List ℕ) → Below (length rows) l → Below (length rows) m → map rep l ≡ map rep m
      → Sames (Stated rows eqs) (pick (terms rows) l) (pick (terms rows) m)
  unfolding pick
  picks-same rep so [] [] bl bm e = same_stop
  picks-same rep so [] (b ∷ m) bl bm e = absurd (let z : ◌≡◌ {A = ℕ} 0 1 = cc in omega arith)
  picks-same rep so (a ∷ l) [] bl bm e = absurd (let z : ◌≡◌ {A = ℕ} 0 1 = cc in omega arith)
  picks-same rep so (a ∷ l) (b ∷ m) bl bm e =
      let h : rep a ≡ rep b = cc in
      let t : map rep l ≡ map rep m = cc in
      same_more
      (transitive (subst (λ (x : ℕ). Equal rows eqs (term_at rows a) (term_at rows x)) h (so.sound a bl.0)) (symmetric (so.sound b bm.0)))
      (picks-same rep so l m bl.1 bm.1 t)

  -- what two rows have to be for their representatives to be one
  abbrev Alike : ℕ → ℕ → List ℕ → Type 0
  Alike i j l =
      (row_at rows i).symbol ≡ (row_at rows j).symbol → map (rep_at l) (row_at rows i).args ≡ map (rep_at l) (row_at rows j).args → rep_at l i ≡ rep_at l j

  module _ (ordered : Ordered rows) where
    pub agree-equal : (rep : ℕ → ℕ) → Sofar rows eqs rep → (i j : ℕ) → i < length rows → j < length rows
        → (row_at rows i).symbol ≡ (row_at rows j).symbol → map rep (row_at rows i).args ≡ map rep (row_at rows j).args
        → Equal rows eqs (term_at rows i) (term_at rows j)
    agree-equal rep so i j hi hj e f =
        rw (term-at rows ordered i hi, term-at rows ordered j hj, e)
        (congruent
        (picks-same rep so _ _ (below_wider i (length rows) (row_at rows i).args (omega arith) (ordered i hi)) (below_wider j (length rows) (row_at rows j).args (omega arith) (ordered j hj)) f))

    unite_if-outcome : (l : List ℕ) → Good l → (i j : ℕ) → i < length rows → j < length rows → Outcome (Alike i j) l (unite_if rows i j l)
    unfolding unite_if agree
    unite_if-outcome l g i j hi hj = go (agree rows l i j) refl
      where
        a : Bool
        a = eqb (row_at rows i).symbol (row_at rows j).symbol

        b : Bool
        b = same_list (map (rep_at l) (row_at rows i).args) (map (rep_at l) (row_at rows j).args)

        go : (c : Bool) → agree rows l i j ≡ c → Outcome (Alike i j) l (unite_if rows i j l)
        go true e =
            rw (e, unite_if)
            (weaken (λ x p _ _. p)
            (unite-outcome l g i j hi hj
            (agree-equal (rep_at l) g.1 i j hi hj (eqb-true _ _ (and-true-left a b e)) (same_list-true _ _ (and-true-right a b e)))))
        go false e = rw (e, unite_if) (record { good = g; did = inl (refl, λ s m. absurd (no_agree s m)) })
          where
            no_agree : (row_at rows i).symbol ≡ (row_at rows j).symbol → map (rep_at l) (row_at rows i).args ≡ map (rep_at l) (row_at rows j).args → ⊥
            no_agree s m =
                let y : agree rows l i j ≡ true = rw (eq-eqb _ _ s, m) (same_list-self _) in
                let z : ◌≡◌ {A = ℕ} 0 1 = cc in
                omega arith

    module _ (within : Within (length rows) eqs) where
      -- what a round that changes nothing has shown
      abbrev Done : List ℕ → Type 0
      Done l =
          ((k : ℕ) → k < length eqs → rep_at l (left_at eqs k) ≡ rep_at l (right_at eqs k))
          × ((i : ℕ) → i < length rows → (j : ℕ) → j < i → Alike i j l)

      round-outcome : (l : List ℕ) → Good l → Outcome Done l (round rows eqs l)
      unfolding round rows_pass row_pass stated_pass
      round-outcome l g =
          let a : Outcome (λ x. (k : ℕ) → k < length eqs → rep_at x (left_at eqs k) ≡ rep_at x (right_at eqs k)) l (upto (length eqs) (λ k. unite (left_at eqs k) (right_at eqs k)) l) =
          upto-outcome (length eqs) (λ k. unite (left_at eqs k) (right_at eqs k)) (λ k x. rep_at x (left_at eqs k) ≡ rep_at x (right_at eqs k))
          (λ k hk m gm. unite-outcome m gm _ _ (within k hk).0 (within k hk).1 (given (k, hk, refl, refl)))
          l
          g in
          then a
          (upto-outcome (length rows) (λ i. upto i (λ j. unite_if rows i j)) (λ i x. (j : ℕ) → j < i → Alike i j x)
          (λ i hi m gm. upto-outcome i (λ j. unite_if rows i j) (λ j x. Alike i j x) (λ j hj o go. unite_if-outcome o go i j hi (omega arith)) m gm)
          _
          a.good)

      rounds-done : (fuel : ℕ) (l : List ℕ) → Good l → sum l < fuel → Good (rounds rows eqs fuel l) × Done (rounds rows eqs fuel l)
      unfolding rounds
      rounds-done zero l g h = absurd (omega arith)
      rounds-done (suc fuel) l g h = go (round-outcome l g) (eqb (sum (round rows eqs l)) (sum l)) refl (rounds-done fuel (round rows eqs l))
        where
          next : List ℕ
          next = round rows eqs l

          go : Outcome Done l next → (b : Bool) → eqb (sum next) (sum l) ≡ b
              → (Good next → sum next < fuel → Good (rounds rows eqs fuel next) × Done (rounds rows eqs fuel next))
              → Good (rounds rows eqs (suc fuel) l) × Done (rounds rows eqs (suc fuel) l)
          go o true e ih =
              rw (e, rounds) (⊎_elim (λ p. (o.good, subst Done (sym p.0) p.1)) (λ p. absurd (omega (arith, eqb-true (sum next) (sum l) e))) o.did)
          go o false e ih =
              rw (e, rounds)
              (ih o.good
              (⊎_elim (λ p. absurd (eqb-false (sum next) (sum l) e (ap sum p.0))) (λ p. omega arith) o.did))

      start-good : Good (count (length rows) 0)
      start-good = (
        length-count (length rows) 0,
        record {
          low = λ i h. omega (arith, own i h);
          settled = λ i h. ap (rep_at (count (length rows) 0)) (own i h);
          sound = λ i h. subst (λ (x : ℕ). Equal rows eqs (term_at rows i) (term_at rows x)) (sym (own i h)) reflexive;
        },
      )
        where
          own : (i : ℕ) → i < length rows → rep_at (count (length rows) 0) i ≡ i
          own i h = omega (arith, rep_at-count (length rows) 0 i h)

      done-closed : (l : List ℕ) → Good l → Done l → Closed rows eqs (rep_at l)
      done-closed l g d =
          record {
            low = g.1.low;
            settled = g.1.settled;
            joined = d.0;
            alike = λ i j hi hj. go i j hi hj (ltb i j) refl (eqb i j) refl;
            sound = g.1.sound;
          }
        where
          go : (i j : ℕ) → i < length rows → j < length rows → (a : Bool) → ltb i j ≡ a → (b : Bool) → eqb i j ≡ b → Alike i j l
          go i j hi hj true e b f s m = sym (d.1 j hj i (ltb-true i j e) (sym s) (sym m))
          go i j hi hj false e true f s m = ap (rep_at l) (eqb-true i j f)
          go i j hi hj false e false f s m = d.1 i hi j (omega (arith, ltb-false i j e, eqb-false i j f)) s m

      close-done : Good (close rows eqs) × Done (close rows eqs)
      unfolding close
      close-done =
          let start : List ℕ = count (length rows) 0 in
          rounds-done (suc (sum start)) start start-good (omega arith)

      pub close-closed : Closed rows eqs (rep_at (close rows eqs))
      close-closed = done-closed (close rows eqs) close-done.0 close-done.1

      pub close-long : length (close rows eqs) ≡ length rows
      close-long = close-done.0.0

      -- ---- for a loop of rounds: what holds at its head, and what a round does there
      good_of : {l : List ℕ} → Going rows eqs l → Good l
      good_of g = (g.long, g.so)

      pub going_on : (l : List ℕ) → Going rows eqs l → (sum (round rows eqs l) ≡ sum l → ⊥) → Going rows eqs (round rows eqs l) × (sum (round rows eqs l) < sum l)
      going_on l g n =
          let o : Outcome Done l (round rows eqs l) = round-outcome l (good_of g) in
          (record { long = o.good.0; so = o.good.1 }, ⊎_elim (λ p. absurd (n (ap sum p.0))) (λ p. p) o.did)

      pub going-ends : (l : List ℕ) → Going rows eqs l → sum (round rows eqs l) ≡ sum l → Closed rows eqs (rep_at (round rows eqs l))
      going-ends l g e =
          let o : Outcome Done l (round rows eqs l) = round-outcome l (good_of g) in
          done-closed (round rows eqs l) o.good (⊎_elim (λ p. subst Done (sym p.0) p.1) (λ p. absurd (omega arith)) o.did)
