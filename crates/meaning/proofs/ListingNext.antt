-- The first breach and each next one give the list: over any table the assignments that the plain search seeks, and over a table of representatives
-- the breaches whose rows are all representatives.
--     earlier-before, before-earlier    the test of the order is right
--     next-first                        what is next is the first of those sought that stand after an assignment
--     every_by, every_after               the list as a computed value, and what stands after an assignment
--     every-goes, after-goes            going on from the first, or from an assignment, gives it, over any table
--     own-sought                        over a table of representatives what is sought is what is listed
--     every-lists, lists-goes           so there is a list, and going on from the first until there is none gives exactly the list
-- Assumes nothing.
use mathlib.Core.Bool.{Bool, true, false, ◌&&◌}
use mathlib.Core.List.{List, [], ◌∷◌, ◌++◌, append-nil, append_assoc}
use mathlib.Core.Path.{◌≡◌, refl, ap, sym, ◌∙◌, subst}
use mathlib.Core.Logic.{inl, inr, ⊎_elim, ◌↔◌}
use Prim.Native.Nat.{ℕ, zero, suc, ◌≤◌, ◌<◌}
use native.Mathlib.Omega.{arith}
use lib.Dec.{eqb}
use borrow.Author.Tests.{eqb-true, ltb-true, lt-ltb, eq-eqb, ne_eqb}
use lib.ListN.{length, take, replicate}
use lib.Seq.{take-length}
use Rattle.meaning.specs.Context.{Context, Row}
use Rattle.meaning.specs.Equality.{Lowest, Consistent, Representatives}
use Rattle.meaning.specs.Rules.{Clause, variables, Before, First, Found}
use Rattle.meaning.specs.Formed.{Formed}
use Rattle.meaning.specs.FirstBy.{breaks, first_by}
use Rattle.meaning.specs.Next.{earlier, next_by}
use Rattle.meaning.specs.Listing.{OwnRows, OwnBreach, Enumerates, Lists, Goes}
use Rattle.meaning.specs.Following.{differ_by}
use Rattle.meaning.proofs.Logic.{false-true, and_both, and-true-left, and-true-right}
use Rattle.meaning.proofs.Order.{same_first}
use Rattle.meaning.proofs.Box.{Box, Mem, mem_below, AllIn, Above, above-mem, Rising, Inside, Open, open-split, open_none, open-leaf, open-replicate}
use Rattle.meaning.proofs.Seek.{seek-first, starts, starts-rising, lowest-below, lowest-self, lowest-has}
use Rattle.meaning.proofs.Pruned.{Sought}
use Rattle.meaning.proofs.Promised.{representatives-closed}
use Rattle.meaning.proofs.Finds.{LowBreach, low-sought}
use Rattle.meaning.proofs.Computes.{numbers-right}
use Rattle.meaning.proofs.Listing.{enumerates-same, enumerates-split, Nexts, nexts-after, enumerates-goes, goes-enumerates}

-- ---- the order, as a test

pub before-earlier : (a b : List ℕ) → Before a b → earlier a b ≡ true
unfolding earlier
before-earlier [] b h = absurd h
before-earlier (x ∷ a) [] h = absurd h
before-earlier (x ∷ a) (y ∷ b) (inl h) = rw (earlier, ne_eqb x y (λ e. omega arith), lt-ltb x y h) refl
before-earlier (x ∷ a) (y ∷ b) (inr h) = rw (earlier, eq-eqb x y h.0) (before-earlier a b h.1)

pub earlier-before : (a b : List ℕ) → earlier a b ≡ true → Before a b
unfolding earlier
earlier-before [] b h = false-true h refl
earlier-before (x ∷ a) [] h = false-true h refl
earlier-before (x ∷ a) (y ∷ b) h = go (eqb x y) refl (earlier-before a b)
  where
    go : (t : Bool) → eqb x y ≡ t → (earlier a b ≡ true → Before a b) → Before (x ∷ a) (y ∷ b)
    go true e f = inr (eqb-true x y e, f (rw (e, earlier) at h))
    go false e f = inl (ltb-true x y (rw (e, earlier) at h))

-- ---- all that pass a test

unfoldable pub each_of : (List ℕ → List (List ℕ)) → List ℕ → List ℕ → List (List ℕ)
each_of next chosen [] = []
each_of next chosen (x ∷ l) = next (chosen ++ (x ∷ [])) ++ each_of next chosen l

-- n variables are left, each with the same rows
unfoldable pub every : (List ℕ → Bool) → List ℕ → ℕ → List ℕ → List (List ℕ)
every test rows zero chosen = elim (test chosen) [ true ↦ chosen ∷ [] | false ↦ [] ]
every test rows (suc n) chosen = each_of (every test rows n) chosen rows

before-behind : (c : List ℕ) (x y : ℕ) (r q : List ℕ) → x < y → Before (c ++ x ∷ r) (c ++ y ∷ q)
before-behind [] x y r q h = inl h
before-behind (z ∷ c) x y r q h = inr (refl, before-behind c x y r q h)

module _ (So : List ℕ → Type 0) where
  open-before : (chosen : List ℕ) (x : ℕ) (l : List ℕ) (box : Box) → Above x l → (a b : List ℕ)
      → Open So (chosen ++ (x ∷ [])) box a → Open So chosen (l ∷ box) b → Before a b
  open-before chosen x l box up a b o p = go p.rest p.whole p.inside
    where
      go : (q : List ℕ) → b ≡ chosen ++ q → Inside (l ∷ box) q → Before a b
      go [] f i = absurd i
      go (y ∷ q) f i =
          let e : a ≡ chosen ++ x ∷ o.rest = o.whole ∙ append_assoc chosen (x ∷ []) o.rest in
          rw (e, f) (before-behind chosen x y o.rest q (above-mem x y l up i.0))

  each-lists : (next : List ℕ → List (List ℕ)) (chosen l : List ℕ) (box : Box) → Rising l
      → ((x : ℕ) → Mem x l → Enumerates (Open So (chosen ++ (x ∷ [])) box) (next (chosen ++ (x ∷ []))))
      → Enumerates (Open So chosen (l ∷ box)) (each_of next chosen l)
  unfolding each_of
  each-lists next chosen [] box up f = record { sound = λ a m. absurd m; complete = λ a o. open_none So chosen box a o; order = tt }
  each-lists next chosen (x ∷ l) box up f =
      enumerates-split
      (λ a. ((open-split So chosen x l box up.0).cases a, ⊎_elim ((open-split So chosen x l box up.0).here a) ((open-split So chosen x l box up.0).later a)))
      (open-before chosen x l box up.0)
      (next (chosen ++ (x ∷ [])))
      (each_of next chosen l)
      (f x (inl refl))
      (each-lists next chosen l box up.1 (λ y m. f y (inr m)))

module _ (test : List ℕ → Bool) (rows : List ℕ) (up : Rising rows) where
  abbrev Passes : List ℕ → Type 0
  Passes a = test a ≡ true

  every-open : (n : ℕ) (chosen : List ℕ) → Enumerates (Open Passes chosen (replicate n rows)) (every test rows n chosen)
  unfolding every
  every-open zero chosen = go (test chosen) refl
    where
      go : (b : Bool) → test chosen ≡ b → Enumerates (Open Passes chosen []) (every test rows zero chosen)
      go true e =
          rw (e, every) (record {
            sound = λ a m. ⊎_elim (λ q. record { rest = []; whole = q ∙ sym (append-nil chosen); inside = tt; so = ap test q ∙ e }) (λ z. absurd z) m;
            complete = λ a o. inl (open-leaf Passes chosen a o);
            order = tt;
          })
      go false e =
          rw (e, every) (record { sound = λ a m. absurd m; complete = λ a o. false-true o.so (ap test (open-leaf Passes chosen a o) ∙ e); order = tt })
  every-open (suc n) chosen = each-lists Passes (every test rows n) chosen rows (replicate n rows) up (λ x m. every-open n (chosen ++ (x ∷ [])))

  pub every-passes : (n : ℕ) → Enumerates (λ a. (length a ≡ n) × AllIn rows a × (test a ≡ true)) (every test rows n [])
  every-passes n = enumerates-same (open-replicate Passes n rows) (every test rows n []) (every-open n [])

-- ---- over any table

module _ (differs : ℕ → ℕ → Bool) (rows : List Row) (rep : ℕ → ℕ) (offset : ℕ) (k : Clause) where
  abbrev size : ℕ
  size = variables k.patterns

  abbrev So : List ℕ → Type 0
  So = Sought differs rows rep offset k

  abbrev later : List ℕ → List ℕ → Bool
  later after a = breaks differs rows rep offset k a && earlier (take (length a) after) a

  -- those sought that stand after an assignment
  later-sought : (after a : List ℕ) → (So a × Before (take size after) a) ↔ ((length a ≡ size) × AllIn (starts rows rep) a × (later after a ≡ true))
  later-sought after a = (
    λ w. (
      w.0.0,
      w.0.1,
      and_both (breaks differs rows rep offset k a) (earlier (take (length a) after) a) w.0.2
          (before-earlier (take (length a) after) a (rw w.0.0 w.1)),
    ),
    λ w. (
      (w.0, w.1, and-true-left (breaks differs rows rep offset k a) (earlier (take (length a) after) a) w.2),
      subst (λ (n : ℕ). Before (take n after) a) w.0
          (earlier-before (take (length a) after) a (and-true-right (breaks differs rows rep offset k a) (earlier (take (length a) after) a) w.2)),
    ),
  )

  pub next-first : (after : List ℕ) → First (λ a. So a × Before (take size after) a) (next_by differs rows rep offset k after)
  unfolding next_by
  next-first after =
      same_first (later-sought after) (next_by differs rows rep offset k after) (seek-first (later after) (starts rows rep) (starts-rising rows rep) size)

  pub first-sought : First So (first_by differs rows rep offset k)
  unfolding first_by
  first-sought = seek-first (breaks differs rows rep offset k) (starts rows rep) (starts-rising rows rep) size

  unfoldable pub every_by : List (List ℕ)
  every_by = every (breaks differs rows rep offset k) (starts rows rep) size []

  pub every-sought : Enumerates So every_by
  unfolding every_by
  every-sought = every-passes (breaks differs rows rep offset k) (starts rows rep) (starts-rising rows rep) size

  unfoldable pub every_after : List ℕ → List (List ℕ)
  every_after after = every (later after) (starts rows rep) size []

  after-sought : (after : List ℕ) → Enumerates (λ a. So a × Before (take size after) a) (every_after after)
  unfolding every_after
  after-sought after = enumerates-same (later-sought after) (every_after after) (every-passes (later after) (starts rows rep) (starts-rising rows rep) size)

  -- an assignment may stand in more places than it has
  module _ (place : List ℕ → List ℕ) (front : (a : List ℕ) → length a ≡ size → take size (place a) ≡ a) where
    abbrev onward : List ℕ → Found
    onward a = next_by differs rows rep offset k (place a)

    pub nexts-sought : Nexts So size onward
    nexts-sought =
        record {
          long = λ a s. s.0;
          first = λ a s. subst (λ (z : List ℕ). First (λ b. So b × Before z b) (onward a)) (front a s.0) (next-first (place a));
        }

    pub every-goes : Goes onward (first_by differs rows rep offset k) every_by
    every-goes = enumerates-goes size onward So nexts-sought (first_by differs rows rep offset k) first-sought every_by every-sought

    pub after-goes : (after : List ℕ) → Goes onward (next_by differs rows rep offset k after) (every_after after)
    after-goes after =
        enumerates-goes size onward (λ a. So a × Before (take size after) a) (nexts-after So size onward nexts-sought (take size after)) (next_by differs rows rep offset k after)
        (next-first after) (every_after after) (after-sought after)

-- ---- over a table of representatives

module _ (c : Context) (rep : ℕ → ℕ) (represents : Representatives c rep) where
  own_row : (i : ℕ) → Lowest c i i → Mem i (starts c.rows rep)
  own_row i w =
      let e : rep i ≡ i = omega (arith, (represents i w.row).least i w.row w.equal, w.least (rep i) (represents i w.row).row (represents i w.row).equal) in
      lowest-has rep i 0 (length c.rows) (omega arith) (omega (arith, w.row)) e

  row-own : (i : ℕ) → Mem i (starts c.rows rep) → Lowest c i i
  row-own i m =
      let h : i < length c.rows = mem_below (length c.rows) i (starts c.rows rep) (lowest-below rep (length c.rows) 0 (length c.rows) (omega arith)) m in
      subst (Lowest c i) (lowest-self rep i 0 (length c.rows) m) (represents i h)

  own-all : (a : List ℕ) → OwnRows c a → AllIn (starts c.rows rep) a
  own-all [] h = tt
  own-all (i ∷ a) h = (own_row i h.0, own-all a h.1)

  all_own : (a : List ℕ) → AllIn (starts c.rows rep) a → OwnRows c a
  all_own [] h = tt
  all_own (i ∷ a) h = (row-own i h.0, all_own a h.1)

  own-low : (k : Clause) (a : List ℕ) → OwnBreach c k a ↔ LowBreach c k rep a
  own-low k a = (λ w. (w.breaches, own-all a w.own), λ w. record { breaches = w.0; own = all_own a w.1 })

-- and with the numbers outside from any offset that is no row
module _ (c : Context) (k : Clause) (formed : Formed c k) (free : Consistent c) (rep : ℕ → ℕ) (represents : Representatives c rep) (offset : ℕ)
    (high : length c.rows ≤ offset) where
  abbrev differs : ℕ → ℕ → Bool
  differs = differ_by c

  pub own-sought : (a : List ℕ) → OwnBreach c k a ↔ Sought differs c.rows rep offset k a
  own-sought a =
      let low : LowBreach c k rep a ↔ Sought differs c.rows rep offset k a =
      low-sought c k rep (representatives-closed c formed.fit rep represents) differs offset (numbers-right c k formed free rep represents offset high) a in
      (λ w. low.0 ((own-low c rep represents k a).0 w), λ w. (own-low c rep represents k a).1 (low.1 w))

  pub every-lists : Lists c k (every_by differs c.rows rep offset k)
  every-lists = enumerates-same own-sought (every_by differs c.rows rep offset k) (every-sought differs c.rows rep offset k)

  sought-own : (a : List ℕ) → Sought differs c.rows rep offset k a ↔ OwnBreach c k a
  sought-own a = ((own-sought a).1, (own-sought a).0)

  pub lists-goes : (l : List (List ℕ)) → Lists c k l ↔ Goes (next_by differs c.rows rep offset k) (first_by differs c.rows rep offset k) l
  lists-goes l = (
    λ w. enumerates-goes (variables k.patterns) next (Sought differs c.rows rep offset k) nexts start from l (enumerates-same sought-own l w),
    λ w. enumerates-same own-sought l (goes-enumerates (variables k.patterns) next (Sought differs c.rows rep offset k) nexts start from l w),
  )
    where
      next : List ℕ → Found
      next = next_by differs c.rows rep offset k

      start : Found
      start = first_by differs c.rows rep offset k

      nexts : Nexts (Sought differs c.rows rep offset k) (variables k.patterns) next
      nexts = nexts-sought differs c.rows rep offset k (λ a. a) (λ a h. ap (λ (n : ℕ). take n a) (sym h) ∙ take-length a)

      from : First (Sought differs c.rows rep offset k) start
      from = first-sought differs c.rows rep offset k
