-- The plain search gives the first assignment of some rows that passes a test; and which rows are their own representatives.
--     seek-first                       the first of the assignments of n rows that pass
--     starts, starts-rising            the rows that are their own representatives: what every variable starts with
--     lowest-rising, lowest-below      they rise, and are rows
--     lowest-self, lowest-has          they are exactly the rows i with rep i ≡ i
-- Assumes nothing.
use mathlib.Core.Bool.{Bool, true, false}
use mathlib.Core.List.{List, [], ◌∷◌, ◌++◌, append-nil}
use mathlib.Core.Path.{◌≡◌, refl, ap, sym, ◌∙◌}
use mathlib.Core.Logic.{inl, inr, ⊎_elim}
use Prim.Native.Nat.{ℕ, zero, suc, ◌+◌, ◌≤◌, ◌<◌}
use native.Mathlib.Omega.{arith}
use lib.Dec.{eqb}
use borrow.Author.Tests.{eqb-true, eqb-false}
use lib.ListN.{length, replicate}
use Rattle.meaning.specs.Context.{Row}
use Rattle.meaning.specs.Rules.{First, Below}
use Rattle.meaning.specs.FirstBy.{lowest, seek}
use Rattle.meaning.proofs.Logic.{false-true}
use Rattle.meaning.proofs.Order.{before-not-self, same_first}
use Rattle.meaning.proofs.Box.{Mem, AllIn, Above, Rising, Open, open-leaf, open-replicate}
use Rattle.meaning.proofs.Search.{try_all-first}

-- ---- the plain search

module _ (test : List ℕ → Bool) (rows : List ℕ) (up : Rising rows) where
  abbrev Passes : List ℕ → Type 0
  Passes a = test a ≡ true

  seek-open : (n : ℕ) (chosen : List ℕ) → First (Open Passes chosen (replicate n rows)) (seek test rows n chosen)
  unfolding seek
  seek-open zero chosen = go (test chosen) refl
    where
      go : (b : Bool) → test chosen ≡ b → First (Open Passes chosen []) (seek test rows zero chosen)
      go true e =
          rw (e, seek) (
            record { rest = []; whole = sym (append-nil chosen); inside = tt; so = e },
            λ a o w. before-not-self chosen (rw (open-leaf Passes chosen a o) at w),
          )
      go false e = rw (e, seek) (λ a o. false-true o.so (ap test (open-leaf Passes chosen a o) ∙ e))
  seek-open (suc n) chosen = try_all-first Passes (seek test rows n) chosen rows (replicate n rows) up (λ x m. seek-open n (chosen ++ (x ∷ [])))

  pub seek-first : (n : ℕ) → First (λ a. (length a ≡ n) × AllIn rows a × (test a ≡ true)) (seek test rows n [])
  seek-first n = same_first (open-replicate Passes n rows) (seek test rows n []) (seek-open n [])

-- ---- the rows that are their own representatives

abbrev pub starts : List Row → (ℕ → ℕ) → List ℕ
starts rows rep = lowest rep 0 (length rows)

module _ (rep : ℕ → ℕ) where
  lowest-above : (x i n : ℕ) → x < i → Above x (lowest rep i n)
  unfolding lowest
  lowest-above x i zero h = tt
  lowest-above x i (suc n) h = go (eqb (rep i) i) refl (lowest-above x (suc i) n (omega arith))
    where
      go : (b : Bool) → eqb (rep i) i ≡ b → Above x (lowest rep (suc i) n) → Above x (lowest rep i (suc n))
      go true e w = rw (e, lowest) (h, w)
      go false e w = rw (e, lowest) w

  pub lowest-rising : (i n : ℕ) → Rising (lowest rep i n)
  unfolding lowest
  lowest-rising i zero = tt
  lowest-rising i (suc n) = go (eqb (rep i) i) refl (lowest-rising (suc i) n)
    where
      go : (b : Bool) → eqb (rep i) i ≡ b → Rising (lowest rep (suc i) n) → Rising (lowest rep i (suc n))
      go true e w = rw (e, lowest) (lowest-above i (suc i) n (omega arith), w)
      go false e w = rw (e, lowest) w

  pub lowest-below : (m i n : ℕ) → i + n ≤ m → Below m (lowest rep i n)
  unfolding lowest
  lowest-below m i zero h = tt
  lowest-below m i (suc n) h = go (eqb (rep i) i) refl (lowest-below m (suc i) n (omega arith))
    where
      go : (b : Bool) → eqb (rep i) i ≡ b → Below m (lowest rep (suc i) n) → Below m (lowest rep i (suc n))
      go true e w = rw (e, lowest) (omega arith, w)
      go false e w = rw (e, lowest) w

  pub lowest-self : (x i n : ℕ) → Mem x (lowest rep i n) → rep x ≡ x
  unfolding lowest
  lowest-self x i zero m = absurd m
  lowest-self x i (suc n) m = go (eqb (rep i) i) refl (lowest-self x (suc i) n)
    where
      go : (b : Bool) → eqb (rep i) i ≡ b → (Mem x (lowest rep (suc i) n) → rep x ≡ x) → rep x ≡ x
      go true e f = ⊎_elim (λ q. ap rep q ∙ eqb-true (rep i) i e ∙ sym q) f (rw (e, lowest) at m)
      go false e f = f (rw (e, lowest) at m)

  pub lowest-has : (x i n : ℕ) → i ≤ x → x < i + n → rep x ≡ x → Mem x (lowest rep i n)
  unfolding lowest
  lowest-has x i zero h l e = absurd (omega arith)
  lowest-has x i (suc n) h l e = go (eqb (rep i) i) refl (eqb x i) refl (λ g. lowest-has x (suc i) n g (omega arith) e)
    where
      go : (b : Bool) → eqb (rep i) i ≡ b → (d : Bool) → eqb x i ≡ d → (suc i ≤ x → Mem x (lowest rep (suc i) n)) → Mem x (lowest rep i (suc n))
      go true p true q w = rw (p, lowest) (inl (eqb-true x i q))
      go true p false q w = rw (p, lowest) (inr (w (omega (arith, eqb-false x i q))))
      go false p true q w = let u : x ≡ i = eqb-true x i q in absurd (eqb-false (rep i) i p (ap rep (sym u) ∙ e ∙ u))
      go false p false q w = rw (p, lowest) (w (omega (arith, eqb-false x i q)))

pub starts-rising : (rows : List Row) (rep : ℕ → ℕ) → Rising (starts rows rep)
starts-rising rows rep = lowest-rising rep 0 (length rows)
