-- Spaces that are filled place by place, and sizes that stop one above the most.
--     Sized, sized-more      a size, and one more
--     blank-at, zeros-at     a place of a space of one value alone, as of zeros
--     Stored, stored_more    a space holds the first so many members of a list; of a list that is one longer
--     stored-front           and those of what the list begins with
--     stored-all             the front of the space is the list, where the size says that it fits
-- Assumes nothing.
use mathlib.Core.Bool.{Bool, true, false}
use mathlib.Core.List.{List, [], ◌∷◌, ◌++◌}
use mathlib.Core.Path.{◌≡◌, refl, ap, sym, ◌∙◌}
use Prim.Native.Nat.{ℕ, zero, suc, ◌+◌, ◌≤◌, ◌<◌}
use native.Mathlib.Omega.{arith}
use lib.Dec.{ltb}
use borrow.Author.Tests.{ltb-true, ltb-false}
use lib.ListN.{length, get_or, take, set, replicate, length-append, length-set, get_or-append}
use lib.Seq.{get_or-set_same, get_or-set_other, get_or-append_seam, length-take-le, get_or-take, ext_get_or}
use Rattle.grounds_intake.specs.Machine.{grown}
use Rattle.grounds_intake.proofs.Ways.{grow-up, grow-stay}

pub record Sized (most n size : ℕ) : Type 0 where
  pub few : size ≤ most
  pub exact : n < most → size ≡ n
  pub full : most ≤ n → size ≡ most

pub sized-more : (most n size : ℕ) → Sized most n size → Sized most (n + 1) (grown size most)
sized-more most n size w = go (ltb n most) refl
  where
    go : (c : Bool) → ltb n most ≡ c → Sized most (n + 1) (grown size most)
    go true q =
        let h : n < most = ltb-true n most q in
        let e : size ≡ n = w.exact h in
        rw (← grow-up size most (omega arith)) (record { few = omega arith; exact = λ k. omega arith; full = λ k. omega arith })
    go false q =
        let h : most ≤ n = ltb-false n most q in
        let e : size ≡ most = w.full h in
        rw (← grow-stay size most (omega arith)) (record { few = omega arith; exact = λ k. absurd (omega arith); full = λ k. omega arith })

pub blank-at : {A : Type 0} (d : A) (n j : ℕ) → get_or (replicate n d) j d ≡ d
blank-at d zero j = refl
blank-at d (suc n) zero = refl
blank-at d (suc n) (suc j) = blank-at d n j

pub zeros-at : (n j : ℕ) → ◌≡◌ {A = ℕ} (get_or (replicate n 0) j 0) 0
zeros-at n j = blank-at {A = ℕ} 0 n j

-- read with something where there is nothing
pub record Stored {A : Type 0} (d : A) (most : ℕ) (space l : List A) : Type 0 where
  pub room : most ≤ length space
  pub at : (j : ℕ) → j < most → j < length l → get_or space j d ≡ get_or l j d

pub stored_more : {A : Type 0} (d : A) (most : ℕ) (space l : List A) (size : ℕ) (b : A) → Sized (most + 1) (length l) size → Stored d most space l → Stored d most (set space size b) (l ++ (b ∷ []))
stored_more d most space l size b s w = record { room = omega (arith, length-set space size b, w.room); at = at }
  where
    before : (j : ℕ) → j < most → j < length l → j ≡ size → ⊥
    before j h k e = go (ltb (length l) (most + 1)) refl
      where
        go : (c : Bool) → ltb (length l) (most + 1) ≡ c → ⊥
        go true q = omega (arith, s.exact (ltb-true (length l) (most + 1) q))
        go false q = omega (arith, s.full (ltb-false (length l) (most + 1) q))

    at : (j : ℕ) → j < most → j < length (l ++ (b ∷ [])) → get_or (set space size b) j d ≡ get_or (l ++ (b ∷ [])) j d
    at j h k = go (ltb j (length l)) refl
      where
        go : (c : Bool) → ltb j (length l) ≡ c → get_or (set space size b) j d ≡ get_or (l ++ (b ∷ [])) j d
        go true q =
            let i : j < length l = ltb-true j (length l) q in
            get_or-set_other space size j b d (before j h i) ∙ w.at j h i ∙ sym (get_or-append l (b ∷ []) d j i)
        go false q =
            let e : j ≡ length l = omega (arith, ltb-false j (length l) q, length-append l (b ∷ [])) in
            let f : size ≡ length l = s.exact (omega arith) in
            ap (λ (x : ℕ). get_or (set space size b) x d) (e ∙ sym f)
            ∙ get_or-set_same space size b d (omega (arith, w.room))
            ∙ sym (ap (λ (x : ℕ). get_or (l ++ (b ∷ [])) x d) e ∙ get_or-append_seam l b [] d)

pub stored-front : {A : Type 0} (d : A) (most : ℕ) (space l r : List A) → Stored d most space (l ++ r) → Stored d most space l
stored-front d most space l r w =
    record { room = w.room; at = λ j h k. w.at j h (omega (arith, length-append l r)) ∙ get_or-append l r d j k }

pub stored-all : {A : Type 0} (d : A) (most : ℕ) (space l : List A) (size : ℕ) → Sized (most + 1) (length l) size → Stored d most space l → size ≤ most → take size space ≡ l
stored-all d most space l size s w h = ext_get_or d (take size space) l (long ∙ same) at
  where
    long : length (take size space) ≡ size
    long = length-take-le size space (omega (arith, w.room))

    same : size ≡ length l
    same = go (ltb (length l) (most + 1)) refl
      where
        go : (c : Bool) → ltb (length l) (most + 1) ≡ c → size ≡ length l
        go true q = s.exact (ltb-true (length l) (most + 1) q)
        go false q = absurd (omega (arith, s.full (ltb-false (length l) (most + 1) q)))

    at : (j : ℕ) → j < length (take size space) → get_or (take size space) j d ≡ get_or l j d
    at j k = get_or-take size space j d (omega (arith, long)) ∙ w.at j (omega (arith, long)) (omega (arith, long, same))
