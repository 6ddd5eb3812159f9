-- New numbers that are forgotten: those of an owner's steps.
--     forgotten-long     there are as many places
--     forgotten-shared   shared steps keep their numbers
--     forgotten-own      and the others have none
-- Assumes nothing.
use mathlib.Core.Bool.{Bool, true, false}
use mathlib.Core.List.{List}
use mathlib.Core.Path.{◌≡◌, refl, ◌∙◌}
use Prim.Native.Nat.{ℕ, zero, suc, ◌+◌, ◌-◌, ◌≤◌, ◌<◌}
use native.Mathlib.Omega.{arith}
use lib.Dec.{eqb, ltb}
use borrow.Author.Tests.{eqb-true, eqb-false, ltb-true, ltb-false}
use lib.ListN.{length, get_or, length-set, get_or-eq_default}
use lib.Seq.{get_or-set_same, get_or-set_other}
use Rattle.grounds_laws.specs.Classes.{upto}
use Rattle.grounds_batches.specs.Sending.{forget_one, forgotten}

module _ (from : ℕ) (news : List ℕ) where
  abbrev left : ℕ → List ℕ
  left n = upto n (forget_one from) news

  forget-long : (n : ℕ) → length (left n) ≡ length news
  unfolding upto forget_one
  forget-long zero = refl
  forget-long (suc n) = go (ltb n from) refl (forget-long n)
    where
      go : (b : Bool) → ltb n from ≡ b → length (left n) ≡ length news → length (forget_one from n (left n)) ≡ length news
      go true e ih = rw (e, forget_one) ih
      go false e ih = rw (e, forget_one) (length-set (left n) (n + 1) 0 ∙ ih)

  forget-shared : (n p : ℕ) → p < from → get_or (left n) (suc p) 0 ≡ get_or news (suc p) 0
  unfolding upto forget_one
  forget-shared zero p h = refl
  forget-shared (suc n) p h = go (ltb n from) refl (forget-shared n p h)
    where
      go : (b : Bool) → ltb n from ≡ b → get_or (left n) (suc p) 0 ≡ get_or news (suc p) 0 → get_or (forget_one from n (left n)) (suc p) 0 ≡ get_or news (suc p) 0
      go true e ih = rw (e, forget_one) ih
      go false e ih =
          let l : from ≤ n = ltb-false n from e in rw (e, forget_one) (get_or-set_other (left n) (n + 1) (suc p) 0 0 (λ z. omega arith) ∙ ih)

  forget-own : (n p : ℕ) → n < length news → p < n → from ≤ p → get_or (left n) (suc p) 0 ≡ 0
  unfolding upto forget_one
  forget-own zero p b h l = absurd (omega arith)
  forget-own (suc n) p b h l = go (ltb n from) refl (eqb p n) refl (forget-own n p (omega arith))
    where
      go : (b : Bool) → ltb n from ≡ b → (d : Bool) → eqb p n ≡ d → (p < n → from ≤ p → get_or (left n) (suc p) 0 ≡ 0) → get_or (forget_one from n (left n)) (suc p) 0 ≡ 0
      go true e d f ih = rw (e, forget_one) (ih (omega (arith, ltb-true n from e)) l)
      go false e true f ih =
          let z : suc p ≡ n + 1 = omega (arith, eqb-true p n f) in
          rw (e, forget_one, z) (get_or-set_same (left n) (n + 1) 0 0 (omega (arith, forget-long n)))
      go false e false f ih =
          rw (e, forget_one)
          (get_or-set_other (left n) (n + 1) (suc p) 0 0 (λ z. eqb-false p n f (omega arith)) ∙ ih (omega (arith, eqb-false p n f)) l)

  pub forgotten-long : length (forgotten from news) ≡ length news
  unfolding forgotten
  forgotten-long = forget-long (length news - 1)

  pub forgotten-shared : (p : ℕ) → p < from → get_or (forgotten from news) (suc p) 0 ≡ get_or news (suc p) 0
  unfolding forgotten
  forgotten-shared p h = forget-shared (length news - 1) p h

  pub forgotten-own : (p : ℕ) → from ≤ p → get_or (forgotten from news) (suc p) 0 ≡ 0
  unfolding forgotten
  forgotten-own p h = go (ltb p (length news - 1)) refl
    where
      go : (b : Bool) → ltb p (length news - 1) ≡ b → get_or (left (length news - 1)) (suc p) 0 ≡ 0
      go true e =
          let l : p < length news - 1 = ltb-true p (length news - 1) e in forget-own (length news - 1) p (omega arith) l h
      go false e =
          get_or-eq_default (left (length news - 1)) 0 {n = suc p} (omega (arith, forget-long (length news - 1), ltb-false p (length news - 1) e))
