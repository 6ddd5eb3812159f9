-- Sets as tests of numbers.
--     any-has, any_none     a member makes `any_below` pass; where it fails there is none
--     size-most, size_less  no more members than numbers; a set without a member of another has fewer
--     size-one              a set of one member at most has no two
-- Assumes nothing.
use mathlib.Core.Bool.{Bool, true, false, ◌||◌}
use mathlib.Core.Path.{◌≡◌, refl, sym, subst}
use Prim.Native.Nat.{ℕ, zero, suc, ◌≤◌, ◌<◌}
use native.Mathlib.Omega.{arith}
use lib.Dec.{eqb}
use borrow.Author.Tests.{eqb-true, eqb-false}
use Rattle.meaning.proofs.Logic.{false-true, or_left, or_right}
use Rattle.bits.specs.Sets.{any_below, size}

pub any-has : (n : ℕ) (set : ℕ → Bool) (x : ℕ) → x < n → set x ≡ true → any_below n set ≡ true
unfolding any_below
any-has zero set x h e = absurd (omega arith)
any-has (suc n) set x h e = go (eqb x n) refl (λ l. any-has n set x l e)
  where
    go : (b : Bool) → eqb x n ≡ b → (x < n → any_below n set ≡ true) → (set n || any_below n set) ≡ true
    go true q f = or_left (set n) (any_below n set) (subst (λ (y : ℕ). set y ≡ true) (eqb-true x n q) e)
    go false q f = or_right (set n) (any_below n set) (f (omega (arith, eqb-false x n q)))

pub any_none : (n : ℕ) (set : ℕ → Bool) (x : ℕ) → any_below n set ≡ false → x < n → set x ≡ true → ⊥
any_none n set x f h e = false-true (any-has n set x h e) f

pub size-most : (n : ℕ) (set : ℕ → Bool) → size n set ≤ n
unfolding size
size-most zero set = omega arith
size-most (suc n) set = go (set n) refl (size-most n set)
  where
    go : (b : Bool) → set n ≡ b → size n set ≤ n → size (suc n) set ≤ suc n
    go true q f = rw (q, size) (omega arith)
    go false q f = rw (q, size) (omega arith)

size_mono : (n : ℕ) (one two : ℕ → Bool) → ((j : ℕ) → two j ≡ true → one j ≡ true) → size n two ≤ size n one
unfolding size
size_mono zero one two f = omega arith
size_mono (suc n) one two f = go (one n) refl (two n) refl (size_mono n one two f)
  where
    go : (a : Bool) → one n ≡ a → (b : Bool) → two n ≡ b → size n two ≤ size n one → size (suc n) two ≤ size (suc n) one
    go true p true q i = rw (p, q, size) (omega arith)
    go true p false q i = rw (p, q, size) (omega arith)
    go false p true q i = false-true (f n q) p
    go false p false q i = rw (p, q, size) i

-- one member less
pub size_less : (n : ℕ) (one two : ℕ → Bool) (x : ℕ) → ((j : ℕ) → two j ≡ true → one j ≡ true) → x < n → one x ≡ true → two x ≡ false → size n two < size n one
unfolding size
size_less zero one two x f h e q = absurd (omega arith)
size_less (suc n) one two x f h e q = go (one n) refl (two n) refl (eqb x n) refl (λ l. size_less n one two x f l e q) (size_mono n one two f)
  where
    go : (a : Bool) → one n ≡ a → (b : Bool) → two n ≡ b → (c : Bool) → eqb x n ≡ c → (x < n → size n two < size n one) → size n two ≤ size n one → size (suc n) two < size (suc n) one
    go true p true r true w i m = false-true (subst (λ (k : ℕ). two k ≡ true) (sym (eqb-true x n w)) r) q
    go true p true r false w i m = rw (p, r, size) (omega (arith, i (omega (arith, eqb-false x n w))))
    go true p false r c w i m = rw (p, r, size) (omega arith)
    go false p true r c w i m = false-true (f n r) p
    go false p false r true w i m = false-true (subst (λ (k : ℕ). one k ≡ true) (eqb-true x n w) e) p
    go false p false r false w i m = rw (p, r, size) (i (omega (arith, eqb-false x n w)))

size-some : (n : ℕ) (set : ℕ → Bool) (x : ℕ) → x < n → set x ≡ true → 0 < size n set
unfolding size
size-some zero set x h e = absurd (omega arith)
size-some (suc n) set x h e = go (set n) refl (eqb x n) refl (λ l. size-some n set x l e)
  where
    go : (b : Bool) → set n ≡ b → (c : Bool) → eqb x n ≡ c → (x < n → 0 < size n set) → 0 < size (suc n) set
    go true q c w f = rw (q, size) (omega arith)
    go false q true w f = false-true (subst (λ (y : ℕ). set y ≡ true) (eqb-true x n w) e) q
    go false q false w f = rw (q, size) (f (omega (arith, eqb-false x n w)))

-- of two members, the higher one
size-two : (n : ℕ) (set : ℕ → Bool) → size n set ≤ 1 → (x y : ℕ) → x < y → y < n → set x ≡ true → set y ≡ true → ⊥
unfolding size
size-two zero set s x y h l e f = omega arith
size-two (suc n) set s x y h l e f = go (set n) refl (eqb y n) refl (λ w k. size-two n set w x y h k e f)
  where
    go : (b : Bool) → set n ≡ b → (c : Bool) → eqb y n ≡ c → (size n set ≤ 1 → y < n → ⊥) → ⊥
    go true q c w g =
        let z : suc (size n set) ≤ 1 = rw (q, size) at s in
        omega (arith, size-some n set x (omega arith) e)
    go false q true w g = false-true (subst (λ (k : ℕ). set k ≡ true) (eqb-true y n w) f) q
    go false q false w g = g (rw (q, size) at s) (omega (arith, eqb-false y n w))

pub size-one : (n : ℕ) (set : ℕ → Bool) → size n set ≤ 1 → (x y : ℕ) → x < n → y < n → set x ≡ true → set y ≡ true → x ≡ y
size-one n set s x y h l e f = order (λ w. size-two n set s x y w l e f) (λ w. size-two n set s y x w h f e)
  where
    order : (x < y → ⊥) → (y < x → ⊥) → x ≡ y
    order p q = omega (arith, p, q)
