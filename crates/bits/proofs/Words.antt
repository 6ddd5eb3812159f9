-- What the operations of code do to a set in words.
--     bit-zero, bit-suc, none_has     the lowest bit, and the others; no bits
--     read_has                        the test that code writes, `(x >> j) & 1 == 1`
--     and-has, or-has, only-has       the bits of `x & y`, `x | y` and `1 << k`
--     xor-has, shift-has              the bits of `x ^ y` and `x >> k`
--     low-lowest                      `u64::trailing_zeros(x)` is the lowest bit
--     drop-has                        `x & (x - 1)` is x without its lowest bit
--     ones-size                       `u64::count_ones(x)` is the number of bits
--     word_some, word_none            a word is 0 just where it has no bit
--     has-at, words_size              a set of several words, and the counts of its words added up
--     set-has, insert-has, remove-has a word written; a number put into a set, and taken out
--     has_on                          the words from a later one on
--     both-has, either-has            what both sets have, or either, word by word
--     words-none, words-first         no member in n words; the lowest member
-- Assumes nothing.
use mathlib.Core.Bool.{Bool, true, false, not, ◌&&◌, ◌||◌}
use mathlib.Core.List.{List}
use mathlib.Core.Path.{◌≡◌, refl, ap, ap₂, sym, ◌∙◌, subst}
use mathlib.Core.Logic.{◌⊎◌, inl, inr}
use Prim.Native.Nat.{ℕ, zero, suc, ◌+◌, ◌-◌, ◌*◌, ◌/◌, ◌%◌, ◌^◌, ◌≤◌, ◌<◌, min, max}
use native.Mathlib.Nat.{pow-suc, pow-succ', div-div-eq-div-mul, div-one, div-lt_iff_lt-mul, zero-lt-suc}
use native.Mathlib.Omega.{arith}
use lib.Arith.{lt-one}
use lib.Bits.{bit_and, bit_or, bit_xor, differ, and_step, or_step, xor_step, and_mask, shifted_half, shifted_even, and_self}
use lib.Count.{count_trailing_zeros, under, ones, ones_step}
use lib.Dec.{eqb, ltb, lit<, eqb-zero-suc, eqb-suc-zero, eqb-suc-suc}
use lib.ListN.{length, get_or, set}
use lib.Pow.{shl_exact, pow-add}
use lib.Seq.{get_or-set_same, get_or-set_other}
use borrow.Author.Tests.{eqb-true, eqb-false, eq-eqb, ne_eqb, ltb-true, ltb-false}
use Rattle.meaning.proofs.Logic.{false-true}
use Rattle.bits.specs.Sets.{size, any_below, bit_at, has, Lowest, size_of}
use Rattle.bits.proofs.Members.{any-has}

-- ---- bits one by one

pub bit-zero : (x : ℕ) → bit_at x 0 ≡ eqb (x % 2) 1
unfolding bit_at
bit-zero x = ap (λ (n : ℕ). eqb (n % 2) 1) (div-one x)

pub bit-suc : (x j : ℕ) → bit_at x (suc j) ≡ bit_at (x / 2) j
unfolding bit_at
bit-suc x j = ap (λ (n : ℕ). eqb (n % 2) 1) (ap (λ (n : ℕ). x / n) (pow-succ' 2 j) ∙ sym (div-div-eq-div-mul x 2 (2 ^ j)))

pub none_has : (j : ℕ) → bit_at 0 j ≡ false
none_has zero = bit-zero 0
none_has (suc j) = bit-suc 0 j ∙ none_has j

half_lt : (d x : ℕ) → x < 2 ^ suc d → x / 2 < 2 ^ d
half_lt d x h = (div-lt_iff_lt-mul (zero-lt-suc 1)).1 (subst (λ (n : ℕ). x < n) (pow-suc 2 d) h)

-- past the highest bit
high-from : (d x j : ℕ) → x < 2 ^ d → d ≤ j → bit_at x j ≡ false
high-from zero x j h l = ap (λ (n : ℕ). bit_at n j) (lt-one h) ∙ none_has j
high-from (suc d) x zero h l = absurd (omega arith)
high-from (suc d) x (suc j) h l = bit-suc x j ∙ high-from d (x / 2) j (half_lt d x h) (omega arith)

pub high-none : (x j : ℕ) → x < 2 ^ 64 → 64 ≤ j → bit_at x j ≡ false
high-none x j h l = high-from 64 x j h l

-- `(x >> j) & 1 == 1`
pub read_has : (x j : ℕ) → eqb (bit_and (x / 2 ^ j) 1) 1 ≡ bit_at x j
unfolding bit_at
read_has x j = ap (λ (n : ℕ). eqb n 1) (and_mask (x / 2 ^ j) 1)

-- ---- two words

digit : (a : ℕ) → a < 2 → (a ≡ 0) ⊎ (a ≡ 1)
digit zero h = inl refl
digit (suc zero) h = inr refl
digit (suc (suc a)) h = absurd (omega arith)

min-digit : (a b : ℕ) → a < 2 → b < 2 → eqb (min a b) 1 ≡ (eqb a 1 && eqb b 1)
min-digit a b h l = go (digit a h) (digit b l)
  where
    go : (a ≡ 0) ⊎ (a ≡ 1) → (b ≡ 0) ⊎ (b ≡ 1) → eqb (min a b) 1 ≡ (eqb a 1 && eqb b 1)
    go (inl p) (inl q) = rw (p, q) refl
    go (inl p) (inr q) = rw (p, q) refl
    go (inr p) (inl q) = rw (p, q) refl
    go (inr p) (inr q) = rw (p, q) refl

max-digit : (a b : ℕ) → a < 2 → b < 2 → eqb (max a b) 1 ≡ (eqb a 1 || eqb b 1)
max-digit a b h l = go (digit a h) (digit b l)
  where
    go : (a ≡ 0) ⊎ (a ≡ 1) → (b ≡ 0) ⊎ (b ≡ 1) → eqb (max a b) 1 ≡ (eqb a 1 || eqb b 1)
    go (inl p) (inl q) = rw (p, q) refl
    go (inl p) (inr q) = rw (p, q) refl
    go (inr p) (inl q) = rw (p, q) refl
    go (inr p) (inr q) = rw (p, q) refl

pub and-has : (x y j : ℕ) → bit_at (bit_and x y) j ≡ (bit_at x j && bit_at y j)
and-has x y zero =
    let e : bit_and x y % 2 ≡ min (x % 2) (y % 2) = omega (arith, and_step x y) in
    bit-zero (bit_and x y)
    ∙ ap (λ (n : ℕ). eqb n 1) e
    ∙ min-digit (x % 2) (y % 2) (omega arith) (omega arith)
    ∙ ap₂ (λ (a b : Bool). a && b) (sym (bit-zero x)) (sym (bit-zero y))
and-has x y (suc j) =
    let e : bit_and x y / 2 ≡ bit_and (x / 2) (y / 2) = omega (arith, and_step x y) in
    bit-suc (bit_and x y) j
    ∙ ap (λ (n : ℕ). bit_at n j) e
    ∙ and-has (x / 2) (y / 2) j
    ∙ ap₂ (λ (a b : Bool). a && b) (sym (bit-suc x j)) (sym (bit-suc y j))

pub or-has : (x y j : ℕ) → bit_at (bit_or x y) j ≡ (bit_at x j || bit_at y j)
or-has x y zero =
    let e : bit_or x y % 2 ≡ max (x % 2) (y % 2) = omega (arith, or_step x y) in
    bit-zero (bit_or x y)
    ∙ ap (λ (n : ℕ). eqb n 1) e
    ∙ max-digit (x % 2) (y % 2) (omega arith) (omega arith)
    ∙ ap₂ (λ (a b : Bool). a || b) (sym (bit-zero x)) (sym (bit-zero y))
or-has x y (suc j) =
    let e : bit_or x y / 2 ≡ bit_or (x / 2) (y / 2) = omega (arith, or_step x y) in
    bit-suc (bit_or x y) j
    ∙ ap (λ (n : ℕ). bit_at n j) e
    ∙ or-has (x / 2) (y / 2) j
    ∙ ap₂ (λ (a b : Bool). a || b) (sym (bit-suc x j)) (sym (bit-suc y j))

-- just one of two
unfoldable pub either : Bool → Bool → Bool
either true b = not b
either false b = b

differ-digit : (a b : ℕ) → a < 2 → b < 2 → eqb (differ a b) 1 ≡ either (eqb a 1) (eqb b 1)
unfolding either
differ-digit a b h l = go (digit a h) (digit b l)
  where
    go : (a ≡ 0) ⊎ (a ≡ 1) → (b ≡ 0) ⊎ (b ≡ 1) → eqb (differ a b) 1 ≡ either (eqb a 1) (eqb b 1)
    go (inl p) (inl q) = rw (p, q) refl
    go (inl p) (inr q) = rw (p, q) refl
    go (inr p) (inl q) = rw (p, q) refl
    go (inr p) (inr q) = rw (p, q) refl

differ-small : (a b : ℕ) → a < 2 → b < 2 → differ a b < 2
differ-small a b h l = go (digit a h) (digit b l)
  where
    go : (a ≡ 0) ⊎ (a ≡ 1) → (b ≡ 0) ⊎ (b ≡ 1) → differ a b < 2
    go (inl p) (inl q) = rw (p, q) (lit< tt)
    go (inl p) (inr q) = rw (p, q) (lit< tt)
    go (inr p) (inl q) = rw (p, q) (lit< tt)
    go (inr p) (inr q) = rw (p, q) (lit< tt)

pub xor-has : (x y j : ℕ) → bit_at (bit_xor x y) j ≡ either (bit_at x j) (bit_at y j)
xor-has x y zero =
    let e : bit_xor x y % 2 ≡ differ (x % 2) (y % 2) = omega (arith, xor_step x y, differ-small (x % 2) (y % 2) (omega arith) (omega arith)) in
    bit-zero (bit_xor x y)
    ∙ ap (λ (n : ℕ). eqb n 1) e
    ∙ differ-digit (x % 2) (y % 2) (omega arith) (omega arith)
    ∙ ap₂ (λ (a b : Bool). either a b) (sym (bit-zero x)) (sym (bit-zero y))
xor-has x y (suc j) =
    let e : bit_xor x y / 2 ≡ bit_xor (x / 2) (y / 2) = omega (arith, xor_step x y, differ-small (x % 2) (y % 2) (omega arith) (omega arith)) in
    bit-suc (bit_xor x y) j
    ∙ ap (λ (n : ℕ). bit_at n j) e
    ∙ xor-has (x / 2) (y / 2) j
    ∙ ap₂ (λ (a b : Bool). either a b) (sym (bit-suc x j)) (sym (bit-suc y j))

-- `x >> k`
pub shift-has : (x k j : ℕ) → bit_at (x / 2 ^ k) j ≡ bit_at x (k + j)
unfolding bit_at
shift-has x k j = ap (λ (n : ℕ). eqb (n % 2) 1) (div-div-eq-div-mul x (2 ^ k) (2 ^ j) ∙ ap (λ (n : ℕ). x / n) (sym (pow-add 2 k j)))

-- `(x | y) ^ y`
pub without-has : (x y j : ℕ) → bit_at (bit_xor (bit_or x y) y) j ≡ (bit_at x j && not (bit_at y j))
unfolding either
without-has x y j = xor-has (bit_or x y) y j ∙ ap (λ (b : Bool). either b (bit_at y j)) (or-has x y j) ∙ go (bit_at x j) (bit_at y j)
  where
    go : (a b : Bool) → either (a || b) b ≡ (a && not b)
    go true true = refl
    go true false = refl
    go false true = refl
    go false false = refl

power-has : (k j : ℕ) → bit_at (1 * 2 ^ k) j ≡ eqb j k
power-has zero zero = bit-zero 1
power-has zero (suc j) = bit-suc 1 j ∙ none_has j ∙ sym (eqb-suc-zero j)
power-has (suc k) zero = bit-zero (1 * 2 ^ suc k) ∙ ap (λ (n : ℕ). eqb n 1) (shifted_even 1 k) ∙ sym (eqb-zero-suc k)
power-has (suc k) (suc j) = bit-suc (1 * 2 ^ suc k) j ∙ ap (λ (n : ℕ). bit_at n j) (shifted_half 1 k) ∙ power-has k j ∙ sym (eqb-suc-suc j k)

-- `1 << k` at a u64
pub only-has : (k j : ℕ) → k < 64 → bit_at ((1 * 2 ^ k) % 2 ^ 64) j ≡ eqb j k
only-has k j h = ap (λ (n : ℕ). bit_at n j) (shl_exact 1 k 64 (lit< tt) (omega arith)) ∙ power-has k j

-- ---- the lowest bit

low-at : (d x : ℕ) → 0 < x → x < 2 ^ d → (count_trailing_zeros d x < d) × (bit_at x (count_trailing_zeros d x) ≡ true)
unfolding count_trailing_zeros
low-at zero x h l = let z : x ≡ 0 = lt-one l in absurd (omega arith)
low-at (suc d) x h l = go (x % 2) refl (λ e. low-at d (x / 2) (omega (arith, e)) (half_lt d x l))
  where
    go : (r : ℕ) → x % 2 ≡ r → (x % 2 ≡ 0 → (count_trailing_zeros d (x / 2) < d) × (bit_at (x / 2) (count_trailing_zeros d (x / 2)) ≡ true))
        → (under r (count_trailing_zeros d (x / 2)) < suc d) × (bit_at x (under r (count_trailing_zeros d (x / 2))) ≡ true)
    go zero e f = (omega (arith, (f e).0), bit-suc x (count_trailing_zeros d (x / 2)) ∙ (f e).1)
    go (suc r) e f = (omega arith, bit-zero x ∙ eq-eqb (x % 2) 1 (omega arith))

low_first : (d x j : ℕ) → j < count_trailing_zeros d x → bit_at x j ≡ false
unfolding count_trailing_zeros
low_first zero x j h = absurd (omega arith)
low_first (suc d) x j h = go (x % 2) refl j h (low_first d (x / 2))
  where
    go : (r : ℕ) → x % 2 ≡ r → (j : ℕ) → j < under r (count_trailing_zeros d (x / 2)) → ((i : ℕ) → i < count_trailing_zeros d (x / 2) → bit_at (x / 2) i ≡ false) → bit_at x j ≡ false
    go zero e zero l f = bit-zero x ∙ ap (λ (n : ℕ). eqb n 1) e
    go zero e (suc j) l f = bit-suc x j ∙ f j (omega arith)
    go (suc r) e j l f = absurd (omega arith)

pub low-lowest : (x : ℕ) → 0 < x → x < 2 ^ 64 → Lowest (bit_at x) (count_trailing_zeros 64 x)
low-lowest x h l = record { here = (low-at 64 x h l).1; first = low_first 64 x }

pub low_below : (x : ℕ) → 0 < x → x < 2 ^ 64 → count_trailing_zeros 64 x < 64
low_below x h l = (low-at 64 x h l).0

-- ---- a word without its lowest bit

drop-from : (d x : ℕ) → 0 < x → x < 2 ^ d → (j : ℕ) → bit_at (bit_and x (x - 1)) j ≡ (bit_at x j && not (eqb j (count_trailing_zeros d x)))
unfolding count_trailing_zeros
drop-from zero x h l j = let z : x ≡ 0 = lt-one l in absurd (omega arith)
drop-from (suc d) x h l j = go (x % 2) refl j (λ e. drop-from d (x / 2) (omega (arith, e)) (half_lt d x l))
  where
    t : ℕ
    t = count_trailing_zeros d (x / 2)

    go : (r : ℕ) → x % 2 ≡ r → (j : ℕ) → (x % 2 ≡ 0 → (i : ℕ) → bit_at (bit_and (x / 2) (x / 2 - 1)) i ≡ (bit_at (x / 2) i && not (eqb i t)))
        → bit_at (bit_and x (x - 1)) j ≡ (bit_at x j && not (eqb j (under r t)))
    go zero e zero f =
        let q : bit_and x (x - 1) % 2 ≡ 0 = omega (arith, and_step x (x - 1), e) in
        bit-zero (bit_and x (x - 1)) ∙ ap (λ (n : ℕ). eqb n 1) q ∙ sym (ap (λ (b : Bool). b && not (eqb 0 (suc t))) (bit-zero x ∙ ap (λ (n : ℕ). eqb n 1) e))
    go zero e (suc j) f =
        let a : (x - 1) / 2 ≡ x / 2 - 1 = omega (arith, e) in
        let q : bit_and x (x - 1) / 2 ≡ bit_and (x / 2) (x / 2 - 1) = omega (arith, and_step x (x - 1), ap (bit_and (x / 2)) a) in
        bit-suc (bit_and x (x - 1)) j
        ∙ ap (λ (n : ℕ). bit_at n j) q
        ∙ f e j
        ∙ ap₂ (λ (b c : Bool). b && not c) (sym (bit-suc x j)) (sym (eqb-suc-suc j t))
    go (suc r) e zero f =
        let q : bit_and x (x - 1) % 2 ≡ 0 = omega (arith, and_step x (x - 1), e) in
        bit-zero (bit_and x (x - 1)) ∙ ap (λ (n : ℕ). eqb n 1) q ∙ sym (cut (bit_at x 0))
      where
        cut : (b : Bool) → (b && not (eqb 0 0)) ≡ false
        cut true = refl
        cut false = refl
    go (suc r) e (suc j) f =
        let a : (x - 1) / 2 ≡ x / 2 = omega (arith, e) in
        let q : bit_and x (x - 1) / 2 ≡ x / 2 = omega (arith, and_step x (x - 1), ap (bit_and (x / 2)) a, and_self (x / 2)) in
        bit-suc (bit_and x (x - 1)) j ∙ ap (λ (n : ℕ). bit_at n j) q ∙ sym (bit-suc x j) ∙ keep (bit_at x (suc j)) ∙ ap (λ (c : Bool). bit_at x (suc j) && not c) (sym (eqb-suc-zero j))
      where
        keep : (b : Bool) → b ≡ (b && not false)
        keep true = refl
        keep false = refl

-- `x & (x - 1)`
pub drop-has : (x : ℕ) → 0 < x → x < 2 ^ 64 → (j : ℕ) → bit_at (bit_and x (x - 1)) j ≡ (bit_at x j && not (eqb j (count_trailing_zeros 64 x)))
drop-has x h l j = drop-from 64 x h l j

-- ---- how many

size_same : (n : ℕ) (one two : ℕ → Bool) → ((j : ℕ) → j < n → one j ≡ two j) → size n one ≡ size n two
unfolding size
size_same zero one two f = refl
size_same (suc n) one two f = go (one n) refl (two n) refl (size_same n one two (λ j h. f j (omega arith)))
  where
    go : (a : Bool) → one n ≡ a → (b : Bool) → two n ≡ b → size n one ≡ size n two → size (suc n) one ≡ size (suc n) two
    go true p true q e = rw (p, q, size) (ap suc e)
    go false p false q e = rw (p, q, size) e
    go true p false q e = false-true (sym (f n (omega arith)) ∙ p) q
    go false p true q e = false-true (f n (omega arith) ∙ q) p

pub size-add : (m n : ℕ) (set : ℕ → Bool) → size (m + n) set ≡ size m set + size n (λ j. set (m + j))
unfolding size
size-add m zero set = let z : m + 0 ≡ m = omega arith in rw z (omega arith)
size-add m (suc n) set = let z : m + suc n ≡ suc (m + n) = omega arith in rw z (go (set (m + n)) refl (size-add m n set))
  where
    go : (b : Bool) → set (m + n) ≡ b → size (m + n) set ≡ size m set + size n (λ j. set (m + j)) → size (suc (m + n)) set ≡ size m set + size (suc n) (λ j. set (m + j))
    go true e f = rw (e, size) (omega arith)
    go false e f = rw (e, size) f

-- the lowest bit, and the others
size_low : (n x : ℕ) → size (suc n) (bit_at x) ≡ x % 2 + size n (bit_at (x / 2))
unfolding size
size_low n x =
    let z : suc n ≡ 1 + n = omega arith in
    ap (λ (k : ℕ). size k (bit_at x)) z
    ∙ size-add 1 n (bit_at x)
    ∙ ap₂ (λ (a b : ℕ). a + b) (lowest-one (digit (x % 2) (omega arith)))
    (size_same n (λ j. bit_at x (1 + j)) (bit_at (x / 2)) (λ j h. let w : 1 + j ≡ suc j = omega arith in ap (bit_at x) w ∙ bit-suc x j))
  where
    lowest-one : (x % 2 ≡ 0) ⊎ (x % 2 ≡ 1) → size 1 (bit_at x) ≡ x % 2
    lowest-one (inl e) = let b : bit_at x 0 ≡ false = bit-zero x ∙ ap (λ (k : ℕ). eqb k 1) e in rw (size, b) (sym e)
    lowest-one (inr e) = let b : bit_at x 0 ≡ true = bit-zero x ∙ ap (λ (k : ℕ). eqb k 1) e in rw (size, b) (sym e)

ones_none : ones 0 ≡ 0
unfolding ones
ones_none = refl

ones-from : (d x : ℕ) → x < 2 ^ d → ones x ≡ size d (bit_at x)
unfolding size
ones-from zero x h = ap ones (lt-one h) ∙ ones_none
ones-from (suc d) x h = ones_step x ∙ ap (λ (k : ℕ). x % 2 + k) (ones-from d (x / 2) (half_lt d x h)) ∙ sym (size_low d x)

-- `u64::count_ones(x)`
pub ones-size : (x : ℕ) → x < 2 ^ 64 → ones x ≡ size 64 (bit_at x)
ones-size x h = ones-from 64 x h

-- ---- a word of no bits

pub word_some : (x : ℕ) → 0 < x → x < 2 ^ 64 → any_below 64 (bit_at x) ≡ true
word_some x h l = any-has 64 (bit_at x) (count_trailing_zeros 64 x) (low_below x h l) (low-lowest x h l).here

pub word_none : (n : ℕ) → any_below n (bit_at 0) ≡ false
unfolding any_below
word_none zero = refl
word_none (suc n) = rw (none_has n) (word_none n)

-- ---- sets of several words

pub has-at : (ws : List ℕ) (base i j : ℕ) → j < 64 → has ws base (i * 64 + j) ≡ bit_at (get_or ws (base + i) 0) j
unfolding has
has-at ws base i j h =
    let d : (i * 64 + j) / 64 ≡ i = omega arith in
    let m : (i * 64 + j) % 64 ≡ j = omega arith in
    ap₂ (λ (a b : ℕ). bit_at (get_or ws (base + a) 0) b) d m

-- the counts of the words add up
pub words_size : (ws : List ℕ) (base n : ℕ) → ((i : ℕ) → i < n → get_or ws (base + i) 0 < 2 ^ 64) → size_of ws base n ≡ size (n * 64) (has ws base)
unfolding size_of size
words_size ws base zero f = refl
words_size ws base (suc n) f =
    let z : suc n * 64 ≡ n * 64 + 64 = omega arith in
    ap₂ (λ (a b : ℕ). a + b) (words_size ws base n (λ i h. f i (omega arith)))
    (ones-size (get_or ws (base + n) 0) (f n (omega arith))
    ∙ size_same 64 (bit_at (get_or ws (base + n) 0)) (λ j. has ws base (n * 64 + j)) (λ j h. sym (has-at ws base n j h)))
    ∙ sym (ap (λ (k : ℕ). size k (has ws base)) z ∙ size-add (n * 64) 64 (has ws base))

-- a word written: what is asked of its bits is asked of the set
pub set-has : (ws : List ℕ) (base i w : ℕ) → base + i < length ws → (k : ℕ)
    → has (set ws (base + i) w) base k ≡ elim (eqb (k / 64) i) [ true ↦ bit_at w (k % 64) | false ↦ has ws base k ]
unfolding has
set-has ws base i w h k = go (eqb (k / 64) i) refl
  where
    go : (b : Bool) → eqb (k / 64) i ≡ b → bit_at (get_or (set ws (base + i) w) (base + k / 64) 0) (k % 64) ≡ elim b [ true ↦ bit_at w (k % 64) | false ↦ has ws base k ]
    go true e =
        let z : base + k / 64 ≡ base + i = ap (λ (n : ℕ). base + n) (eqb-true (k / 64) i e) in
        ap (λ (n : ℕ). bit_at n (k % 64)) (ap (λ (n : ℕ). get_or (set ws (base + i) w) n 0) z ∙ get_or-set_same ws (base + i) w 0 h)
    go false e = ap (λ (n : ℕ). bit_at n (k % 64)) (get_or-set_other ws (base + i) (base + k / 64) w 0 (λ z. eqb-false (k / 64) i e (omega (arith, z))))

-- `ws[base + k / 64] |= 1 << (k % 64)`
pub insert-has : (ws : List ℕ) (base k : ℕ) → base + k / 64 < length ws → (j : ℕ)
    → has (set ws (base + k / 64) (bit_or (get_or ws (base + k / 64) 0) ((1 * 2 ^ (k % 64)) % 2 ^ 64))) base j ≡ (has ws base j || eqb j k)
unfolding has
insert-has ws base k h j = set-has ws base (k / 64) (bit_or x y) h j ∙ go (eqb (j / 64) (k / 64)) refl
  where
    x : ℕ
    x = get_or ws (base + k / 64) 0

    y : ℕ
    y = (1 * 2 ^ (k % 64)) % 2 ^ 64

    go : (b : Bool) → eqb (j / 64) (k / 64) ≡ b → elim b [ true ↦ bit_at (bit_or x y) (j % 64) | false ↦ has ws base j ] ≡ (has ws base j || eqb j k)
    go true e =
        or-has x y (j % 64)
        ∙ ap₂ (λ (a b : Bool). a || b) (word (eqb-true (j / 64) (k / 64) e))
        (only-has (k % 64) (j % 64) (omega arith) ∙ same (eqb-true (j / 64) (k / 64) e) (eqb (j % 64) (k % 64)) refl)
      where
        word : j / 64 ≡ k / 64 → bit_at x (j % 64) ≡ has ws base j
        word z = rw (has, z) refl

        same : j / 64 ≡ k / 64 → (b : Bool) → eqb (j % 64) (k % 64) ≡ b → b ≡ eqb j k
        same z true q = sym (eq-eqb j k (omega (arith, eqb-true (j % 64) (k % 64) q)))
        same z false q = sym (ne_eqb j k (λ u. eqb-false (j % 64) (k % 64) q (ap (λ (n : ℕ). n % 64) u)))
    go false e = none (has ws base j) ∙ ap (λ (b : Bool). has ws base j || b) (sym (ne_eqb j k (λ u. eqb-false (j / 64) (k / 64) e (ap (λ (n : ℕ). n / 64) u))))
      where
        none : (b : Bool) → b ≡ (b || false)
        none true = refl
        none false = refl

-- `ws[base + k / 64] = (ws[base + k / 64] | 1 << (k % 64)) ^ 1 << (k % 64)`
pub remove-has : (ws : List ℕ) (base k : ℕ) → base + k / 64 < length ws → (j : ℕ)
    → has (set ws (base + k / 64) (bit_xor (bit_or (get_or ws (base + k / 64) 0) ((1 * 2 ^ (k % 64)) % 2 ^ 64)) ((1 * 2 ^ (k % 64)) % 2 ^ 64))) base j
    ≡ (has ws base j && not (eqb j k))
unfolding has
remove-has ws base k h j = set-has ws base (k / 64) (bit_xor (bit_or x y) y) h j ∙ go (eqb (j / 64) (k / 64)) refl
  where
    x : ℕ
    x = get_or ws (base + k / 64) 0

    y : ℕ
    y = (1 * 2 ^ (k % 64)) % 2 ^ 64

    go : (b : Bool) → eqb (j / 64) (k / 64) ≡ b
        → elim b [ true ↦ bit_at (bit_xor (bit_or x y) y) (j % 64) | false ↦ has ws base j ] ≡ (has ws base j && not (eqb j k))
    go true e =
        without-has x y (j % 64)
        ∙ ap₂ (λ (a b : Bool). a && not b) (word (eqb-true (j / 64) (k / 64) e))
        (only-has (k % 64) (j % 64) (omega arith) ∙ same (eqb-true (j / 64) (k / 64) e) (eqb (j % 64) (k % 64)) refl)
      where
        word : j / 64 ≡ k / 64 → bit_at x (j % 64) ≡ has ws base j
        word z = rw (has, z) refl

        same : j / 64 ≡ k / 64 → (b : Bool) → eqb (j % 64) (k % 64) ≡ b → b ≡ eqb j k
        same z true q = sym (eq-eqb j k (omega (arith, eqb-true (j % 64) (k % 64) q)))
        same z false q = sym (ne_eqb j k (λ u. eqb-false (j % 64) (k % 64) q (ap (λ (n : ℕ). n % 64) u)))
    go false e = all (has ws base j) ∙ ap (λ (b : Bool). has ws base j && not b) (sym (ne_eqb j k (λ u. eqb-false (j / 64) (k / 64) e (ap (λ (n : ℕ). n / 64) u))))
      where
        all : (b : Bool) → b ≡ (b && not false)
        all true = refl
        all false = refl

-- the words from word i on
pub has_on : (ws : List ℕ) (base i k : ℕ) → has ws (base + i) k ≡ has ws base (i * 64 + k)
unfolding has
has_on ws base i k =
    let d : base + i + k / 64 ≡ base + (i * 64 + k) / 64 = omega arith in
    let m : k % 64 ≡ (i * 64 + k) % 64 = omega arith in
    ap₂ (λ (a b : ℕ). bit_at (get_or ws a 0) b) d m

-- ---- words of two sets, one by one

module _ (op : ℕ → ℕ → ℕ) (join : Bool → Bool → Bool) (bits : (x y j : ℕ) → bit_at (op x y) j ≡ join (bit_at x j) (bit_at y j)) where
  words-join : (n : ℕ) (one two out : List ℕ) (a b c : ℕ) → ((i : ℕ) → i < n → get_or out (c + i) 0 ≡ op (get_or one (a + i) 0) (get_or two (b + i) 0))
      → (k : ℕ) → k < n * 64 → has out c k ≡ join (has one a k) (has two b k)
  unfolding has
  words-join n one two out a b c f k h =
      ap (λ (w : ℕ). bit_at w (k % 64)) (f (k / 64) (omega arith)) ∙ bits (get_or one (a + k / 64) 0) (get_or two (b + k / 64) 0) (k % 64)

-- each of n words of `out` is the `&` of a word of each set
pub both-has : (n : ℕ) (one two out : List ℕ) (a b c : ℕ) → ((i : ℕ) → i < n → get_or out (c + i) 0 ≡ bit_and (get_or one (a + i) 0) (get_or two (b + i) 0))
    → (k : ℕ) → k < n * 64 → has out c k ≡ (has one a k && has two b k)
both-has = words-join bit_and (λ x y. x && y) and-has

-- or the `|`
pub either-has : (n : ℕ) (one two out : List ℕ) (a b c : ℕ) → ((i : ℕ) → i < n → get_or out (c + i) 0 ≡ bit_or (get_or one (a + i) 0) (get_or two (b + i) 0))
    → (k : ℕ) → k < n * 64 → has out c k ≡ (has one a k || has two b k)
either-has = words-join bit_or (λ x y. x || y) or-has

-- ---- the lowest member of a set of several words

pub words-none : (ws : List ℕ) (base n : ℕ) → ((i : ℕ) → i < n → get_or ws (base + i) 0 ≡ 0) → (k : ℕ) → k < n * 64 → has ws base k ≡ false
unfolding has
words-none ws base n f k h = ap (λ (w : ℕ). bit_at w (k % 64)) (f (k / 64) (omega arith)) ∙ none_has (k % 64)

-- n words without a member, and then one whose lowest bit is t
pub words-first : (ws : List ℕ) (base n t : ℕ) → ((i : ℕ) → i < n → get_or ws (base + i) 0 ≡ 0) → t < 64 → Lowest (bit_at (get_or ws (base + n) 0)) t
    → Lowest (has ws base) (n * 64 + t)
words-first ws base n t f h low = record { here = has-at ws base n t h ∙ low.here; first = λ k i. go k i (ltb k (n * 64)) refl }
  where
    go : (k : ℕ) → k < n * 64 + t → (b : Bool) → ltb k (n * 64) ≡ b → has ws base k ≡ false
    go k i true e = words-none ws base n f k (ltb-true k (n * 64) e)
    go k i false e =
        let m : n * 64 ≤ k = omega (arith, ltb-false k (n * 64) e) in
        let z : k ≡ n * 64 + (k - n * 64) = omega arith in
        ap (has ws base) z ∙ has-at ws base n (k - n * 64) (omega arith) ∙ low.first (k - n * 64) (omega arith)
