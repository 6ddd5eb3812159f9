-- Sets of numbers: as tests, and as bits in words of 64.
--     any_below, size   whether some number below a bound is in a set, and how many are
--     bit_at, has       bit j of a word; whether a number is in the set whose words start at a place of a run
--     Lowest           the lowest member of a set
--     size_of           how many members n words have
--     Met, Places      n words hold what they and n others had in common, and no other word has changed; both stand in the run, apart
--     NoneFrom, First  n words have no member that is no lower than a bound; the lowest such
--     Next, Low        one of the two; the same where the bound is 0
--     United           n words hold what they or n words of another run had, and no other word has changed
--     Emptied          n words without a member
-- Assumes nothing.
use Rattle.std.specs.Prelude.{Bool, true, false, ◌||◌, Option, None, Some, List, ◌≡◌, ◌⊎◌, ℕ, zero, suc, ◌+◌, ◌*◌, ◌/◌, ◌%◌, ◌^◌, ◌≤◌, ◌<◌, eqb, length, get_or}
use Rattle.std.specs.Int.Bits.{bit_and, bit_or}
use Rattle.std.specs.Int.Count.{ones}

unfoldable pub any_below : ℕ → (ℕ → Bool) → Bool
any_below zero set = false
any_below (suc n) set = set n || any_below n set

unfoldable pub size : ℕ → (ℕ → Bool) → ℕ
size zero set = 0
size (suc n) set = let k : ℕ = size n set in elim (set n) [ true ↦ suc k | false ↦ k ]

unfoldable pub bit_at : ℕ → ℕ → Bool
bit_at x j = eqb (x / 2 ^ j % 2) 1

-- the words stand from `base` on
unfoldable pub has : List ℕ → ℕ → ℕ → Bool
has ws base k = bit_at (get_or ws (base + k / 64) 0) (k % 64)

pub record Lowest (set : ℕ → Bool) (r : ℕ) : Type 0 where
  pub here : set r ≡ true
  pub first : (j : ℕ) → j < r → set j ≡ false

-- n words from `base` on
unfoldable pub size_of : List ℕ → ℕ → ℕ → ℕ
size_of ws base zero = 0
size_of ws base (suc n) = size_of ws base n + ones (get_or ws (base + n) 0)

pub record Met (old new : List ℕ) (a b n : ℕ) : Type 0 where
  pub long : length new ≡ length old
  pub words : (j : ℕ) → j < n → get_or new (a + j) 0 ≡ bit_and (get_or old (a + j) 0) (get_or old (b + j) 0)
  pub others : (j : ℕ) → (j < a) ⊎ (a + n ≤ j) → get_or new j 0 ≡ get_or old j 0

pub record Places (size a b n : ℕ) : Type 0 where
  pub left : a + n ≤ size
  pub right : b + n ≤ size
  pub apart : (a + n ≤ b) ⊎ (b + n ≤ a)

pub record NoneFrom (ws : List ℕ) (base n from : ℕ) : Type 0 where
  pub none : (k : ℕ) → from ≤ k → k < n * 64 → has ws base k ≡ false

pub record First (ws : List ℕ) (base n from r : ℕ) : Type 0 where
  pub within : r < n * 64
  pub later : from ≤ r
  pub here : has ws base r ≡ true
  pub first : (k : ℕ) → from ≤ k → k < r → has ws base k ≡ false

abbrev pub Next : List ℕ → ℕ → ℕ → ℕ → Option ℕ → Type 0
Next ws base n from None = NoneFrom ws base n from
Next ws base n from (Some r) = First ws base n from r

abbrev pub Low : List ℕ → ℕ → ℕ → Option ℕ → Type 0
Low ws base n r = Next ws base n 0 r

pub record United (old more new : List ℕ) (a b n : ℕ) : Type 0 where
  pub long : length new ≡ length old
  pub words : (j : ℕ) → j < n → get_or new (a + j) 0 ≡ bit_or (get_or old (a + j) 0) (get_or more (b + j) 0)
  pub others : (j : ℕ) → (j < a) ⊎ (a + n ≤ j) → get_or new j 0 ≡ get_or old j 0

pub record Emptied (n : ℕ) (ws : List ℕ) : Type 0 where
  pub long : length ws ≡ n
  pub words : (j : ℕ) → get_or ws j 0 ≡ 0
