-- What the steps are made of: words written, and flags.
--     Copied       n words from one place at another
--     Flagged      a word with one bit as told
--     Told         row p's words count, and whether it may lie outside is as told
--     Left         whether a set has a member
--     Single       whether a set has one member at most
--     Narrowable, Narrowed    a row met with another, and told; the words of both stand before the flags
--     Pairable, Paired        each of two rows met with the other
--     Changed                 one set written
--     Cleared, Added, Grown   a set without a member; a member put in; any number of them
--     MetWith, Cuttable, CutRow    a set, or a row, cut to a set of another run
-- Assumes nothing.
use Rattle.std.specs.Prelude.{Bool, true, false, List, ◌≡◌, ◌⊎◌, ℕ, ◌+◌, ◌*◌, ◌/◌, ◌%◌, ◌≤◌, ◌<◌, eqb, length, get_or}
use Rattle.std.specs.Int.Bits.{bit_and}
use Rattle.bits.specs.Sets.{bit_at, has, Places}
use Rattle.runs.specs.Limits.{most_variables}
use Rattle.search_sets.specs.Places.{known_at, outside_at}

-- the words from b on stand from a on too
pub record Copied (old new : List ℕ) (a b n : ℕ) : Type 0 where
  pub long : length new ≡ length old
  pub words : (j : ℕ) → j < n → get_or new (a + j) 0 ≡ get_or old (b + j) 0
  pub others : (j : ℕ) → (j < a) ⊎ (a + n ≤ j) → get_or new j 0 ≡ get_or old j 0

pub record Flagged (x p : ℕ) (on : Bool) (r : ℕ) : Type 0 where
  pub here : bit_at r p ≡ on
  pub others : (q : ℕ) → eqb q p ≡ false → bit_at r q ≡ bit_at x q

-- `at` is the word of the rows that are known; the flags of those outside stand next
pub record Told (old new : List ℕ) (at p : ℕ) (out : Bool) : Type 0 where
  pub long : length new ≡ length old
  pub known : Flagged (get_or old at 0) p true (get_or new at 0)
  pub outside : Flagged (get_or old (at + 1) 0) p out (get_or new (at + 1) 0)
  pub others : (j : ℕ) → j < at → get_or new j 0 ≡ get_or old j 0

-- no member where the answer is no
pub record Left (sets : List ℕ) (base n : ℕ) (some : Bool) : Type 0 where
  pub none : some ≡ false → (x : ℕ) → x < n * 64 → has sets base x ≡ false

pub record Single (sets : List ℕ) (base n : ℕ) (r : Bool) : Type 0 where
  pub one : r ≡ true → (x y : ℕ) → x < n * 64 → y < n * 64 → has sets base x ≡ true → has sets base y ≡ true → x ≡ y

pub record Narrowable (size at a b n p : ℕ) : Type 0 where
  pub places : Places size a b n
  pub flags : at + 1 < size
  pub low : a + n ≤ at
  pub bit : p < 64

pub record Narrowed (old new : List ℕ) (at a b n p : ℕ) (out : Bool) : Type 0 where
  pub long : length new ≡ length old
  pub words : (j : ℕ) → j < n → get_or new (a + j) 0 ≡ bit_and (get_or old (a + j) 0) (get_or old (b + j) 0)
  pub others : (j : ℕ) → j < at → (j < a) ⊎ (a + n ≤ j) → get_or new j 0 ≡ get_or old j 0
  pub known : Flagged (get_or old at 0) p true (get_or new at 0)
  pub outside : Flagged (get_or old (at + 1) 0) p out (get_or new (at + 1) 0)

pub record Pairable (size at a b n p q : ℕ) : Type 0 where
  pub one : Narrowable size at a b n p
  pub two : Narrowable size at b a n q

pub record Paired (old new : List ℕ) (at a b n p q : ℕ) (out : Bool) : Type 0 where
  pub long : length new ≡ length old
  pub between : List ℕ
  pub one : Narrowed old between at a b n p out
  pub two : Narrowed between new at b a n q out

-- the sets of the rows come first, then those of the variables; only set p is other than it was, and bit p of the two words of flags
pub record Changed (count width : ℕ) (old new : List ℕ) (p : ℕ) : Type 0 where
  pub long : length new ≡ length old
  pub words : (q : ℕ) → q < count + most_variables → eqb q p ≡ false → (j : ℕ) → j < width → get_or new (q * width + j) 0 ≡ get_or old (q * width + j) 0
  pub known : (q : ℕ) → eqb q p ≡ false → bit_at (get_or new (known_at count width) 0) q ≡ bit_at (get_or old (known_at count width) 0) q
  pub outside : (q : ℕ) → eqb q p ≡ false → bit_at (get_or new (outside_at count width) 0) q ≡ bit_at (get_or old (outside_at count width) 0) q

pub record Cleared (old new : List ℕ) (a n : ℕ) : Type 0 where
  pub long : length new ≡ length old
  pub words : (j : ℕ) → j < n → get_or new (a + j) 0 ≡ 0
  pub others : (j : ℕ) → (j < a) ⊎ (a + n ≤ j) → get_or new j 0 ≡ get_or old j 0

pub record Added (old new : List ℕ) (a k : ℕ) : Type 0 where
  pub long : length new ≡ length old
  pub word : Flagged (get_or old (a + k / 64) 0) (k % 64) true (get_or new (a + k / 64) 0)
  pub others : (j : ℕ) → (j ≡ a + k / 64 → ⊥) → get_or new j 0 ≡ get_or old j 0

-- n words from a on cut to those of another run from b on
pub record MetWith (old more new : List ℕ) (a b n : ℕ) : Type 0 where
  pub long : length new ≡ length old
  pub words : (j : ℕ) → j < n → get_or new (a + j) 0 ≡ bit_and (get_or old (a + j) 0) (get_or more (b + j) 0)
  pub others : (j : ℕ) → (j < a) ⊎ (a + n ≤ j) → get_or new j 0 ≡ get_or old j 0

pub record Cuttable (size more at a b n p : ℕ) : Type 0 where
  pub low : a + n ≤ at
  pub right : b + n ≤ more
  pub flags : at + 1 < size
  pub bit : p < 64

-- a row cut so, which does not lie outside
pub record CutRow (old more new : List ℕ) (at a b n p : ℕ) : Type 0 where
  pub long : length new ≡ length old
  pub words : (j : ℕ) → j < n → get_or new (a + j) 0 ≡ bit_and (get_or old (a + j) 0) (get_or more (b + j) 0)
  pub others : (j : ℕ) → j < at → (j < a) ⊎ (a + n ≤ j) → get_or new j 0 ≡ get_or old j 0
  pub known : Flagged (get_or old at 0) p true (get_or new at 0)
  pub outside : Flagged (get_or old (at + 1) 0) p false (get_or new (at + 1) 0)

-- bits are added and none is taken
pub record Grown (old new : List ℕ) : Type 0 where
  pub long : length new ≡ length old
  pub bits : (j q : ℕ) → bit_at (get_or old j 0) q ≡ true → bit_at (get_or new j 0) q ≡ true
