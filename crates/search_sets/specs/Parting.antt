-- Two rows of an unequal literal: each can be what may differ from something that the other can have.
--     UnequalRows        settings in which some literal says so, and a set for each class has all that differs from it
--     ApartAsk           a set for each of n classes, and scratch for one
--     AddsApart          the set of one class is added to the scratch
--     Parted             those of all members of a set are in it
--     CutLeft            a row cut to the scratch
--     Differ, Parts      settings in which the number of one row is in the set of the other's; one row cut in them
--     PartAsk, KnownPart two rows; whose words count
-- Assumes nothing.
use Rattle.std.specs.Prelude.{Bool, true, List, ◌≡◌, ℕ, ◌*◌, ◌≤◌, ◌<◌, length, get_or}
use Rattle.meaning.specs.Rules.{unequal}
use Rattle.meaning.specs.Grounds.{literal_at}
use Rattle.meaning.specs.Values.{number_at, numbers}
use Rattle.meaning.proofs.Pruned.{Sought}
use Rattle.bits.specs.Sets.{bit_at, has}
use Rattle.search_sets.specs.Places.{known_at, most_words, PairIn}
use Rattle.search_sets.specs.Words.{Left, CutRow}
use Rattle.search_sets.specs.Keeps.{Setting, Steps}

-- `n` classes; the set of class x stands from x * width on
pub record UnequalRows (apart : List ℕ) (width n p q : ℕ) (s : Setting) : Type 0 where
  pub within : s.bound ≤ n
  pub literal : ℕ
  pub below : literal < length s.rule.literals
  pub says : literal_at s.rule.literals literal ≡ unequal p q
  pub over : (x y : ℕ) → s.differs x y ≡ true → (x < s.bound) × (y < s.bound) × (has apart (x * width) y ≡ true) × (has apart (y * width) x ≡ true)

-- the numbers of rows p and q are classes, and each is in the other's set
pub record Differ (apart : List ℕ) (width n p q : ℕ) (s : Setting) : Type 0 where
  pub within : s.bound ≤ n
  pub each : (a : List ℕ) → Sought s.differs s.rows s.rep s.offset s.rule a
      → (number_at (numbers s.rows s.rep s.offset s.rule.patterns a) p < s.bound)
      × (number_at (numbers s.rows s.rep s.offset s.rule.patterns a) q < s.bound)
      × (has apart (number_at (numbers s.rows s.rep s.offset s.rule.patterns a) p * width) (number_at (numbers s.rows s.rep s.offset s.rule.patterns a) q) ≡ true)

pub record Parts (apart old new : List ℕ) (count width n p q : ℕ) (r : Bool) : Type 0 where
  pub steps : Steps (Differ apart width n p q) count width old new r

pub record ApartAsk (apart scratch width n : ℕ) : Type 0 where
  pub narrow : width ≤ most_words
  pub few : n ≤ width * 64
  pub sets : n * width ≤ apart
  pub room : width ≤ scratch

pub record AddsApart (apart old new : List ℕ) (width k : ℕ) : Type 0 where
  pub long : length new ≡ length old
  pub kept : (x : ℕ) → x < width * 64 → has old 0 x ≡ true → has new 0 x ≡ true
  pub put : (x : ℕ) → x < width * 64 → has apart (k * width) x ≡ true → has new 0 x ≡ true

-- of the members below n of the set from `base` on
pub record Parted (sets apart old new : List ℕ) (base width n : ℕ) : Type 0 where
  pub long : length new ≡ length old
  pub put : (k : ℕ) → k < n → has sets base k ≡ true → (x : ℕ) → x < width * 64 → has apart (k * width) x ≡ true → has new 0 x ≡ true

-- a row cut to the scratch, and whether it has a class left
pub record CutLeft (old more new : List ℕ) (at b width q : ℕ) (r : Bool) : Type 0 where
  pub cut : CutRow old more new at b 0 width q
  pub left : Left new b width r

pub record PartAsk (size apart scratch count width n p q : ℕ) : Type 0 where
  pub pair : PairIn size count width p q
  pub ask : ApartAsk apart scratch width n

pub record KnownPart (sets : List ℕ) (apart scratch count width n p q : ℕ) : Type 0 where
  pub part : PartAsk (length sets) apart scratch count width n p q
  pub left : bit_at (get_or sets (known_at count width) 0) p ≡ true
  pub right : bit_at (get_or sets (known_at count width) 0) q ≡ true
