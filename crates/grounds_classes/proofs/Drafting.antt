-- Steps in a column, as the code writes them.
--     mine   what the functions of `draft` leave to show
-- Assumes nothing.
use mathlib.Core.Bool.{Bool, true, false}
use mathlib.Core.List.{List}
use mathlib.Core.Path.{◌≡◌, refl, sym, ◌∙◌}
use Prim.Native.Nat.{ℕ, ◌+◌, ◌*◌, ◌≤◌, ◌<◌}
use native.Mathlib.Omega.{arith}
use lib.Dec.{ltb}
use lib.ListN.{length, set, length-set, get_or-eq_default}
use borrow.Author.Rules.{rules}
use borrow.Author.Tests.{lt-ltb, le-ltb, ltb-true, eq-eqb, ne_eqb, not-true, not-false}
use Rattle.meaning.proofs.Logic.{and-true-left, and-true-right}
use Rattle.grounds_numbers.specs.Limits.{most_numbers}
use Rattle.grounds_laws.specs.Limits.{draft_size}
use Rattle.grounds_laws.specs.Draft.{count_in, Wrote, laid, room_in, pushed, turned, linked}

pub count_none : (cells : List ℕ) → length cells ≤ 0 → 0 ≡ count_in cells
count_none cells h = sym (get_or-eq_default cells 0 {n = 0} h)

-- ---- lengths after writes

long4 : (l : List ℕ) (a b c d p q r s : ℕ) → length (set (set (set (set l a p) b q) c r) d s) ≡ length l
long4 l a b c d p q r s =
    length-set (set (set (set l a p) b q) c r) d s ∙ length-set (set (set l a p) b q) c r ∙ length-set (set l a p) b q ∙ length-set l a p

pub long-three : (l : List ℕ) (a b c p q r : ℕ) → length (set (set (set l a p) b q) c r) ≡ length l
long-three l a b c p q r = length-set (set (set l a p) b q) c r ∙ length-set (set l a p) b q ∙ length-set l a p

pub long-four : (l : List ℕ) (a b c d p q r s : ℕ) → length (set (set (set (set l a p) b q) c r) d s) ≡ length l
long-four = long4

pub long-five : (l : List ℕ) (a b c d e p q r s t : ℕ) → length (set (set (set (set (set l a p) b q) c r) d s) e t) ≡ length l
long-five l a b c d e p q r s t = length-set (set (set (set (set l a p) b q) c r) d s) e t ∙ long4 l a b c d p q r s

pub long-six : (l : List ℕ) (a b c d e f p q r s t u : ℕ) → length (set (set (set (set (set (set l a p) b q) c r) d s) e t) f u) ≡ length l
long-six l a b c d e f p q r s t u = length-set (set (set (set (set (set l a p) b q) c r) d s) e t) f u ∙ long-five l a b c d e p q r s t

pub long-seven : (l : List ℕ) (a b c d e f g p q r s t u v : ℕ) → length (set (set (set (set (set (set (set l a p) b q) c r) d s) e t) f u) g v) ≡ length l
long-seven l a b c d e f g p q r s t u v =
    length-set (set (set (set (set (set (set l a p) b q) c r) d s) e t) f u) g v ∙ long-six l a b c d e f p q r s t u

pub long-eight : (l : List ℕ) (a b c d e f g h p q r s t u v w : ℕ) → length (set (set (set (set (set (set (set (set l a p) b q) c r) d s) e t) f u) g v) h w) ≡ length l
long-eight l a b c d e f g h p q r s t u v w =
    length-set (set (set (set (set (set (set (set l a p) b q) c r) d s) e t) f u) g v) h w ∙ long-seven l a b c d e f g p q r s t u v

-- ---- room

module _ (cells : List ℕ) {c n : ℕ} (ec : c ≡ count_in cells) (en : n ≡ c) where
  pub room_in_lem : n + 1 < most_numbers → ltb (n * draft_size + draft_size) (length cells) ≡ room_in cells
  unfolding room_in
  room_in_lem h = rw (sym ec, sym en, lt-ltb (n + 1) most_numbers h)

  pub room-none : most_numbers ≤ n + 1 → false ≡ room_in cells
  unfolding room_in
  room-none h = rw (sym ec, sym en, le-ltb (n + 1) most_numbers h)

module _ (cells : List ℕ) {free : Bool} (e : free ≡ room_in cells) where
  module _ (h : free ≡ true) where
    places : count_in cells * draft_size + draft_size < length cells
    unfolding room_in
    places = ltb-true (count_in cells * draft_size + draft_size) (length cells) (and-true-right (ltb (count_in cells + 1) most_numbers) _ (sym e ∙ h))

    few : count_in cells + 1 < most_numbers
    unfolding room_in
    few = ltb-true (count_in cells + 1) most_numbers (and-true-left _ (ltb (count_in cells * draft_size + draft_size) (length cells)) (sym e ∙ h))

    pub push-first : 0 < length cells
    push-first = omega (arith, places)

    -- place k of the new step, also after some writes
    pub push-place : (l : List ℕ) (k : ℕ) {n : ℕ} → n ≡ count_in cells → length l ≡ length cells → k ≤ draft_size → n * draft_size + k < length l
    push-place l k q f g = omega (arith, places)

    pub push-zero : (l : List ℕ) → length l ≡ length cells → 0 < length l
    push-zero l f = omega (arith, places)

    pub push-few : {n : ℕ} → n ≡ count_in cells → n + 1 < most_numbers
    push-few q = omega (arith, few)

    pub push-room : (kind x y a b c d : ℕ) {n : ℕ} → n ≡ count_in cells
        → Wrote (set (laid cells (n * draft_size) kind x y a b c d) 0 (n + 1)) (n + 1) (pushed cells kind x y a b c d)
    unfolding pushed
    push-room kind x y a b c d q = rw (q, sym e ∙ h, pushed) (record { column = refl; step = refl })

  pub push-full : (kind x y a b c d : ℕ) → free ≡ false → Wrote cells 0 (pushed cells kind x y a b c d)
  unfolding pushed
  push-full kind x y a b c d h = rw (sym e ∙ h, pushed) (record { column = refl; step = refl })

module _ (cells : List ℕ) (s x y : ℕ) where
  pub turned-one : x ≡ y → Wrote cells s (turned cells s x y)
  unfolding turned
  turned-one e = rw (eq-eqb x y e, turned) (record { column = refl; step = refl })

  pub turned_two : {after : List ℕ} {r : ℕ} → (x ≡ y → ⊥) → Wrote after r (pushed cells 3 y x s 0 0 0) → Wrote after r (turned cells s x y)
  unfolding turned
  turned_two d w = rw (ne_eqb x y d, turned) w

module _ (cells : List ℕ) (s t x m y : ℕ) where
  pub linked-left : x ≡ m → Wrote cells t (linked cells s t x m y)
  unfolding linked
  linked-left e = rw (eq-eqb x m e, linked) (record { column = refl; step = refl })

  pub linked-right : (x ≡ m → ⊥) → m ≡ y → Wrote cells s (linked cells s t x m y)
  unfolding linked
  linked-right d e = rw (ne_eqb x m d, linked, eq-eqb m y e) (record { column = refl; step = refl })

  pub linked-both : {after : List ℕ} {r : ℕ} → (x ≡ m → ⊥) → (m ≡ y → ⊥) → Wrote after r (pushed cells 4 x y s t 0 0) → Wrote after r (linked cells s t x m y)
  unfolding linked
  linked-both d e w = rw (ne_eqb x m d, linked, ne_eqb m y e) w

pub ruleset mine = (rules, not-true, not-false, count_none, room_in_lem, room-none, long-three, long-four, long-five, long-six, long-seven, long-eight, push-first, push-place, push-zero, push-few, push-room, push-full, turned-one, turned_two, linked-left, linked-right, linked-both)
