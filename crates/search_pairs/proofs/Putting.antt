-- One number put into one set.
--     put-so, put-seat, put-place      what `put` asks and answers
--     put-here, put-grown, put-set     the number is in the set, what was in a set still is, and what is in each set
--     more-none, more-then, put-more   numbers put into sets that say nothing of what is kept apart
--     pair-seat .. live-put            one pair of classes put into its sets
--     pair-exact, ways                 a pair put into sets, and what it says, either way round
-- Assumes nothing.
use mathlib.Core.Bool.{Bool, true, false, ◌&&◌, ◌||◌}
use mathlib.Core.List.{List, [], ◌∷◌}
use mathlib.Core.Path.{◌≡◌, refl, ap, ap₂, sym, ◌∙◌}
use mathlib.Core.Logic.{◌⊎◌, inl, inr, ⊎_elim}
use Prim.Native.Nat.{ℕ, ◌+◌, ◌*◌, ◌/◌, ◌≤◌, ◌<◌}
use native.Mathlib.Nat.{mul-le-mul_right}
use native.Mathlib.Omega.{arith}
use native.Mathlib.Decide.{dec_lt}
use borrow.Author.Rules.{rules}
use borrow.Author.Tests.{eqb-true, eq-eqb, ne_eqb}
use lib.Dec.{eqb}
use lib.ListN.{length}
use Rattle.meaning.specs.ByTable.{apart_by}
use Rattle.meaning.proofs.Logic.{false-true, or_cases, or_left, or_right, and-true-left, and-true-right, and_both}
use Rattle.bits.specs.Sets.{has}
use Rattle.bits.proofs.Words.{has_on}
use Rattle.search_pairs.specs.Ready.{words_for, most_words, apart_at, live_at}
use Rattle.search_pairs.specs.Steps.{sets_size}
use Rattle.search_pairs.specs.Prepare.{Seat, Put, More, Pair, OverPut, BesidePut, ApartPut, LivePut}
use Rattle.search_pairs.proofs.Joining.{set_room}

-- ---- the words of a run as one set

from_start : (ws : List ℕ) (b j : ℕ) → has ws b j ≡ has ws 0 (b * 64 + j)
from_start ws b j = let z : b ≡ 0 + b = omega arith in ap (λ (v : ℕ). has ws v j) z ∙ has_on ws 0 b j

pub put-so : (n s k base : ℕ) (old new : List ℕ) → (base ≡ s * words_for n) × (base ≤ 65536)
    → (length new ≡ length old) × ((j : ℕ) → has new 0 j ≡ (has old 0 j || eqb j (base * 64 + k))) → Put n s k old new
put-so n s k base old new e f =
    record {
      long = f.0;
      exact = λ b j.
          from_start new b j
          ∙ f.1 (b * 64 + j)
          ∙ ap₂ (λ (u v : Bool). u || v) (sym (from_start old b j)) (ap (λ (v : ℕ). eqb (b * 64 + j) (v * 64 + k)) e.0);
    }

pub put-few : (n len s k : ℕ) → Seat n len s k → words_for n ≤ most_words
put-few n len s k w = w.few

pub put-third : (n len s k : ℕ) → Seat n len s k → s ≤ n + n + n
put-third n len s k w = w.set

pub put-mul : (n len s k base : ℕ) → Seat n len s k → (base ≡ s * words_for n) × (base ≤ 65536) → base * 64 < 18446744073709551616
put-mul n len s k base w e = omega (arith, e.1)

pub put-add : (n len s k base : ℕ) → Seat n len s k → (base ≡ s * words_for n) × (base ≤ 65536) → base * 64 + k < 18446744073709551616
put-add n len s k base w e = omega (arith, e.1, w.few, w.inside)

pub put-place : (n len s k base : ℕ) → Seat n len s k → (base ≡ s * words_for n) × (base ≤ 65536) → 0 + (base * 64 + k) / 64 < len
put-place n len s k base w e = omega (arith, e.0, w.room, w.inside)

-- ---- what is in a set

same_test : (p q : ℕ) (b : Bool) → (p ≡ q → b ≡ true) → (b ≡ true → p ≡ q) → eqb p q ≡ b
same_test p q true f g = eq-eqb p q (g refl)
same_test p q false f g = ne_eqb p q (λ e. false-true (f e) refl)

-- two places in sets of so many words are one only where the sets are one
one_set : (w t s j k : ℕ) → j < w * 64 → k < w * 64 → t * w * 64 + j ≡ s * w * 64 + k → t ≡ s
one_set w t s j k hj hk e = go (dec_lt t s) (dec_lt s t)
  where
    go : Dec (t < s) → Dec (s < t) → t ≡ s
    go (yes l) m = absurd (omega (arith, mul-le-mul_right {m = t + 1} {n = s} w (omega arith)))
    go (no l) (yes m) = absurd (omega (arith, mul-le-mul_right {m = s + 1} {n = t} w (omega arith)))
    go (no l) (no m) = omega arith

module _ {n s k : ℕ} {old new : List ℕ} (p : Put n s k old new) where
  pub put-grown : (base j : ℕ) → has old base j ≡ true → has new base j ≡ true
  put-grown base j e = p.exact base j ∙ or_left _ _ e

  pub put-here : has new (s * words_for n) k ≡ true
  put-here =
      p.exact (s * words_for n) k
      ∙ or_right (has old (s * words_for n) k) (eqb (s * words_for n * 64 + k) (s * words_for n * 64 + k)) (eq-eqb (s * words_for n * 64 + k) (s * words_for n * 64 + k) refl)

  pub put-set : k < n → (t j : ℕ) → j < n → has new (t * words_for n) j ≡ (has old (t * words_for n) j || (eqb t s && eqb j k))
  put-set hk t j hj =
      p.exact (t * words_for n) j
      ∙ ap (λ (b : Bool). has old (t * words_for n) j || b)
      (same_test _ _ (eqb t s && eqb j k)
      (λ e. let w : t ≡ s = one_set (words_for n) t s j k (omega arith) (omega arith) e in
      let z : t * words_for n ≡ s * words_for n = ap (λ (v : ℕ). v * words_for n) w in
      and_both _ _ (eq-eqb t s w) (eq-eqb j k (omega arith)))
      (λ e. ap₂ (λ (u v : ℕ). u * words_for n * 64 + v) (eqb-true t s (and-true-left (eqb t s) (eqb j k) e)) (eqb-true j k (and-true-right (eqb t s) (eqb j k) e))))

  pub put_other : k < n → (t j : ℕ) → j < n → (t ≡ s → ⊥) → has new (t * words_for n) j ≡ has old (t * words_for n) j
  put_other hk t j hj d = put-set hk t j hj ∙ rw (ne_eqb t s d) (or-false (has old (t * words_for n) j))
    where
      or-false : (a : Bool) → (a || false) ≡ a
      or-false true = refl
      or-false false = refl

  pub put-more : k < n → (s < n + n) ⊎ (n + n + n ≤ s) → More n old new
  put-more hk d =
      record {
        long = p.long;
        grown = put-grown;
        apart = λ a b ha hb. put_other hk (n + n + a) b hb (λ e. ⊎_elim (λ l. omega arith) (λ l. omega arith) d);
      }

-- ---- numbers put into sets

pub more-none : (n : ℕ) (sets : List ℕ) → More n sets sets
more-none n sets = record { long = refl; grown = λ base j e. e; apart = λ a b ha hb. refl }

pub more-then : {n : ℕ} {a b c : List ℕ} → More n a b → More n b c → More n a c
more-then p q =
    record {
      long = q.long ∙ p.long;
      grown = λ base j e. q.grown base j (p.grown base j e);
      apart = λ x y hx hy. q.apart x y hx hy ∙ p.apart x y hx hy;
    }

-- ---- pairs of classes

module _ (n : ℕ) (sets : List ℕ) (x y : ℕ) (w : Pair n (length sets) x y) where
  pub pair-seat : (s : ℕ) → s ≤ n + n + n → Seat n (length sets) s y
  pair-seat s h = record { few = w.few; set = h; room = set_room n s (length sets) h (omega (arith, w.long)); inside = w.right }

  pub over-seat : Seat n (length sets) x y
  over-seat = pair-seat x (omega (arith, w.left))

  pub beside-seat : Seat n (length sets) (n + x) y
  beside-seat = pair-seat (n + x) (omega (arith, w.left))

  pub beside-seat-2 : (new : List ℕ) (s k : ℕ) → Put n s k sets new → Seat n (length new) (n + y) x
  beside-seat-2 new s k p =
      record { few = w.few; set = omega (arith, w.right); room = set_room n (n + y) (length new) (omega (arith, w.right)) (omega (arith, w.long, p.long)); inside = w.left }

  pub apart-seat : Seat n (length sets) (n + n + x) y
  apart-seat = pair-seat (n + n + x) (omega (arith, w.left))

  pub apart-seat-2 : (new : List ℕ) (s k : ℕ) → Put n s k sets new → Seat n (length new) (n + n + y) x
  apart-seat-2 new s k p =
      record { few = w.few; set = omega (arith, w.right); room = set_room n (n + n + y) (length new) (omega (arith, w.right)) (omega (arith, w.long, p.long)); inside = w.left }

  module _ (b c : List ℕ) (s k t j : ℕ) (p : Put n s k sets b) (q : Put n t j b c) where
    pub apart-seat-3 : Seat n (length c) (n + n + n) x
    apart-seat-3 =
        record { few = w.few; set = omega arith; room = set_room n (n + n + n) (length c) (omega arith) (omega (arith, w.long, p.long, q.long)); inside = w.left }

    pub apart-seat-4 : (d : List ℕ) (u i : ℕ) → Put n u i c d → Seat n (length d) (n + n + n) y
    apart-seat-4 d u i r =
        record { few = w.few; set = omega arith; room = set_room n (n + n + n) (length d) (omega arith) (omega (arith, w.long, p.long, q.long, r.long)); inside = w.right }

  pub over-put : (new : List ℕ) → Put n x y sets new → OverPut n x y sets new
  over-put new p = record { more = put-more p w.right (inl (omega (arith, w.left))); here = put-here p }

  pub beside-put : (b c : List ℕ) → Put n (n + x) y sets b → Put n (n + y) x b c → BesidePut n x y sets c
  beside-put b c p q =
      record {
        more = more-then (put-more p w.right (inl (omega (arith, w.left)))) (put-more q w.left (inl (omega (arith, w.right))));
        there = put-grown q _ _ (put-here p);
        back = put-here q;
      }

-- the sets of the classes a and x, from a number on
shifted : (base a x : ℕ) → eqb (base + a) (base + x) ≡ eqb a x
shifted base a x =
    same_test _ _ (eqb a x) (λ (e : base + a ≡ base + x). eq-eqb a x (omega arith)) (λ e. let z : a ≡ x = eqb-true a x e in omega arith)

sum : (a b d e : Bool) → ((a || b) || (d && e)) ≡ (a || ((b || (e && d)) || false))
sum true b d e = refl
sum false true d e = refl
sum false false true true = refl
sum false false true false = refl
sum false false false true = refl
sum false false false false = refl

-- a pair put into sets from a number on, both ways round
pub pair-exact : (n base x y : ℕ) (a b c : List ℕ) → x < n → y < n → Put n (base + x) y a b → Put n (base + y) x b c → (i j : ℕ) → j < n
    → has c ((base + i) * words_for n) j ≡ (has a ((base + i) * words_for n) j || apart_by (λ v. v) ((x, y) ∷ []) i j)
unfolding apart_by
pair-exact n base x y a b c hx hy p q i j hj =
    put-set q hx (base + i) j hj
    ∙ ap₂ (λ (u v : Bool). u || v)
    (put-set p hy (base + i) j hj ∙ ap (λ (v : Bool). has a ((base + i) * words_for n) j || (v && eqb j y)) (shifted base i x))
    (ap (λ (v : Bool). v && eqb j x) (shifted base i y))
    ∙ sum (has a ((base + i) * words_for n) j) (eqb i x && eqb j y) (eqb i y) (eqb j x)

-- the two ways round
pub ways : (x y i j : ℕ) → apart_by (λ v. v) ((x, y) ∷ []) i j ≡ true → ((i ≡ x) × (j ≡ y)) ⊎ ((j ≡ x) × (i ≡ y))
unfolding apart_by
ways x y i j h = ⊎_elim (λ u. ⊎_elim (λ v. inl (parts i x j y v)) (λ v. inr (parts j x i y v)) (or_cases _ _ u)) (λ u. false-true u refl) (or_cases _ _ h)
  where
    parts : (f g k l : ℕ) → (eqb f g && eqb k l) ≡ true → (f ≡ g) × (k ≡ l)
    parts f g k l v = (eqb-true f g (and-true-left (eqb f g) (eqb k l) v), eqb-true k l (and-true-right (eqb f g) (eqb k l) v))

module _ (n x y : ℕ) (sets b c d e : List ℕ) (w : Pair n (length sets) x y)
    (p : Put n (n + n + x) y sets b) (q : Put n (n + n + y) x b c) (r : Put n (n + n + n) x c d) (t : Put n (n + n + n) y d e) where
  apart-exact : (i j : ℕ) → i < n → j < n → apart_at n e i j ≡ (apart_at n sets i j || apart_by (λ v. v) ((x, y) ∷ []) i j)
  apart-exact i j hi hj =
      put_other t w.right (n + n + i) j hj (λ z. omega arith)
      ∙ put_other r w.left (n + n + i) j hj (λ z. omega arith)
      ∙ pair-exact n (n + n) x y sets b c w.left w.right p q i j hj

  kept : (base j : ℕ) → has sets base j ≡ true → has e base j ≡ true
  kept base j h = put-grown t _ _ (put-grown r _ _ (put-grown q _ _ (put-grown p _ _ h)))

  live-x : (i : ℕ) → i ≡ x → live_at n e i ≡ true
  live-x i z = rw z (put-grown t _ _ (put-here r))

  live-y : (i : ℕ) → i ≡ y → live_at n e i ≡ true
  live-y i z = rw z (put-here t)

  pub apart-put : ApartPut n x y sets e
  apart-put =
      record {
        long = t.long ∙ r.long ∙ q.long ∙ p.long;
        sided = λ s.
            record {
              left = λ i j hi hj h. ⊎_elim (λ u. kept _ _ (s.left i j hi hj u)) (λ u. ⊎_elim (λ v. live-x i v.0) (λ v. live-y i v.1) (ways x y i j u)) (or_cases _ _ (sym (apart-exact i j hi hj) ∙ h));
              right = λ i j hi hj h. ⊎_elim (λ u. kept _ _ (s.right i j hi hj u)) (λ u. ⊎_elim (λ v. live-y j v.1) (λ v. live-x j v.0) (ways x y i j u)) (or_cases _ _ (sym (apart-exact i j hi hj) ∙ h));
            };
        apart = apart-exact;
      }

-- ---- one class made live

module _ (n x : ℕ) (sets : List ℕ) (w : Pair n (length sets) x x) (b : Bool) (eb : b ≡ live_at n sets x) where
  pub live-had : b ≡ true → LivePut n x sets sets false
  live-had f = record { more = more-none n sets; here = sym eb ∙ f; same = λ _. refl; fresh = λ z. false-true z refl }

  pub live-put : (new : List ℕ) → b ≡ false → Put n (n + n + n) x sets new → LivePut n x sets new true
  live-put new f p =
      record {
        more = put-more p w.right (inr (omega arith));
        here = put-here p;
        same = λ z. false-true refl z;
        fresh = λ _. record { class = x; inside = w.right; before = sym eb ∙ f; after = put-here p };
      }

pub live-seat : (n x : ℕ) (sets : List ℕ) → Pair n (length sets) x x → Seat n (length sets) (n + n + n) x
live-seat n x sets w = pair-seat n sets x x w (n + n + n) (omega arith)

pub pair-few : (n len x y : ℕ) → Pair n len x y → words_for n ≤ most_words
pair-few n len x y w = w.few

pub pair-long : (n len x y : ℕ) → Pair n len x y → sets_size n ≤ len
pair-long n len x y w = omega (arith, w.long)

pub ruleset mine = (
  rules,
  put-so,
  put-few,
  put-third,
  put-mul,
  put-add,
  put-place,
  over-seat,
  beside-seat,
  beside-seat-2,
  apart-seat,
  apart-seat-2,
  apart-seat-3,
  apart-seat-4,
  over-put,
  beside-put,
  apart-put,
  live-had,
  live-put,
  live-seat,
  pair-few,
  pair-long,
)
