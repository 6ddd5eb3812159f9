-- One law for each way into a loop, each turn and each way out.
-- Assumes nothing.
use mathlib.Core.Bool.{Bool, true, false}
use mathlib.Core.List.{List}
use mathlib.Core.Path.{◌≡◌, refl, ap, sym, ◌∙◌, subst}
use mathlib.Core.Logic.{◌⊎◌, inl, inr}
use Prim.Native.Nat.{ℕ, ◌+◌, ◌-◌, ◌*◌, ◌/◌, ◌%◌, ◌^◌, ◌≤◌, ◌<◌}
use native.Mathlib.Omega.{arith}
use native.Mathlib.Decide.{dec_lt}
use Rattle.meaning.proofs.Logic.{false-true}
use borrow.Author.Rules.{rules}
use borrow.Author.Tests.{eqb-true, eqb-false}
use lib.Bits.{bit_and, bit_or}
use lib.Count.{count_trailing_zeros}
use lib.Dec.{eqb}
use lib.ListN.{length, get_or, set, length-set}
use lib.Seq.{get_or-set_same, get_or-set_other}
use Rattle.bits.specs.Sets.{bit_at, has, Lowest, Met, Places, NoneFrom, First, United}
use Rattle.bits.proofs.Words.{none_has, has-at, has_on, shift-has, high-none, remove-has, words-none, words-first}

pub met_start : (ws : List ℕ) (a b i : ℕ) → i ≡ 0 → Met ws ws a b i
met_start ws a b i e = record { long = refl; words = λ j h. absurd (omega arith); others = λ j h. refl }

pub met-turn : (old new : List ℕ) (a b n i w m : ℕ) → Places (length old) a b n → i < n → Met old new a b i → w ≡ bit_and (get_or new (a + i) 0) (get_or new (b + i) 0) → m ≡ i + 1
    → Met old (set new (a + i) w) a b m
met-turn old new a b n i w m p h k e q =
    record {
      long = length-set new (a + i) w ∙ k.long;
      words = λ j l. word j l (eqb j i) refl;
      others = λ j l. get_or-set_other new (a + i) j w 0 (λ z. outside j l z) ∙ k.others j (wider j l);
    }
  where
    inside : a + i < length new
    inside = omega (arith, k.long, p.left, h)

    other : (b + i < a) ⊎ (a + i ≤ b + i)
    other = go p.apart
      where
        go : (a + n ≤ b) ⊎ (b + n ≤ a) → (b + i < a) ⊎ (a + i ≤ b + i)
        go (inl z) = inr (omega arith)
        go (inr z) = inl (omega arith)

    word : (j : ℕ) → j < m → (c : Bool) → eqb j i ≡ c → get_or (set new (a + i) w) (a + j) 0 ≡ bit_and (get_or old (a + j) 0) (get_or old (b + j) 0)
    word j l true z =
        let t : j ≡ i = eqb-true j i z in
        rw t (get_or-set_same new (a + i) w 0 inside ∙ e ∙ ap (λ (x : ℕ). bit_and x (get_or new (b + i) 0)) (k.others (a + i) (inr (omega arith))) ∙ ap (bit_and (get_or old (a + i) 0)) (k.others (b + i) other))
    word j l false z = get_or-set_other new (a + i) (a + j) w 0 (λ t. eqb-false j i z (omega arith)) ∙ k.words j (omega (arith, eqb-false j i z))

    outside : (j : ℕ) → (j < a) ⊎ (a + m ≤ j) → j ≡ a + i → ⊥
    outside j (inl l) z = omega arith
    outside j (inr l) z = omega arith

    wider : (j : ℕ) → (j < a) ⊎ (a + m ≤ j) → (j < a) ⊎ (a + i ≤ j)
    wider j (inl l) = inl l
    wider j (inr l) = inr (omega arith)

pub met-end : (old new : List ℕ) (a b n i : ℕ) → Met old new a b i → i ≤ n → n ≤ i → Met old new a b n
met-end old new a b n i k h l = let e : i ≡ n = omega arith in subst (Met old new a b) e k

-- the words before i have no member
pub record None (ws : List ℕ) (base i : ℕ) : Type 0 where
  pub zero : (j : ℕ) → j < i → get_or ws (base + j) 0 ≡ 0

pub none-start : (ws : List ℕ) (base i : ℕ) → i ≡ 0 → None ws base i
none-start ws base i e = record { zero = λ j h. absurd (omega arith) }

pub none-turn : (ws : List ℕ) (base i x m : ℕ) → None ws base i → x ≡ get_or ws (base + i) 0 → x ≤ 0 → m ≡ i + 1 → None ws base m
none-turn ws base i x m k e z q = record { zero = λ j h. go j h (eqb j i) refl }
  where
    go : (j : ℕ) → j < m → (b : Bool) → eqb j i ≡ b → get_or ws (base + j) 0 ≡ 0
    go j h true t = let y : j ≡ i = eqb-true j i t in ap (λ (n : ℕ). get_or ws (base + n) 0) y ∙ (omega (arith, e))
    go j h false t = k.zero j (omega (arith, eqb-false j i t))

pub low-none : (ws : List ℕ) (base n i : ℕ) → None ws base i → n ≤ i → NoneFrom ws base n 0
low-none ws base n i k g = record { none = λ j _ h. words-none ws base i k.zero j (omega arith) }

pub low-some : (ws : List ℕ) (base n i x t r : ℕ) → None ws base i → i < n → x ≡ get_or ws (base + i) 0 → (t < 64) × Lowest (bit_at x) t × (t ≡ count_trailing_zeros 64 x) → r ≡ i * 64 + t
    → First ws base n 0 r
low-some ws base n i x t r k h e w q =
    let l : Lowest (has ws base) (i * 64 + t) = words-first ws base i t k.zero w.0 (rw e at w.1) in
    record { within = omega (arith, w.0); later = omega arith; here = rw q l.here; first = λ j _ c. l.first j (omega arith) }

-- ---- the lowest from a bound on

pub next-none : (ws : List ℕ) (base n from i : ℕ) → i ≡ from / 64 → n ≤ i → NoneFrom ws base n from
next-none ws base n from i e h = record { none = λ k l m. absurd (omega arith) }

-- bits of the word in which the bound lies
word_on : (ws : List ℕ) (base from j : ℕ) → from % 64 + j < 64 → has ws base (from + j) ≡ bit_at (get_or ws (base + from / 64) 0 / 2 ^ (from % 64)) j
word_on ws base from j h =
    let z : from + j ≡ from / 64 * 64 + (from % 64 + j) = omega arith in
    ap (has ws base) z ∙ has-at ws base (from / 64) (from % 64 + j) h ∙ sym (shift-has (get_or ws (base + from / 64) 0) (from % 64) j)

pub next_here : (ws : List ℕ) (base n from i word x t r : ℕ) → i ≡ from / 64 → i < n → word ≡ get_or ws (base + i) 0
    → (x ≡ word / 2 ^ (from % 64)) × (word < 2 ^ 64) → (t < 64) × Lowest (bit_at x) t × (t ≡ count_trailing_zeros 64 x) → r ≡ from + t
    → First ws base n from r
next_here ws base n from i word x t r ei h ew shifted w q = go (dec_lt (from % 64 + t) 64)
  where
    y : ℕ
    y = get_or ws (base + from / 64) 0 / 2 ^ (from % 64)

    at : word ≡ get_or ws (base + from / 64) 0
    at = rw (sym ei) ew

    l : Lowest (bit_at y) t
    l = subst (λ (v : ℕ). Lowest (bit_at v) t) (shifted.0 ∙ ap (λ (v : ℕ). v / 2 ^ (from % 64)) at) w.1

    go : Dec (from % 64 + t < 64) → First ws base n from r
    go (yes s) =
        record {
          within = omega arith;
          later = omega arith;
          here = rw q (word_on ws base from t s ∙ l.here);
          first = λ k a b.
              let z : k ≡ from + (k - from) = omega arith in
              ap (has ws base) z ∙ word_on ws base from (k - from) (omega arith) ∙ l.first (k - from) (omega arith);
        }
    go (no s) =
        false-true (sym (shift-has (get_or ws (base + from / 64) 0) (from % 64) t) ∙ l.here) (high-none (get_or ws (base + from / 64) 0) (from % 64 + t) (rw (sym at) shifted.1) (omega arith))

-- the word in which the bound lies has no member from it on
module _ (ws : List ℕ) (base n from i k word x : ℕ) (ei : i ≡ from / 64) (h : i < n) (ew : word ≡ get_or ws (base + i) 0)
    (shifted : (x ≡ word / 2 ^ (from % 64)) × (word < 2 ^ 64)) (z : x ≤ 0) (ek : k ≡ i + 1) where
  none-here : (m : ℕ) → from ≤ m → m < k * 64 → has ws base m ≡ false
  none-here m a l =
      let none : x ≡ 0 = omega arith in
      let w : m ≡ from + (m - from) = omega arith in
      ap (has ws base) w
      ∙ word_on ws base from (m - from) (omega arith)
      ∙ ap (λ (v : ℕ). bit_at v (m - from)) (ap (λ (v : ℕ). get_or ws (base + v) 0 / 2 ^ (from % 64)) (sym ei) ∙ ap (λ (v : ℕ). v / 2 ^ (from % 64)) (sym ew) ∙ sym shifted.0 ∙ none)
      ∙ none_has (m - from)

  -- a place behind it
  behind : (m : ℕ) → k * 64 ≤ m → has ws base m ≡ has ws (base + k) (m - k * 64)
  behind m l = let w : m ≡ k * 64 + (m - k * 64) = omega arith in ap (has ws base) w ∙ sym (has_on ws base k (m - k * 64))

  pub next-after : (s r : ℕ) → First ws (base + k) (n - k) 0 s → r ≡ k * 64 + s → First ws base n from r
  next-after s r low q =
      record {
        within = omega (arith, low.within);
        later = omega arith;
        here = rw q (sym (has_on ws base k s) ∙ low.here);
        first = λ m a b. go m a b (dec_lt m (k * 64));
      }
    where
      go : (m : ℕ) → from ≤ m → m < r → Dec (m < k * 64) → has ws base m ≡ false
      go m a b (yes l) = none-here m a l
      go m a b (no l) = behind m (omega arith) ∙ low.first (m - k * 64) (omega arith) (omega arith)

  pub next-after-none : NoneFrom ws (base + k) (n - k) 0 → NoneFrom ws base n from
  next-after-none low = record { none = λ m a b. go m a b (dec_lt m (k * 64)) }
    where
      go : (m : ℕ) → from ≤ m → m < n * 64 → Dec (m < k * 64) → has ws base m ≡ false
      go m a b (yes l) = none-here m a l
      go m a b (no l) = behind m (omega arith) ∙ low.none (m - k * 64) (omega arith) (omega arith)

-- ---- words added

pub united-start : (ws more : List ℕ) (a b i : ℕ) → i ≡ 0 → United ws more ws a b i
united-start ws more a b i e = record { long = refl; words = λ j h. absurd (omega arith); others = λ j h. refl }

pub united-turn : (old more new : List ℕ) (a b n i w m : ℕ) → (a + n ≤ length old) × (b + n ≤ length more) → i < n → United old more new a b i
    → w ≡ bit_or (get_or new (a + i) 0) (get_or more (b + i) 0) → m ≡ i + 1 → United old more (set new (a + i) w) a b m
united-turn old more new a b n i w m p h k e q =
    record {
      long = length-set new (a + i) w ∙ k.long;
      words = λ j l. word j l (eqb j i) refl;
      others = λ j l. get_or-set_other new (a + i) j w 0 (λ z. outside j l z) ∙ k.others j (wider j l);
    }
  where
    inside : a + i < length new
    inside = omega (arith, k.long, p.0, h)

    word : (j : ℕ) → j < m → (c : Bool) → eqb j i ≡ c → get_or (set new (a + i) w) (a + j) 0 ≡ bit_or (get_or old (a + j) 0) (get_or more (b + j) 0)
    word j l true z =
        let t : j ≡ i = eqb-true j i z in
        rw t (get_or-set_same new (a + i) w 0 inside ∙ e ∙ ap (λ (x : ℕ). bit_or x (get_or more (b + i) 0)) (k.others (a + i) (inr (omega arith))))
    word j l false z = get_or-set_other new (a + i) (a + j) w 0 (λ t. eqb-false j i z (omega arith)) ∙ k.words j (omega (arith, eqb-false j i z))

    outside : (j : ℕ) → (j < a) ⊎ (a + m ≤ j) → j ≡ a + i → ⊥
    outside j (inl l) z = omega arith
    outside j (inr l) z = omega arith

    wider : (j : ℕ) → (j < a) ⊎ (a + m ≤ j) → (j < a) ⊎ (a + i ≤ j)
    wider j (inl l) = inl l
    wider j (inr l) = inr (omega arith)

pub united-end : (old more new : List ℕ) (a b n i : ℕ) → United old more new a b i → i ≤ n → n ≤ i → United old more new a b n
united-end old more new a b n i k h l = let e : i ≡ n = omega arith in subst (United old more new a b) e k

pub ruleset mine = (rules, met_start, met-turn, met-end, none-start, none-turn, low-none, low-some, next-none, next_here, next-after, next-after-none, united-start, united-turn, united-end, remove-has)
