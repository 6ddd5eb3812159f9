-- One law for each way into a loop that writes words, each turn and each way out; flags.
--     set-small                              a place fits its type
--     copied-within                          words copied
--     flag-on, flag_off, told-both           one bit as told; both flags of a row
--     both_first, both-second, left-low      flags and sets read
--     added                                  a member put in
--     narrowed, narrowable-again, paired     a row met with another; each of two
--     with-start .. with-end, cut-room, row_cut    a set, and a row, cut to a set of another run
-- Assumes nothing.
use mathlib.Core.Bool.{Bool, true, false, not, ◌&&◌, ◌||◌}
use mathlib.Core.List.{List}
use mathlib.Core.Path.{◌≡◌, refl, ap, sym, ◌∙◌, subst}
use mathlib.Core.Logic.{◌⊎◌, inl, inr}
use Prim.Native.Nat.{ℕ, ◌+◌, ◌-◌, ◌*◌, ◌/◌, ◌^◌, ◌%◌, ◌≤◌, ◌<◌}
use native.Mathlib.Nat.{mul-le-mul}
use native.Mathlib.Omega.{arith}
use borrow.Author.Rules.{rules}
use borrow.Author.Tests.{eqb-true, eqb-false, eq-eqb}
use lib.Bits.{bit_and, bit_or, bit_xor}
use lib.Dec.{eqb}
use lib.ListN.{length, get_or, set, length-set}
use lib.Seq.{get_or-set_same, get_or-set_other}
use Rattle.std.specs.Prelude.{Option, None, Some}
use Rattle.std.specs.List.{CopiedTo, SameBelow, SameFrom}
use Rattle.meaning.proofs.Logic.{false-true}
use Rattle.std.specs.Option.{is_some}
use Rattle.bits.specs.Sets.{bit_at, Low, Met}
use Rattle.bits.proofs.Words.{or-has, without-has, only-has}
use Rattle.search_sets.specs.Places.{most_words}
use Rattle.search_sets.specs.Words.{Copied, Flagged, Told, Left, Narrowable, Narrowed, Pairable, Paired, Added, MetWith, Cuttable, CutRow}

pub set-small : (width q : ℕ) → width ≤ most_words → q < 69 → q * width < 2 ^ 64
set-small width q h l = let l' : q ≤ 69 = omega arith in let m : q * width ≤ 69 * 16 = mul-le-mul l' h in omega (arith, m)

pub copied-within : (old new : List ℕ) (a b n m : ℕ) → m ≡ n → length new ≡ length old → CopiedTo old new b a m → SameBelow old new a → SameFrom old new (a + m) → Copied old new a b n
copied-within old new a b n m e l c below from =
    record {
      long = l;
      words = λ j h. c (a + j) 0 (omega arith) (omega arith) ∙ ap (λ (k : ℕ). get_or old (b + k) 0) (back j);
      others = λ j h. other j h;
    }
  where
    back : (j : ℕ) → a + j - a ≡ j
    back j = omega arith

    other : (j : ℕ) → (j < a) ⊎ (a + n ≤ j) → get_or new j 0 ≡ get_or old j 0
    other j (inl h) = below j 0 h
    other j (inr h) = from j 0 (omega arith)

-- ---- flags

or-other : (b : Bool) → (b || false) ≡ b
or-other true = refl
or-other false = refl

or_same : (b : Bool) → (b || true) ≡ true
or_same true = refl
or_same false = refl

and-other : (b : Bool) → (b && not false) ≡ b
and-other true = refl
and-other false = refl

and_same : (b : Bool) → (b && not true) ≡ false
and_same true = refl
and_same false = refl

pub flag-on : (x p w : ℕ) (on : Bool) → p < 64 → on ≡ true → w ≡ bit_or x ((1 * 2 ^ p) % 2 ^ 64) → Flagged x p on w
flag-on x p w on h o e =
    record {
      here = ap (λ (y : ℕ). bit_at y p) e ∙ or-has x one p ∙ ap (λ (b : Bool). bit_at x p || b) (only-has p p h ∙ eq-eqb p p refl) ∙ or_same (bit_at x p) ∙ sym o;
      others = λ q z. ap (λ (y : ℕ). bit_at y q) e ∙ or-has x one q ∙ ap (λ (b : Bool). bit_at x q || b) (only-has p q h ∙ z) ∙ or-other (bit_at x q);
    }
  where
    one : ℕ
    one = (1 * 2 ^ p) % 2 ^ 64

pub flag_off : (x p r : ℕ) (on : Bool) → p < 64 → on ≡ false → r ≡ bit_xor (bit_or x ((1 * 2 ^ p) % 2 ^ 64)) ((1 * 2 ^ p) % 2 ^ 64) → Flagged x p on r
flag_off x p r on h o e =
    record {
      here = bits p ∙ ap (λ (b : Bool). bit_at x p && not b) (only-has p p h ∙ eq-eqb p p refl) ∙ and_same (bit_at x p) ∙ sym o;
      others = λ q z. bits q ∙ ap (λ (b : Bool). bit_at x q && not b) (only-has p q h ∙ z) ∙ and-other (bit_at x q);
    }
  where
    one : ℕ
    one = (1 * 2 ^ p) % 2 ^ 64

    bits : (q : ℕ) → bit_at r q ≡ (bit_at x q && not (bit_at one q))
    bits q = ap (λ (y : ℕ). bit_at y q) e ∙ without-has x one q

pub told-both : (old : List ℕ) (at p v w : ℕ) (out : Bool) → at + 1 < length old → Flagged (get_or old at 0) p true v → Flagged (get_or (set old at v) (at + 1) 0) p out w
    → Told old (set (set old at v) (at + 1) w) at p out
told-both old at p v w out h k o =
    record {
      long = length-set (set old at v) (at + 1) w ∙ length-set old at v;
      known = subst (Flagged (get_or old at 0) p true) (sym (get_or-set_other (set old at v) (at + 1) at w 0 (λ z. omega arith) ∙ get_or-set_same old at v 0 (omega arith))) k;
      outside = subst (λ (x : ℕ). Flagged x p out (get_or (set (set old at v) (at + 1) w) (at + 1) 0)) (get_or-set_other old at (at + 1) v 0 (λ z. omega arith))
          (subst (Flagged (get_or (set old at v) (at + 1) 0) p out) (sym (get_or-set_same (set old at v) (at + 1) w 0 (omega (arith, length-set old at v)))) o);
      others = λ j l. get_or-set_other (set old at v) (at + 1) j w 0 (λ z. omega arith) ∙ get_or-set_other old at j v 0 (λ z. omega arith);
    }

-- ---- flags and sets read

pub both_first : (m x y : Bool) → m ≡ false → m ≡ x → false ≡ (x && y)
both_first m x y e f = rw (sym f ∙ e) refl

pub both-second : (m x y r : Bool) → m ≡ true → m ≡ x → r ≡ y → r ≡ (x && y)
both-second m x y r e f g = g ∙ sym (rw (sym f ∙ e) refl)

pub left-low : (ws : List ℕ) (base n : ℕ) (o : Option ℕ) (s : Bool) → Low ws base n o → s ≡ is_some o → Left ws base n s
left-low ws base n None s l e = record { none = λ _ x h. l.none x (omega arith) h }
left-low ws base n (Some k) s l e = record { none = λ z. false-true e z }

-- ---- a member put in

pub added : (old : List ℕ) (a k w : ℕ) → a + k / 64 < length old → Flagged (get_or old (a + k / 64) 0) (k % 64) true w → Added old (set old (a + k / 64) w) a k
added old a k w h f =
    record {
      long = length-set old (a + k / 64) w;
      word = subst (Flagged (get_or old (a + k / 64) 0) (k % 64) true) (sym (get_or-set_same old (a + k / 64) w 0 h)) f;
      others = λ j n. get_or-set_other old (a + k / 64) j w 0 n;
    }

-- ---- a row met with another, and told

pub narrowed : (old met new : List ℕ) (at a b n p : ℕ) (out : Bool) → Narrowable (length old) at a b n p → Met old met a b n → Told met new at p out → Narrowed old new at a b n p out
narrowed old met new at a b n p out h m t =
    record {
      long = t.long ∙ m.long;
      words = λ j l. t.others (a + j) (omega (arith, h.low)) ∙ m.words j l;
      others = λ j l s. t.others j l ∙ m.others j s;
      known = subst (λ (x : ℕ). Flagged x p true (get_or new at 0)) (m.others at (inr h.low)) t.known;
      outside = subst (λ (x : ℕ). Flagged x p out (get_or new (at + 1) 0)) (m.others (at + 1) (inr (omega (arith, h.low)))) t.outside;
    }

pub narrowable-again : (old mid : List ℕ) (size at a b n p q : ℕ) (out : Bool) → Pairable (length old) at a b n p q → Narrowed old mid at a b n p out → size ≡ length mid
    → Narrowable size at b a n q
narrowable-again old mid size at a b n p q out h m e = subst (λ (l : ℕ). Narrowable l at b a n q) (sym (e ∙ m.long)) h.two

pub paired : (old mid new : List ℕ) (at a b n p q : ℕ) (out : Bool) → Narrowed old mid at a b n p out → Narrowed mid new at b a n q out → Paired old new at a b n p q out
paired old mid new at a b n p q out m u = record { long = u.long ∙ m.long; between = mid; one = m; two = u }

-- ---- a set cut to a set of another run

pub with-start : (ws more : List ℕ) (a b i : ℕ) → i ≡ 0 → MetWith ws more ws a b i
with-start ws more a b i e = record { long = refl; words = λ j h. absurd (omega arith); others = λ j h. refl }

pub with-turn : (old more new : List ℕ) (a b n i w m : ℕ) → a + n ≤ length old → i < n → MetWith old more new a b i → w ≡ bit_and (get_or new (a + i) 0) (get_or more (b + i) 0) → m ≡ i + 1
    → MetWith old more (set new (a + i) w) a b m
with-turn old more new a b n i w m p h k e q =
    record {
      long = length-set new (a + i) w ∙ k.long;
      words = λ j l. word j l (eqb j i) refl;
      others = λ j l. get_or-set_other new (a + i) j w 0 (λ z. outside j l z) ∙ k.others j (wider j l);
    }
  where
    word : (j : ℕ) → j < m → (c : Bool) → eqb j i ≡ c → get_or (set new (a + i) w) (a + j) 0 ≡ bit_and (get_or old (a + j) 0) (get_or more (b + j) 0)
    word j l true z =
        let t : j ≡ i = eqb-true j i z in
        rw t (get_or-set_same new (a + i) w 0 (omega (arith, k.long)) ∙ e ∙ ap (λ (x : ℕ). bit_and x (get_or more (b + i) 0)) (k.others (a + i) (inr (omega arith))))
    word j l false z = get_or-set_other new (a + i) (a + j) w 0 (λ t. eqb-false j i z (omega arith)) ∙ k.words j (omega (arith, eqb-false j i z))

    outside : (j : ℕ) → (j < a) ⊎ (a + m ≤ j) → j ≡ a + i → ⊥
    outside j (inl l) z = omega arith
    outside j (inr l) z = omega arith

    wider : (j : ℕ) → (j < a) ⊎ (a + m ≤ j) → (j < a) ⊎ (a + i ≤ j)
    wider j (inl l) = inl l
    wider j (inr l) = inr (omega arith)

pub with-end : (old more new : List ℕ) (a b n i : ℕ) → MetWith old more new a b i → i ≤ n → n ≤ i → MetWith old more new a b n
with-end old more new a b n i k h l = let e : i ≡ n = omega arith in subst (MetWith old more new a b) e k

pub cut-room : (size more at a b n p : ℕ) → Cuttable size more at a b n p → a + n ≤ size
cut-room size more at a b n p h = omega (arith, h.low, h.flags)

pub row_cut : (old more met new : List ℕ) (size at a b n p : ℕ) → Cuttable (length old) size at a b n p → MetWith old more met a b n → Told met new at p false → CutRow old more new at a b n p
row_cut old more met new size at a b n p h m t =
    record {
      long = t.long ∙ m.long;
      words = λ j l. t.others (a + j) (omega (arith, h.low)) ∙ m.words j l;
      others = λ j l s. t.others j l ∙ m.others j s;
      known = subst (λ (x : ℕ). Flagged x p true (get_or new at 0)) (m.others at (inr h.low)) t.known;
      outside = subst (λ (x : ℕ). Flagged x p false (get_or new (at + 1) 0)) (m.others (at + 1) (inr (omega (arith, h.low)))) t.outside;
    }

pub ruleset mine = (rules, with-start, with-turn, with-end, cut-room, row_cut, added, narrowable-again, paired, narrowed, both_first, both-second, left-low, set-small, copied-within, flag-on, flag_off, told-both)
