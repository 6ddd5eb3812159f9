-- Two rows that a literal equates: what is asked, and what is promised.
--     steps-same                 nothing is changed
--     known-pair, pairable, pair-room    two rows that are known, and where their words stand
--     equal-numbers              the numbers of the rows are equal
--     meet-none, meet-some       both rows cut to what both can be, with nothing left or with something
-- Assumes nothing.
use mathlib.Core.Bool.{Bool, true, false, ◌&&◌}
use mathlib.Core.List.{List}
use mathlib.Core.Path.{◌≡◌, refl, sym, ◌∙◌, subst}
use mathlib.Core.Logic.{◌⊎◌, inl, inr}
use Prim.Native.Nat.{ℕ, ◌+◌, ◌*◌, ◌≤◌, ◌<◌}
use native.Mathlib.Omega.{arith}
use borrow.Author.Rules.{rules}
use borrow.Author.Tests.{eqb-true, ne_eqb, ltb-true, ltb-false}
use lib.Dec.{eqb, ltb}
use lib.ListN.{length, get_or}
use Rattle.meaning.specs.Rules.{equal}
use Rattle.meaning.specs.Values.{number_at, numbers}
use Rattle.meaning.specs.FirstBy.{holds_by, breaks}
use Rattle.meaning.proofs.Logic.{and-true-left, and-true-right, and_both, false-true}
use Rattle.meaning.proofs.Pruned.{Sought}
use Rattle.bits.specs.Sets.{bit_at, has}
use Rattle.bits.proofs.Words.{both-has}
use Rattle.matching.specs.Sound.{In}
use Rattle.matching.proofs.Allows.{in_both}
use Rattle.matching.proofs.Rounds.{holds_at}
use Rattle.search_sets.specs.Places.{known_at, outside_at, possible_in, PairIn, KnownPair}
use Rattle.search_sets.specs.Keeps.{Setting, Fits, AllowedIn, Keeps, Steps, EqualRows}
use Rattle.search_sets.specs.Words.{Changed, Left, Narrowable, Narrowed, Pairable, Paired}
use Rattle.search_sets.proofs.Changed.{Allowed, num, sets-apart, changed-narrowed, has_same, row-anew, row_number, row-none}
use Rattle.search_sets.proofs.Variables.{keeps_same}

-- ---- what is asked

pub steps-same : (Kind : Setting → Type 0) (count width : ℕ) (sets : List ℕ) (r : Bool) → r ≡ true → Steps Kind count width sets sets r
steps-same Kind count width sets r e = record { kept = keeps_same Kind count width sets; none = λ f. false-true e f }

pub known-pair : (sets : List ℕ) (count width p q t : ℕ) (r : Bool) → PairIn (length sets) count width p q → (p ≡ q → ⊥) → t ≡ (count + 4) * width
    → r ≡ (bit_at (get_or sets t 0) p && bit_at (get_or sets t 0) q) → r ≡ true → KnownPair sets count width p q
known-pair sets count width p q t r h n et er on =
    let e : (bit_at (get_or sets (known_at count width) 0) p && bit_at (get_or sets (known_at count width) 0) q) ≡ true = rw et at (sym er ∙ on) in
    record {
      pair = h;
      other = n;
      known-left = and-true-left (bit_at (get_or sets (known_at count width) 0) p) (bit_at (get_or sets (known_at count width) 0) q) e;
      known-right = and-true-right (bit_at (get_or sets (known_at count width) 0) p) (bit_at (get_or sets (known_at count width) 0) q) e;
    }

either-apart : (width p q : ℕ) → (p ≡ q → ⊥) → (p * width + width ≤ q * width) ⊎ (q * width + width ≤ p * width)
either-apart width p q n = go (ltb p q) refl
  where
    go : (b : Bool) → ltb p q ≡ b → (p * width + width ≤ q * width) ⊎ (q * width + width ≤ p * width)
    go true e = inl (sets-apart width p q (ltb-true p q e))
    go false e = inr (sets-apart width q p (omega (arith, ltb-false p q e, n)))

narrowable : (sets : List ℕ) (size count width p q a b t : ℕ) → KnownPair sets count width p q → a ≡ p * width → b ≡ q * width → t ≡ (count + 4) * width → size ≡ length sets
    → Narrowable size t a b width p
narrowable sets size count width p q a b t h ea eb et es =
    record {
      places = record {
        left = omega (arith, ea, es, h.pair.room.long, sets-apart width p (count + 4) (omega (arith, h.pair.left)));
        right = omega (arith, eb, es, h.pair.room.long, sets-apart width q (count + 4) (omega (arith, h.pair.right)));
        apart = rw (ea, eb) (either-apart width p q h.other);
      };
      flags = omega (arith, et, es, h.pair.room.long);
      low = omega (arith, ea, et, sets-apart width p (count + 4) (omega (arith, h.pair.left)));
      bit = omega (arith, h.pair.left, h.pair.room.few);
    }

pub pairable : (sets : List ℕ) (size count width p q a b t : ℕ) → KnownPair sets count width p q → a ≡ p * width → b ≡ q * width → t ≡ (count + 4) * width → size ≡ length sets
    → Pairable size t a b width p q
pairable sets size count width p q a b t h ea eb et es =
    record { one = narrowable sets size count width p q a b t h ea eb et es; two = narrowable sets size count width q p b a t back eb ea et es }
  where
    back : KnownPair sets count width q p
    back = record { pair = record { room = h.pair.room; left = h.pair.right; right = h.pair.left }; other = λ e. h.other (sym e); known-left = h.known-right; known-right = h.known-left }

pub pair-room : (sets : List ℕ) (size more count width p q a : ℕ) → KnownPair sets count width p q → more ≡ length sets → a ≡ p * width → size ≡ more → a + width ≤ size
pair-room sets size more count width p q a h em ea es = omega (arith, ea, es, em, h.pair.room.long, sets-apart width p (count + 4) (omega (arith, h.pair.left)))

-- ---- what is promised

-- a literal that is sought holds
pub equal-numbers : (s : Setting) (p q : ℕ) → EqualRows p q s → (a : List ℕ) → Sought s.differs s.rows s.rep s.offset s.rule a
    → number_at (numbers s.rows s.rep s.offset s.rule.patterns a) p ≡ number_at (numbers s.rows s.rep s.offset s.rule.patterns a) q
unfolding breaks holds_by
equal-numbers s p q k a m =
    let ns : List ℕ = numbers s.rows s.rep s.offset s.rule.patterns a in
    let t : holds_by s.differs ns (equal p q) ≡ true = rw k.says at (holds_at s.differs ns s.rule.literals m.2 k.literal k.below) in
    eqb-true (number_at ns p) (number_at ns q) t

module _ (old mid new : List ℕ) (count width p q : ℕ) (out : Bool) (h : KnownPair old count width p q)
    (eo : out ≡ (bit_at (get_or old (outside_at count width) 0) p && bit_at (get_or old (outside_at count width) 0) q))
    (t : Narrowed old mid (known_at count width) (p * width) (q * width) width p out) (u : Narrowed mid new (known_at count width) (q * width) (p * width) width q out) where
  abbrev common : ℕ → Bool
  common x = has old (p * width) x && has old (q * width) x

  first : Changed count width old mid p
  first = changed-narrowed count width old mid p (q * width) out h.pair.left t

  second : Changed count width mid new q
  second = changed-narrowed count width mid new q (p * width) out h.pair.right u

  row-mid : (x : ℕ) → x < width * 64 → has mid (p * width) x ≡ common x
  row-mid x l = both-has width old old mid (p * width) (q * width) (p * width) t.words x l

  row_new : (x : ℕ) → x < width * 64 → common x ≡ true → has new (q * width) x ≡ true
  row_new x l e =
      both-has width mid mid new (q * width) (p * width) (q * width) u.words x l
      ∙ and_both (has mid (q * width) x) (has mid (p * width) x)
      (has_same width old mid (q * width) (q * width) (first.words q (omega (arith, h.pair.right)) (ne_eqb q p (λ z. h.other (sym z)))) x l
      ∙ and-true-right (has old (p * width) x) (has old (q * width) x) e)
      (row-mid x l ∙ e)

  meet-allowed : (s : Setting) (f : Fits count width s) → EqualRows p q s → (a : List ℕ) (w : AllowedIn s count width old a)
      → Allowed s count width f a w.sought (possible_in count width new)
  meet-allowed s f k a w =
      row-anew s count width f a w.sought q common out mid new h.pair.right second (λ x l e. row_new x (omega (arith, f.within)) e) (λ e. u.outside.here ∙ e)
      (subst (In s.bound s.offset common out) same i)
      (row-anew s count width f a w.sought p common out old mid h.pair.left first (λ x l e. row-mid x (omega (arith, f.within)) ∙ e) (λ e. t.outside.here ∙ e) i w.allowed)
    where
      at : ℕ → ℕ
      at r = num s count width f a w.sought r

      same : at p ≡ at q
      same = equal-numbers s p q k a w.sought

      i : In s.bound s.offset common out (at p)
      i =
          rw eo
          (in_both s.bound s.offset f.table.low (has old (p * width)) (has old (q * width)) (bit_at (get_or old (outside_at count width) 0) p) (bit_at (get_or old (outside_at count width) 0) q)
          (at p)
          (row_number s count width f a w.sought p old h.pair.left h.known-left w.allowed)
          (rw same (row_number s count width f a w.sought q old h.pair.right h.known-right w.allowed)))

  meet-keeps : Keeps (EqualRows p q) count width old new
  meet-keeps = record { long = second.long ∙ first.long; keeps = λ s f k a w. record { sought = w.sought; allowed = meet-allowed s f k a w } }

  p-other : eqb p q ≡ false
  p-other = ne_eqb p q h.other

  pub meet_left : (r : Bool) → out ≡ false → Left new (p * width) width r → Steps (EqualRows p q) count width old new r
  meet_left r o left =
      record {
        kept = meet-keeps;
        none = λ e.
            record {
              none = λ s f k a w.
                  row-none s count width f a w.sought p new h.pair.left (second.known p p-other ∙ t.known.here) (second.outside p p-other ∙ t.outside.here ∙ o) (left.none e)
                  (meet-allowed s f k a w);
            };
      }

  pub meet-out : (r : Bool) → r ≡ true → Steps (EqualRows p q) count width old new r
  meet-out r e = record { kept = meet-keeps; none = λ f. false-true e f }

-- the same, with the places as code hands them over
pub meet-none : (old new : List ℕ) (count width p q a b t : ℕ) (out r : Bool) → KnownPair old count width p q → a ≡ p * width → b ≡ q * width → t ≡ (count + 4) * width
    → out ≡ (bit_at (get_or old (t + 1) 0) p && bit_at (get_or old (t + 1) 0) q) → Paired old new t a b width p q out → out ≡ false → Left new a width r → Steps (EqualRows p q) count width old new r
meet-none old new count width p q a b t out r h ea eb et eo m o l =
    meet_left old m.between new count width p q out h (rw et at eo) (rw (ea, eb, et) at m.one) (rw (ea, eb, et) at m.two) r o (rw ea at l)

pub meet-some : (old new : List ℕ) (count width p q a b t : ℕ) (out r : Bool) → KnownPair old count width p q → a ≡ p * width → b ≡ q * width → t ≡ (count + 4) * width
    → out ≡ (bit_at (get_or old (t + 1) 0) p && bit_at (get_or old (t + 1) 0) q) → Paired old new t a b width p q out → r ≡ true → Steps (EqualRows p q) count width old new r
meet-some old new count width p q a b t out r h ea eb et eo m e =
    meet-out old m.between new count width p q out h (rw et at eo) (rw (ea, eb, et) at m.one) (rw (ea, eb, et) at m.two) r e

pub ruleset mine = (rules, steps-same, known-pair, pairable, pair-room, meet-none, meet-some)
