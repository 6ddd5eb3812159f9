-- Two rows of an unequal literal: what is asked, and what is promised.
--     known-part .. part-back    what is asked
--     parts-by, parts_same       one row cut by the other; nothing is changed
--     part-both, part-first      each cut by the other; the first alone, where it has nothing left
-- Assumes nothing.
use mathlib.Core.Bool.{Bool, true, false, ◌&&◌}
use mathlib.Core.List.{List}
use mathlib.Core.Path.{◌≡◌, refl, sym, ◌∙◌}
use Prim.Native.Nat.{ℕ, ◌+◌, ◌*◌, ◌≤◌, ◌<◌}
use native.Mathlib.Omega.{arith}
use borrow.Author.Rules.{rules}
use lib.ListN.{length, get_or}
use Rattle.meaning.specs.Rules.{unequal}
use Rattle.meaning.specs.Values.{number_at, numbers}
use Rattle.meaning.specs.FirstBy.{holds_by, breaks}
use Rattle.meaning.proofs.Logic.{and-true-left, and-true-right, false-true}
use Rattle.meaning.proofs.Pruned.{Sought}
use Rattle.bits.specs.Sets.{bit_at, has}
use Rattle.matching.proofs.Allows.{in-low}
use Rattle.matching.proofs.Rounds.{holds_at}
use Rattle.search_sets.specs.Places.{known_at, outside_at}
use Rattle.search_sets.specs.Keeps.{Setting, Fits, AllowedIn, Steps}
use Rattle.search_sets.specs.Words.{Left, Cuttable, CutRow}
use Rattle.search_sets.specs.Parting.{UnequalRows, Differ, Parts, ApartAsk, Parted, CutLeft, PartAsk, KnownPart}
use Rattle.search_sets.proofs.Changed.{sets-apart, row_number, row-none}
use Rattle.search_sets.proofs.Variables.{keeps_same}
use Rattle.search_sets.proofs.Sunk.{cut-allowed}

-- ---- what is asked

pub known-part : (sets : List ℕ) (apart scratch count width n p q t : ℕ) (r : Bool) → PartAsk (length sets) apart scratch count width n p q → t ≡ (count + 4) * width
    → r ≡ (bit_at (get_or sets t 0) p && bit_at (get_or sets t 0) q) → r ≡ true → KnownPart sets apart scratch count width n p q
known-part sets apart scratch count width n p q t r h et er on =
    let e : (bit_at (get_or sets (known_at count width) 0) p && bit_at (get_or sets (known_at count width) 0) q) ≡ true = rw et at (sym er ∙ on) in
    record {
      part = h;
      left = and-true-left (bit_at (get_or sets (known_at count width) 0) p) (bit_at (get_or sets (known_at count width) 0) q) e;
      right = and-true-right (bit_at (get_or sets (known_at count width) 0) p) (bit_at (get_or sets (known_at count width) 0) q) e;
    }

pub part_apart : (sets : List ℕ) (apart scratch count width n p q : ℕ) → KnownPart sets apart scratch count width n p q → ApartAsk apart scratch width n
part_apart sets apart scratch count width n p q h = h.part.ask

pub part-base : (sets : List ℕ) (size apart scratch count width n p q a : ℕ) → KnownPart sets apart scratch count width n p q → a ≡ p * width → size ≡ length sets → a + width ≤ size
part-base sets size apart scratch count width n p q a h e es = omega (arith, e, es, h.part.pair.room.long, sets-apart width p (count + 4) (omega (arith, h.part.pair.left)))

pub part-cuttable : (sets more old : List ℕ) (size most apart count width n p q b t base : ℕ) (aside : List ℕ) → KnownPart sets apart (length old) count width n p q → Parted sets aside old more base width n
    → b ≡ q * width → t ≡ (count + 4) * width → size ≡ length sets → most ≡ length more → Cuttable size most t b 0 width q
part-cuttable sets more old size most apart count width n p q b t base aside h d eb et es em =
    record {
      low = omega (arith, eb, et, sets-apart width q (count + 4) (omega (arith, h.part.pair.right)));
      right = omega (arith, em, d.long, h.part.ask.room);
      flags = omega (arith, et, es, h.part.pair.room.long);
      bit = omega (arith, h.part.pair.right, h.part.pair.room.few);
    }

pub left-room : (size more new at b n q : ℕ) → Cuttable size more at b 0 n q → new ≡ size → b + n ≤ new
left-room size more new at b n q h e = omega (arith, e, h.low, h.flags)

pub cut_left : (old more new : List ℕ) (at b width q : ℕ) (r : Bool) → CutRow old more new at b 0 width q → Left new b width r → CutLeft old more new at b width q r
cut_left old more new at b width q r c l = record { cut = c; left = l }

pub part-narrow : (sets : List ℕ) (apart scratch count width n p q : ℕ) → KnownPart sets apart scratch count width n p q → width ≤ 16
part-narrow sets apart scratch count width n p q h = h.part.ask.narrow

pub part-back : (old new apart : List ℕ) (size most scratch count width n p q : ℕ) (r : Bool) → PartAsk (length old) most scratch count width n p q → Parts apart old new count width n p q r
    → size ≡ length new → PartAsk size most scratch count width n q p
part-back old new apart size most scratch count width n p q r h c e =
    record {
      pair = record {
        room = record { few = h.pair.room.few; narrow = h.pair.room.narrow; long = omega (arith, e, c.steps.kept.long, h.pair.room.long) };
        left = h.pair.right;
        right = h.pair.left;
      };
      ask = h.ask;
    }

-- ---- what is promised

module _ (old more new apart before : List ℕ) (size scratch count width n p q : ℕ) (h : KnownPart old size scratch count width n p q)
    (d : Parted old apart before more (p * width) width n) (c : CutRow old more new (known_at count width) (q * width) 0 width q) where
  part-allowed : (s : Setting) → Fits count width s → Differ apart width n p q s → (a : List ℕ) → AllowedIn s count width old a → AllowedIn s count width new a
  part-allowed s f k a w =
      cut-allowed s count width f a old more new q 0 h.part.pair.right h.right c (k.each a w.sought).1
      (d.put (at p) (omega (arith, k.within, (k.each a w.sought).0)) own (at q) (omega (arith, f.within, (k.each a w.sought).1)) (k.each a w.sought).2)
      w
    where
      at : ℕ → ℕ
      at r = number_at (numbers s.rows s.rep s.offset s.rule.patterns a) r

      own : has old (p * width) (at p) ≡ true
      own =
          in-low s.bound s.offset f.table.low (has old (p * width)) (bit_at (get_or old (outside_at count width) 0) p) (at p) (k.each a w.sought).0
          (row_number s count width f a w.sought p old h.part.pair.left h.left w.allowed)

  parts-so : (r : Bool) → Left new (q * width) width r → Parts apart old new count width n p q r
  parts-so r l =
      record {
        steps = record {
          kept = record { long = c.long; keeps = part-allowed };
          none = λ e.
              record {
                none = λ s f k a w.
                    row-none s count width f a w.sought q new h.part.pair.right c.known.here c.outside.here (l.none e) (part-allowed s f k a w).allowed;
              };
        };
      }

pub parts-by : (old more new apart before : List ℕ) (size scratch count width n p q a b t : ℕ) (r : Bool) → KnownPart old size scratch count width n p q → a ≡ p * width → b ≡ q * width
    → t ≡ (count + 4) * width → Parted old apart before more a width n → CutLeft old more new t b width q r → Parts apart old new count width n p q r
parts-by old more new apart before size scratch count width n p q a b t r h ea eb et d c =
    parts-so old more new apart before size scratch count width n p q h (rw ea at d) (rw (eb, et) at c.cut) r (rw eb at c.left)

pub parts_same : (apart sets : List ℕ) (count width n p q : ℕ) → Parts apart sets sets count width n p q true
parts_same apart sets count width n p q =
    record { steps = record { kept = keeps_same (Differ apart width n p q) count width sets; none = λ e. false-true refl e } }

-- a literal that is sought holds
differ_of : (apart : List ℕ) (width n p q : ℕ) (s : Setting) → UnequalRows apart width n p q s → Differ apart width n p q s
unfolding breaks holds_by
differ_of apart width n p q s k = record { within = k.within; each = each }
  where
    holds : (a : List ℕ) → Sought s.differs s.rows s.rep s.offset s.rule a → holds_by s.differs (numbers s.rows s.rep s.offset s.rule.patterns a) (unequal p q) ≡ true
    holds a m = rw k.says at (holds_at s.differs (numbers s.rows s.rep s.offset s.rule.patterns a) s.rule.literals m.2 k.literal k.below)

    each : (a : List ℕ) → Sought s.differs s.rows s.rep s.offset s.rule a
        → (number_at (numbers s.rows s.rep s.offset s.rule.patterns a) p < s.bound)
        × (number_at (numbers s.rows s.rep s.offset s.rule.patterns a) q < s.bound)
        × (has apart (number_at (numbers s.rows s.rep s.offset s.rule.patterns a) p * width) (number_at (numbers s.rows s.rep s.offset s.rule.patterns a) q) ≡ true)
    each a m =
        let ns : List ℕ = numbers s.rows s.rep s.offset s.rule.patterns a in
        let o : (number_at ns p < s.bound) × (number_at ns q < s.bound) × (has apart (number_at ns p * width) (number_at ns q) ≡ true) × (has apart (number_at ns q * width) (number_at ns p) ≡ true) =
        k.over (number_at ns p) (number_at ns q) (holds a m) in
        (o.0, o.1, o.2)

differ_back : (apart : List ℕ) (width n p q : ℕ) (s : Setting) → UnequalRows apart width n p q s → Differ apart width n q p s
unfolding breaks holds_by
differ_back apart width n p q s k = record { within = k.within; each = each }
  where
    holds : (a : List ℕ) → Sought s.differs s.rows s.rep s.offset s.rule a → holds_by s.differs (numbers s.rows s.rep s.offset s.rule.patterns a) (unequal p q) ≡ true
    holds a m = rw k.says at (holds_at s.differs (numbers s.rows s.rep s.offset s.rule.patterns a) s.rule.literals m.2 k.literal k.below)

    each : (a : List ℕ) → Sought s.differs s.rows s.rep s.offset s.rule a
        → (number_at (numbers s.rows s.rep s.offset s.rule.patterns a) q < s.bound)
        × (number_at (numbers s.rows s.rep s.offset s.rule.patterns a) p < s.bound)
        × (has apart (number_at (numbers s.rows s.rep s.offset s.rule.patterns a) q * width) (number_at (numbers s.rows s.rep s.offset s.rule.patterns a) p) ≡ true)
    each a m =
        let ns : List ℕ = numbers s.rows s.rep s.offset s.rule.patterns a in
        let o : (number_at ns p < s.bound) × (number_at ns q < s.bound) × (has apart (number_at ns p * width) (number_at ns q) ≡ true) × (has apart (number_at ns q * width) (number_at ns p) ≡ true) =
        k.over (number_at ns p) (number_at ns q) (holds a m) in
        (o.1, o.0, o.3)

pub part-both : (apart old mid new : List ℕ) (count width n p q : ℕ) (d r : Bool) → Parts apart old mid count width n p q d → d ≡ true → Parts apart mid new count width n q p r
    → Steps (UnequalRows apart width n p q) count width old new r
part-both apart old mid new count width n p q d r f e g =
    record {
      kept = record {
        long = g.steps.kept.long ∙ f.steps.kept.long;
        keeps = λ s t k a w. g.steps.kept.keeps s t (differ_back apart width n p q s k) a (first s t k a w);
      };
      none = λ z. record { none = λ s t k a w. (g.steps.none z).none s t (differ_back apart width n p q s k) a (first s t k a w) };
    }
  where
    first : (s : Setting) → Fits count width s → UnequalRows apart width n p q s → (a : List ℕ) → AllowedIn s count width old a → AllowedIn s count width mid a
    first s t k a w = f.steps.kept.keeps s t (differ_of apart width n p q s k) a w

pub part-first : (apart old mid : List ℕ) (count width n p q : ℕ) (d : Bool) → Parts apart old mid count width n p q d → d ≡ false → Steps (UnequalRows apart width n p q) count width old mid false
part-first apart old mid count width n p q d f e =
    record {
      kept = record { long = f.steps.kept.long; keeps = λ s t k a w. f.steps.kept.keeps s t (differ_of apart width n p q s k) a w };
      none = λ _. record { none = λ s t k a w. (f.steps.none e).none s t (differ_of apart width n p q s k) a w };
    }

pub ruleset mine = (rules, known-part, part_apart, part-base, part-cuttable, left-room, cut_left, part-narrow, part-back, parts-by, parts_same, part-both, part-first)
