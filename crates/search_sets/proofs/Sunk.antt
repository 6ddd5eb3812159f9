-- The arguments of a row inside the table, cut to what was seen, leave out no assignment that is sought.
--     held-row          a row inside the table is the instance of a context row that fits and has a class of it
--     sunk-yes, sunk-no what is promised
-- Assumes nothing.
use mathlib.Core.Bool.{Bool, true, false, ◌&&◌}
use mathlib.Core.List.{List, map}
use mathlib.Core.Path.{◌≡◌, refl, ap, sym, ◌∙◌, subst}
use mathlib.Core.Logic.{◌⊎◌, inl, inr}
use Prim.Native.Nat.{ℕ, ◌+◌, ◌*◌, ◌≤◌, ◌<◌}
use native.Mathlib.Omega.{arith}
use borrow.Author.Rules.{rules}
use borrow.Author.Tests.{eqb-true}
use lib.Dec.{eqb}
use lib.ListN.{length, get_or}
use Rattle.meaning.specs.Context.{Row}
use Rattle.meaning.specs.Rules.{Below}
use Rattle.meaning.specs.Values.{number_at, numbers}
use Rattle.meaning.proofs.Logic.{and_both, false-true}
use Rattle.bits.specs.Sets.{bit_at, has}
use Rattle.bits.proofs.Words.{both-has}
use Rattle.runs.specs.Limits.{arg_places}
use Rattle.runs.specs.Runs.{row_count, count_in, arg_in, pattern_count, head_in, pattern_count_in, pattern_arg_in, pattern_args_in}
use Rattle.matching.proofs.Allows.{in-low, in-inside}
use Rattle.matching.proofs.Numbers.{Held, Free}
use Rattle.matching.proofs.Numbered.{Numbered, free-high, held_fits}
use Rattle.matching.proofs.Upward.{args_at_lem}
use Rattle.matching.proofs.Pruning.{told}
use Rattle.search_sets.specs.Places.{known_at, outside_at, possible_in}
use Rattle.search_sets.specs.Keeps.{Setting, Fits, AllowedIn, Steps}
use Rattle.search_sets.specs.Words.{Changed, Cleared, Cuttable, CutRow}
use Rattle.search_sets.specs.Rising.{RowsOf, Symbol, PatternAsk, FitsIn, KnownArgs, KnownSymbol}
use Rattle.search_sets.specs.Sinking.{SinkAsk, TableRow, Seen, Looked, InMore, CutArgAsk, CutsArg, CutsArgs, CutsAsk, InsideBy, Inside, Enters}
use Rattle.search_sets.proofs.Changed.{sets-apart, sides_apart, row-anew, row_number}
use Rattle.search_sets.proofs.Variables.{keeps_same}
use Rattle.search_sets.proofs.Arguments.{ArgTo}
use Rattle.search_sets.proofs.Risen.{over-long, over-at, pattern-is, row_is, rows_long, entry-is, fits_in}

-- ---- with nothing in the scratch before

pub looked : (rows table patterns sets old mid new : List ℕ) (width p b n : ℕ) (r : Bool) → Cleared old mid b n → Seen rows table patterns sets mid new width p (row_count rows) r
    → Looked rows table patterns sets old new width p r
looked rows table patterns sets old mid new width p b n r c f = record { long = f.grown.long ∙ c.long; put = f.put; none = f.none }

pub look-ask : (rows table patterns old mid : List ℕ) (size more width p b n : ℕ) → SinkAsk rows table patterns size (length old) width p → Cleared old mid b n → more ≡ length mid
    → SinkAsk rows table patterns size more width p
look-ask rows table patterns old mid size more width p b n h c e = subst (λ (m : ℕ). SinkAsk rows table patterns size m width p) (sym (e ∙ c.long)) h

pub look-room : (rows table patterns : List ℕ) (size more width p n : ℕ) → SinkAsk rows table patterns size more width p → n ≡ 4 * width → 0 + n ≤ more
look-room rows table patterns size more width p n h e = omega (arith, e, h.wide)

-- ---- one argument

pub arg-cuttable : (patterns : List ℕ) (size more width p k a b c t : ℕ) → CutArgAsk patterns size more width p k → a ≡ pattern_arg_in patterns p k → b ≡ a * width → c ≡ k * width
    → t ≡ known_at (pattern_count patterns) width → Cuttable size more t b c width a
arg-cuttable patterns size more width p k a b c t h ea eb ec et =
    record {
      low = omega (arith, eb, et, sets-apart width a (pattern_count patterns + 4) (omega (arith, ea, earlier, h.ask.row.row)));
      right = omega (arith, ec, h.wide, sets-apart width k 4 (omega (arith, h.place, h.ask.args.few)));
      flags = omega (arith, et, h.ask.row.room.long);
      bit = omega (arith, ea, earlier, h.ask.row.row, h.ask.row.room.few);
    }
  where
    earlier : pattern_arg_in patterns p k < p
    earlier = h.ask.args.earlier.each k h.place

pub arg-below : (patterns : List ℕ) (size more width p k a : ℕ) → CutArgAsk patterns size more width p k → a ≡ pattern_arg_in patterns p k → a < 69
arg-below patterns size more width p k a h e = omega (arith, e, h.ask.args.earlier.each k h.place, h.ask.row.row, h.ask.row.room.few)

pub arg-low : (patterns : List ℕ) (size more width p k : ℕ) → CutArgAsk patterns size more width p k → k < arg_places
arg-low patterns size more width p k h = omega (arith, h.place, h.ask.args.few)

pub arg-set : (patterns : List ℕ) (size more width p k : ℕ) → CutArgAsk patterns size more width p k → k < 69
arg-set patterns size more width p k h = omega (arith, h.place, h.ask.args.few)

pub arg-cut : (patterns more old new : List ℕ) (width p k a b c t : ℕ) → a ≡ pattern_arg_in patterns p k → b ≡ a * width → c ≡ k * width → t ≡ known_at (pattern_count patterns) width
    → CutRow old more new t b c width a → CutsArg patterns more old new width p k
arg-cut patterns more old new width p k a b c t ea eb ec et w =
    record { cut = subst (λ (x : ℕ). CutRow old more new (known_at (pattern_count patterns) width) (x * width) (k * width) width x) ea (rw (eb, ec, et) at w) }

changed-cut : (count width : ℕ) (old more new : List ℕ) (p b : ℕ) → p < count → CutRow old more new (known_at count width) (p * width) b width p → Changed count width old new p
changed-cut count width old more new p b h t =
    record {
      long = t.long;
      words = λ q l e j m. t.others (q * width + j) (omega (arith, sets-apart width q (count + 4) l)) (sides_apart width p q e j m);
      known = λ q e. t.known.others q e;
      outside = λ q e. t.outside.others q e;
    }

-- a row cut to a set that has its number
pub cut-allowed : (s : Setting) (count width : ℕ) (f : Fits count width s) (a : List ℕ) (old more new : List ℕ) (q b : ℕ) → q < count
    → bit_at (get_or old (known_at count width) 0) q ≡ true → CutRow old more new (known_at count width) (q * width) b width q
    → number_at (numbers s.rows s.rep s.offset s.rule.patterns a) q < s.bound
    → has more b (number_at (numbers s.rows s.rep s.offset s.rule.patterns a) q) ≡ true
    → AllowedIn s count width old a → AllowedIn s count width new a
cut-allowed s count width f a old more new q b l known t low in-more v =
    record {
      sought = v.sought;
      allowed = row-anew s count width f a v.sought q set false old new l (changed-cut count width old more new q b l t)
          (λ x h e. both-has width old more new (q * width) b (q * width) t.words x (omega (arith, h, f.within)) ∙ e)
          (λ e. false-true e refl)
          (inl (low, and_both (has old (q * width) at) (has more b at) own in-more))
          v.allowed;
    }
  where
    at : ℕ
    at = number_at (numbers s.rows s.rep s.offset s.rule.patterns a) q

    set : ℕ → Bool
    set x = has old (q * width) x && has more b x

    own : has old (q * width) at ≡ true
    own =
        in-low s.bound s.offset f.table.low (has old (q * width)) (bit_at (get_or old (outside_at count width) 0) q) at low
        (row_number s count width f a v.sought q old l known v.allowed)

-- ---- all arguments

pub record Cutting (patterns more old new : List ℕ) (width p n k : ℕ) : Type 0 where
  pub to : ArgTo patterns p n k
  pub cuts : CutsArgs patterns more old new width p k
  pub known : KnownArgs patterns new width p (pattern_count_in patterns p) true

pub cutting-start : (patterns more sets : List ℕ) (size width p n k : ℕ) → CutsAsk patterns sets size width p → n ≡ pattern_count_in patterns p → k ≡ 0 → Cutting patterns more sets sets width p n k
cutting-start patterns more sets size width p n k h e z =
    record { to = record { all = e; within = omega arith }; cuts = record { long = refl; keeps = λ s f a i w. w }; known = h.known }

pub cutting-turn : (patterns more old mid new : List ℕ) (size width p n k m : ℕ) → CutsAsk patterns old size width p → Cutting patterns more old mid width p n k → CutsArg patterns more mid new width p k
    → k < n → m ≡ k + 1 → Cutting patterns more old new width p n m
cutting-turn patterns more old mid new size width p n k m h f t l em =
    record {
      to = record { all = f.to.all; within = omega arith };
      cuts = record {
        long = t.cut.long ∙ f.cuts.long;
        keeps = λ s g a i w.
            cut-allowed s (pattern_count patterns) width g a mid more new q (k * width) low (f.known.known refl k place) t.cut
            (i.each k (omega (arith, l, em))).0 (i.each k (omega (arith, l, em))).1
            (f.cuts.keeps s g a (record { each = λ j b. i.each j (omega (arith, b, em)) }) w);
      };
      known = record { known = λ _ j b. again j b (eqb (pattern_arg_in patterns p j) q) refl };
    }
  where
    q : ℕ
    q = pattern_arg_in patterns p k

    place : k < pattern_count_in patterns p
    place = omega (arith, f.to.all, l)

    low : q < pattern_count patterns
    low = omega (arith, h.ask.args.earlier.each k place, h.ask.row.row)

    again : (j : ℕ) → j < pattern_count_in patterns p → (d : Bool) → eqb (pattern_arg_in patterns p j) q ≡ d
        → bit_at (get_or new (known_at (pattern_count patterns) width) 0) (pattern_arg_in patterns p j) ≡ true
    again j b true e = ap (bit_at (get_or new (known_at (pattern_count patterns) width) 0)) (eqb-true (pattern_arg_in patterns p j) q e) ∙ t.cut.known.here
    again j b false e = t.cut.known.others (pattern_arg_in patterns p j) e ∙ f.known.known refl j b

pub cutting-end : (patterns more old new : List ℕ) (width p n k : ℕ) → Cutting patterns more old new width p n k → n ≤ k → CutsArgs patterns more old new width p (pattern_count_in patterns p)
cutting-end patterns more old new width p n k f l =
    let e : k ≡ pattern_count_in patterns p = omega (arith, f.to.all, f.to.within) in
    subst (CutsArgs patterns more old new width p) e f.cuts

pub cutting-ask : (patterns more old new : List ℕ) (size most width p n k : ℕ) → CutsAsk patterns old most width p → Cutting patterns more old new width p n k → k < n → size ≡ length new
    → CutArgAsk patterns size most width p k
cutting-ask patterns more old new size most width p n k h f l e =
    record { ask = subst (λ (m : ℕ). PatternAsk patterns m width p) (sym (e ∙ f.cuts.long)) h.ask; place = omega (arith, f.to.all, l); wide = h.wide }

pub cutting-long : (patterns more old new : List ℕ) (width p n k : ℕ) → Cutting patterns more old new width p n k → length new ≡ length old
cutting-long patterns more old new width p n k f = f.cuts.long

pub cutting-row : (patterns sets : List ℕ) (most width p : ℕ) → CutsAsk patterns sets most width p → p < pattern_count patterns
cutting-row patterns sets most width p h = h.ask.row.row

-- ---- whether a row lies inside

pub inside-yes : (patterns sets : List ℕ) (width p t u : ℕ) (m o r : Bool) → t ≡ known_at (pattern_count patterns) width → u ≡ t + 1 → m ≡ bit_at (get_or sets t 0) p → m ≡ true
    → o ≡ bit_at (get_or sets u 0) p → o ≡ false → KnownArgs patterns sets width p (pattern_count_in patterns p) r → InsideBy patterns sets width p r
inside-yes patterns sets width p t u m o r et eu em tm eo to k =
    record {
      known = λ _. ap (λ (n : ℕ). bit_at (get_or sets n 0) p) (sym et) ∙ sym em ∙ tm;
      inside = λ _. ap (λ (n : ℕ). bit_at (get_or sets n 0) p) (sym (eu ∙ ap (λ (n : ℕ). n + 1) et)) ∙ sym eo ∙ to;
      args = k;
    }

pub inside-no : (patterns sets : List ℕ) (width p : ℕ) → InsideBy patterns sets width p false
inside-no patterns sets width p = record { known = λ e. false-true e refl; inside = λ e. false-true e refl; args = record { known = λ e. false-true e refl } }

-- ---- the row

pub record HeldRow (rows table patterns old : List ℕ) (width p : ℕ) (s : Setting) (a : List ℕ) : Type 0 where
  pub row : ℕ
  pub below : row < row_count rows
  pub stands : TableRow rows table patterns old width p row
  pub number : (j : ℕ) → j < pattern_count_in patterns p
      → number_at (numbers s.rows s.rep s.offset s.rule.patterns a) (pattern_arg_in patterns p j) ≡ get_or table (arg_in rows row j) 0

module _ (rows table patterns old : List ℕ) (more width p : ℕ) (h : Inside rows table patterns old more width p) (s : Setting) (f : Fits (pattern_count patterns) width s)
    (k : RowsOf rows table patterns s) (a : List ℕ) (w : AllowedIn s (pattern_count patterns) width old a) where
  abbrev ns : List ℕ
  ns = numbers s.rows s.rep s.offset s.rule.patterns a

  abbrev over : List ℕ
  over = pattern_args_in patterns p

  low : p < length s.rule.patterns
  low = omega (arith, f.counted, h.symbol.symbol.row.row)

  numbered : Numbered s.rows s.rep s.bound s.offset s.rule.patterns a ns
  numbered = told s.differs s.rows s.rep s.bound s.offset s.rule f.table f.placed a w.sought

  own : (number_at ns p < s.bound) × (has old (p * width) (number_at ns p) ≡ true)
  own =
      in-inside s.bound s.offset f.table.low (has old (p * width)) (bit_at (get_or old (outside_at (pattern_count patterns) width) 0) p) (number_at ns p) h.inside
      (row_number s (pattern_count patterns) width f a w.sought p old h.symbol.symbol.row.row h.known w.allowed)

  held-row : HeldRow rows table patterns old width p s a
  held-row = go applied.1
    where
      applied : Below (length s.rule.patterns) over
          × (Held s.rows s.rep s.offset s.rule.patterns ns (head_in patterns p) over (number_at ns p)
          ⊎ Free s.rows s.rep s.offset s.rule.patterns numbered.done ns (head_in patterns p) over (number_at ns p))
      applied = numbered.applied p (head_in patterns p) over low (pattern-is rows table patterns old width p h.symbol s f k)

      go : Held s.rows s.rep s.offset s.rule.patterns ns (head_in patterns p) over (number_at ns p)
          ⊎ Free s.rows s.rep s.offset s.rule.patterns numbered.done ns (head_in patterns p) over (number_at ns p) → HeldRow rows table patterns old width p s a
      go (inr c) = absurd (free-high s.rows s.rep s.bound s.offset s.rule.patterns f.table ns numbered.done (head_in patterns p) over (number_at ns p) c own.0)
      go (inl c) =
          let b : c.row < row_count rows = omega (arith, c.below, rows_long rows table patterns old width p h.symbol s f k) in
          let t : FitsIn rows table patterns old width p c.row =
          fits_in rows table patterns old width p h.symbol s f k c.row b
          (held_fits s.rows s.rep s.bound s.offset s.rule.patterns f.table ns (possible_in (pattern_count patterns) width old) w.allowed.rows (head_in patterns p) over (number_at ns p) applied.0 c) in
          record {
            row = c.row;
            below = b;
            stands = record { class = subst (λ (x : ℕ). has old (p * width) x ≡ true) (c.number ∙ k.entry c.row) own.1; fits = t };
            number = λ j l.
                let m : j < count_in rows c.row = omega (arith, t.head.count, l) in
                ap (number_at ns) (sym (over-at rows table patterns old width p h.symbol s f k j l))
                ∙ sym (args_at_lem s.rows s.rep s.bound s.offset s.rule.patterns f.table a ns numbered over j (omega (arith, l, over-long rows table patterns old width p h.symbol s f k)))
                ∙ ap (λ (x : List ℕ). get_or x j 0) c.args
                ∙ ap (λ (r : Row). get_or (map s.rep r.args) j 0) (row_is rows table patterns old width p h.symbol s f k c.row b)
                ∙ entry-is rows table patterns old width p h.symbol s f k c.row j b m;
          }

bounded : (rows table patterns old : List ℕ) (width p : ℕ) → KnownSymbol rows table patterns old width p → (s : Setting) → Fits (pattern_count patterns) width s → RowsOf rows table patterns s
    → (i : ℕ) → i < row_count rows → get_or table i 0 < s.bound
bounded rows table patterns old width p h s f k i l =
    subst (λ (x : ℕ). x < s.bound) (k.entry i) (f.table.entries i (omega (arith, l, rows_long rows table patterns old width p h s f k)))

-- ---- what is promised

pub sunk-yes : (rows table patterns old new before scratch : List ℕ) (more width p : ℕ) (r : Bool) → Inside rows table patterns old more width p
    → Looked rows table patterns old before scratch width p r → CutsArgs patterns scratch old new width p (pattern_count_in patterns p)
    → Steps (RowsOf rows table patterns) (pattern_count patterns) width old new true
sunk-yes rows table patterns old new before scratch more width p r h seen cuts =
    record { kept = record { long = cuts.long; keeps = λ s f k a w. cuts.keeps s f a (in-more s f k a w) w }; none = λ e. false-true refl e }
  where
    in-more : (s : Setting) (f : Fits (pattern_count patterns) width s) → RowsOf rows table patterns s → (a : List ℕ) → AllowedIn s (pattern_count patterns) width old a
        → InMore s patterns scratch width p (pattern_count_in patterns p) a
    in-more s f k a w =
        let c : HeldRow rows table patterns old width p s a = held-row rows table patterns old more width p h s f k a w in
        record {
          each = λ j l.
              let m : j < count_in rows c.row = omega (arith, c.stands.fits.head.count, l) in
              let e : arg_in rows c.row j < c.row = (h.symbol.symbol.placed.each c.row c.below).earlier.each j m in (
                subst (λ (x : ℕ). x < s.bound) (sym (c.number j l)) (bounded rows table patterns old width p h.symbol s f k (arg_in rows c.row j) (omega (arith, e, c.below))),
                subst (λ (x : ℕ). has scratch (j * width) x ≡ true) (sym (c.number j l)) (seen.put c.row c.below c.stands j m),
              );
        }

pub sunk-no : (rows table patterns old before scratch : List ℕ) (more width p : ℕ) (r : Bool) → Inside rows table patterns old more width p
    → Looked rows table patterns old before scratch width p r → r ≡ false → Steps (RowsOf rows table patterns) (pattern_count patterns) width old old false
sunk-no rows table patterns old before scratch more width p r h seen e =
    record {
      kept = keeps_same (RowsOf rows table patterns) (pattern_count patterns) width old;
      none = λ _.
          record {
            none = λ s f k a w.
                let c : HeldRow rows table patterns old width p s a = held-row rows table patterns old more width p h s f k a w in
                seen.none e c.row c.below c.stands;
          };
    }

pub sunk-same : (Kind : Setting → Type 0) (count width : ℕ) (sets : List ℕ) → Steps Kind count width sets sets true
sunk-same Kind count width sets = record { kept = keeps_same Kind count width sets; none = λ e. false-true refl e }

pub sink-ask : (rows table patterns sets : List ℕ) (more width p size : ℕ) → Inside rows table patterns sets more width p → size ≡ length sets → SinkAsk rows table patterns size more width p
sink-ask rows table patterns sets more width p size h e = record { symbol = subst (λ (n : ℕ). Symbol rows table patterns n width p) (sym e) h.symbol.symbol; wide = h.wide }

pub enters : (rows table patterns sets : List ℕ) (more width p : ℕ) (r : Bool) → SinkAsk rows table patterns (length sets) more width p → InsideBy patterns sets width p r
    → Enters rows table patterns sets more width p r
enters rows table patterns sets more width p r h i =
    record {
      enter = λ e.
          record {
            symbol = record { symbol = h.symbol; known = subst (KnownArgs patterns sets width p (pattern_count_in patterns p)) e i.args };
            wide = h.wide;
            known = i.known e;
            inside = i.inside e;
          };
    }

pub entered : (rows table patterns sets : List ℕ) (more width p : ℕ) (r : Bool) → Enters rows table patterns sets more width p r → r ≡ true → Inside rows table patterns sets more width p
entered rows table patterns sets more width p r h e = h.enter e

pub sink-pattern : (rows table patterns : List ℕ) (size more width p : ℕ) → SinkAsk rows table patterns size more width p → PatternAsk patterns size width p
sink-pattern rows table patterns size more width p h = record { row = h.symbol.row; args = h.symbol.args }

pub ruleset mine = (rules, looked, look-ask, look-room, arg-cuttable, arg-below, arg-low, arg-set, arg-cut, cutting-start, cutting-turn, cutting-end, cutting-ask, cutting-long, cutting-row, inside-yes, inside-no, sunk-yes, sunk-no, sunk-same, sink-ask, enters, entered, sink-pattern)
