-- What is live: passes over the rows, until one adds nothing; and all that a context's sets say.
--     args-start .. args-done      the classes of a row's arguments
--     row-few .. row-live          a row whose class is live, and one whose class is not
--     pass-start .. pass-done      the rows from the last to the first
--     spread-start .. spread-done  passes, each of which makes a class live
--     untold-blank .. prepared-so  the sets from blank words to the last pass
-- Assumes nothing.
use mathlib.Core.Bool.{Bool, true, false, ◌||◌, not}
use mathlib.Core.List.{List}
use mathlib.Core.Path.{◌≡◌, refl, ap, ap₂, sym, ◌∙◌, subst}
use mathlib.Core.Logic.{inl, ⊎_elim}
use Prim.Native.Nat.{ℕ, ◌+◌, ◌-◌, ◌/◌, ◌%◌, ◌≤◌, ◌<◌}
use native.Mathlib.Omega.{arith}
use native.Mathlib.Decide.{dec_lt}
use borrow.Author.Rules.{rules}
use borrow.Author.Tests.{not-true}
use lib.ListN.{length, get_or}
use Rattle.meaning.specs.Context.{Row, row_at, differences, differences_of, left_at, right_at}
use Rattle.meaning.specs.Equality.{rep_at}
use Rattle.meaning.specs.ByTable.{apart_by}
use Rattle.meaning.proofs.Logic.{false-true, or_cases, or-none}
use Rattle.meaning.proofs.Apartness.{apart_by-true}
use Rattle.runs.specs.Fit.{Every, NamedAt}
use Rattle.runs.specs.Runs.{each, row_count, said_count, symbol_in, count_in, statement_in, statements_of, rows_of, context_of}
use Rattle.runs.proofs.Saying.{length-rows, rows-at}
use Rattle.bits.specs.Sets.{size, bit_at, has, Emptied}
use Rattle.bits.proofs.Members.{size-most, size_less}
use Rattle.bits.proofs.Words.{none_has}
use Rattle.search_pairs.specs.Ready.{words_for, most_words, arg_of, arg_count, Over, Beside, Live, over_at, beside_at, apart_at, live_at, Prepared}
use Rattle.search_pairs.specs.Steps.{Laid, Inside, sets_size}
use Rattle.search_pairs.specs.Prepare.{More, Base, RowIn, Pair, arg_class, ArgClass, Placed, Telling, Untold, Fresh, LivePut, LiveArgs, Under, LiveRow, LivePass, Spread, Connected}
use Rattle.search_pairs.proofs.Putting.{more-none, more-then}
use Rattle.search_pairs.proofs.Preparing.{base-few, base-later, row_inside, row-arg, arg-count, arg_is}

-- ---- a class that becomes live on the way

grown-false : {n : ℕ} {old new : List ℕ} → More n old new → (base j : ℕ) → has new base j ≡ false → has old base j ≡ false
grown-false {n} {old} {new} m base j e = go (has old base j) refl
  where
    go : (b : Bool) → has old base j ≡ b → has old base j ≡ false
    go false f = f
    go true f = false-true (m.grown base j f) e

fresh-later : {n : ℕ} {a b c : List ℕ} → Fresh n a b → More n b c → Fresh n a c
fresh-later f m = record { class = f.class; inside = f.inside; before = f.before; after = m.grown _ _ f.after }

fresh-before : {n : ℕ} {a b c : List ℕ} → More n a b → Fresh n b c → Fresh n a c
fresh-before m f = record { class = f.class; inside = f.inside; before = grown-false m _ _ f.before; after = f.after }

-- two steps, of which either may have added
fresh-either : {n : ℕ} {a b c : List ℕ} (f g : Bool) → More n a b → More n b c → (f ≡ true → Fresh n a b) → (g ≡ true → Fresh n b c) → (f || g) ≡ true → Fresh n a c
fresh-either f g m l p q e = ⊎_elim (λ h. fresh-later (p h) l) (λ h. fresh-before m (q h)) (or_cases f g e)

-- ---- the arguments of a row

module _ (n : ℕ) (rows table : List ℕ) (r : ℕ) where
  pub args-start : (sets : List ℕ) → LiveArgs n rows table r 0 sets sets false
  args-start sets = record { more = more-none n sets; here = λ k h. absurd (omega arith); same = λ _. refl; fresh = λ z. false-true z refl }

  pub args-pair : (old new : List ℕ) (k x : ℕ) (f : Bool) → RowIn n rows table (length old) r → LiveArgs n rows table r k old new f → ArgClass n rows table r k x
      → Pair n (length new) x x
  args-pair old new k x f w o a = record { few = base-few w.base; long = o.more.long ∙ w.base.long; left = a.inside; right = a.inside }

  pub args-step : (a b c : List ℕ) (k x : ℕ) (f g h : Bool) → LiveArgs n rows table r k a b f → ArgClass n rows table r k x → LivePut n x b c g → h ≡ (f || g)
      → LiveArgs n rows table r (k + 1) a c h
  args-step a b c k x f g h o q p e =
      record {
        more = more-then o.more p.more;
        here = λ i l. go i l (dec_lt i k);
        same = λ z. let w : (f ≡ false) × (g ≡ false) = or-none f g (sym e ∙ z) in p.same w.1 ∙ o.same w.0;
        fresh = λ z. fresh-either f g o.more p.more o.fresh p.fresh (sym e ∙ z);
      }
    where
      go : (i : ℕ) → i < k + 1 → Dec (i < k) → live_at n c (arg_class rows table r i) ≡ true
      go i l (yes m) = p.more.grown _ _ (o.here i m)
      go i l (no m) =
          let z : i ≡ k = omega arith in
          rw z (ap (live_at n c) (sym q.so) ∙ p.here)

  pub args-done : (a b : List ℕ) (k count : ℕ) (f : Bool) → LiveArgs n rows table r k a b f → count ≡ count_in rows r → count ≤ k
      → LiveArgs n rows table r (count_in rows r) a b f
  args-done a b k count f o e h = record { more = o.more; here = λ i l. o.here i (omega arith); same = o.same; fresh = o.fresh }

  -- ---- one row

  pub row-few : (len : ℕ) → RowIn n rows table len r → words_for n ≤ most_words
  row-few len w = base-few w.base

  pub row_room : (len : ℕ) → RowIn n rows table len r → sets_size n ≤ len
  row_room len w = omega (arith, w.base.long)

  module _ (x : ℕ) (ex : x ≡ rep_at table r) where
    pub row-class : (len : ℕ) → RowIn n rows table len r → x < n
    row-class len w = omega (arith, w.base.inside.each r w.row)

    pub row-dead : (sets : List ℕ) (b : Bool) → b ≡ live_at n sets x → not b ≡ true → LiveRow n rows table r sets sets false
    row-dead sets b e q =
        record {
          more = more-none n sets;
          under = λ _. record { each = λ h k l. false-true h (ap (live_at n sets) (sym ex) ∙ sym e ∙ not-true b q) };
          same = λ _. refl;
          fresh = λ z. false-true z refl;
        }

  pub row-live : (a b : List ℕ) (f : Bool) → LiveArgs n rows table r (count_in rows r) a b f → LiveRow n rows table r a b f
  row-live a b f o = record { more = o.more; under = λ _. record { each = λ h k l. o.here k l }; same = o.same; fresh = o.fresh }

-- ---- the rows from the last to the first

pub record Passing (n : ℕ) (rows table : List ℕ) (r : ℕ) (old new : List ℕ) (b : Bool) : Type 0 where
  pub pass : LivePass n rows table r old new b
  pub most : r ≤ n

module _ (n : ℕ) (rows table : List ℕ) where
  pub pass-start : (sets : List ℕ) → Passing n rows table n sets sets false
  pass-start sets =
      record {
        pass = record { more = more-none n sets; under = λ _ i h l. absurd (omega arith); same = λ _. refl; fresh = λ z. false-true z refl };
        most = omega arith;
      }

  pub pass-row : (a b : List ℕ) (r : ℕ) (f : Bool) → Base n rows table (length a) → Passing n rows table r a b f → 0 < r → RowIn n rows table (length b) (r - 1)
  pass-row a b r f w p h = record { base = base-later w p.pass.more; row = omega (arith, p.most) }

  pub pass_step : (a b c : List ℕ) (r : ℕ) (f g h : Bool) → Passing n rows table r a b f → 0 < r → LiveRow n rows table (r - 1) b c g → h ≡ (f || g)
      → Passing n rows table (r - 1) a c h
  pass_step a b c r f g h p l q e =
      record {
        pass =
            record {
              more = more-then p.pass.more q.more;
              under = λ z i m s. go z i m s (dec_lt i r);
              same = λ z. let w : (f ≡ false) × (g ≡ false) = or-none f g (sym e ∙ z) in q.same w.1 ∙ p.pass.same w.0;
              fresh = λ z. fresh-either f g p.pass.more q.more p.pass.fresh q.fresh (sym e ∙ z);
            };
        most = omega (arith, p.most);
      }
    where
      go : h ≡ false → (i : ℕ) → r - 1 ≤ i → i < n → Dec (i < r) → Under n rows table c i
      go z i m s (yes u) =
          let w : (f ≡ false) × (g ≡ false) = or-none f g (sym e ∙ z) in
          let v : r - 1 ≡ i = omega arith in
          subst (λ (t : ℕ). Under n rows table c t) v (q.under w.1)
      go z i m s (no u) =
          let w : (f ≡ false) × (g ≡ false) = or-none f g (sym e ∙ z) in
          subst (λ (t : List ℕ). Under n rows table t i) (sym (q.same w.1)) (p.pass.under w.0 i (omega arith) s)

  pub pass-done : (a b : List ℕ) (r : ℕ) (f : Bool) → Passing n rows table r a b f → r ≤ 0 → LivePass n rows table 0 a b f
  pass-done a b r f p h = let z : r ≡ 0 = omega arith in subst (λ (v : ℕ). LivePass n rows table v a b f) z p.pass

-- ---- passes

module _ (n : ℕ) (rows table : List ℕ) (a b : List ℕ) (m : More n a b) where
  pub spread-base : Base n rows table (length a) → Base n rows table (length b)
  spread-base w = base-later w m

  module _ (c : List ℕ) (f : Bool) (p : LivePass n rows table 0 b c f) where
    pub spread-again : not f ≡ false → More n a c
    spread-again _ = more-then m p.more

    pub spread-less : f ≡ true → n - size n (live_at n c) < n - size n (live_at n b)
    spread-less e =
        let q : Fresh n b c = p.fresh e in
        omega (arith, size_less n (live_at n c) (live_at n b) q.class (λ j h. p.more.grown _ _ h) q.inside q.after q.before, size-most n (live_at n c))

    pub spread-done : f ≡ false → Spread n rows table a c
    spread-done e = record { more = more-then m p.more; under = λ i h. p.under e i (omega arith) h }

-- ---- all sets

pub told-base : (rows said table : List ℕ) (n k : ℕ) (c : List ℕ) → Laid rows → Inside (row_count rows) table → n ≡ row_count rows → Telling n said table k c
    → Base n rows table (length c)
told-base rows said table n k c laid inside en t = record { count = en; laid = laid; inside = subst (λ (v : ℕ). Inside v table) (sym en) inside; long = t.long }

pub placed-base : (rows table : List ℕ) (n : ℕ) (c d : List ℕ) (m : ℕ) → Base n rows table (length c) → Placed n rows table m c d → Base n rows table (length d)
placed-base rows table n c d m b p = base-later b p.more

pub connected-so : (rows table : List ℕ) (n : ℕ) (c d e : List ℕ) → Placed n rows table n c d → Spread n rows table d e → Connected n rows table c e
connected-so rows table n c d e p s = record { between = d; placed = p; spread = s }

module _ (rows said table : List ℕ) (laid : Laid rows) (named : Every (said_count said) (NamedAt said (row_count rows))) (inside : Inside (row_count rows) table) where
  has-none : (ws : List ℕ) → ((j : ℕ) → get_or ws j 0 ≡ 0) → (base j : ℕ) → has ws base j ≡ false
  unfolding has
  has-none ws z base j = ap (λ (v : ℕ). bit_at v (j % 64)) (z (base + j / 64)) ∙ none_has (j % 64)

  untold : (sets b : List ℕ) → length sets ≡ sets_size (row_count rows) → Emptied (length sets) b → Untold (row_count rows) said table b
  unfolding each differences_of apart_by
  untold sets b long e =
      record {
        few = laid.room;
        inside = inside;
        named = named;
        told =
            record {
              long = e.long ∙ long;
              sided =
                  record {
                    left = λ i j hi hj h. false-true h (has-none b e.words _ _);
                    right = λ i j hi hj h. false-true h (has-none b e.words _ _);
                  };
              apart = λ i j hi hj. has-none b e.words _ _;
              rows = λ i j h. false-true h refl;
            };
      }

  pub untold-blank : (n : ℕ) (sets b : List ℕ) → n ≡ row_count rows → length sets ≡ sets_size (row_count rows) → Emptied (length sets) b → Untold n said table b
  untold-blank n sets b en long e = subst (λ (v : ℕ). Untold v said table b) (sym en) (untold sets b long e)

  module _ (c d e : List ℕ) (t : Telling (row_count rows) said table (said_count said) c) (p : Placed (row_count rows) rows table (row_count rows) c d)
      (s : Spread (row_count rows) rows table d e) where
    inner : {i : ℕ} → i < length (rows_of rows) → i < row_count rows
    inner h = omega (arith, length-rows rows)

    counted : (r k : ℕ) → r < row_count rows → k < arg_count (rows_of rows) r → k < count_in rows r
    counted r k h l = omega (arith, arg-count rows laid r h)

    class-is : (r k : ℕ) → r < row_count rows → k < count_in rows r → rep_at table (arg_of (rows_of rows) r k) ≡ arg_class rows table r k
    class-is r k h l = ap (rep_at table) (arg_is rows laid r k h l)

    symbol-is : (r : ℕ) → r < row_count rows → (row_at (rows_of rows) r).symbol ≡ symbol_in rows r
    symbol-is r h = ap (λ (x : Row). x.symbol) (rows-at rows r h)

    overs : Over (rows_of rows) (rep_at table) (over_at (row_count rows) e)
    overs =
        record {
          each = λ r k h l.
              let u : k < count_in rows r = counted r k (inner h) l in
              ap (λ (v : ℕ). over_at (row_count rows) e v r) (class-is r k (inner h) u) ∙ s.more.grown _ _ (p.over r (inner h) k u);
        }

    beside_at_lem : (r q k : ℕ) → r < row_count rows → q < row_count rows → symbol_in rows r ≡ symbol_in rows q → count_in rows r ≡ count_in rows q → k < count_in rows r
        → Dec (q < r) → beside_at (row_count rows) d (arg_class rows table r k) (arg_class rows table q k) ≡ true
    beside_at_lem r q k h i es ec l (yes m) = ((p.beside r h q (omega arith)).each es ec k l).0
    beside_at_lem r q k h i es ec l (no m) = ((p.beside q i r (omega arith)).each (sym es) (sym ec) k (omega arith)).1

    besides : Beside (rows_of rows) (rep_at table) (beside_at (row_count rows) e)
    besides =
        record {
          each = λ r q k h i es ec l.
              let u : k < count_in rows r = counted r k (inner h) l in
              let en : count_in rows r ≡ count_in rows q = sym (arg-count rows laid r (inner h)) ∙ ec ∙ arg-count rows laid q (inner i) in
              ap₂ (beside_at (row_count rows) e) (class-is r k (inner h) u) (class-is q k (inner i) (omega arith))
              ∙ s.more.grown _ _
              (beside_at_lem r q k (inner h) (inner i) (sym (symbol-is r (inner h)) ∙ es ∙ symbol-is q (inner i)) en u (dec_lt q r));
        }

    told-all : (a b : ℕ) → apart_by (rep_at table) (differences_of (each (statement_in said) (said_count said))) a b ≡ apart_by (rep_at table) (differences (context_of rows said)) a b
    unfolding statements_of
    told-all a b = refl

    apart-is : (a b : ℕ) → a < row_count rows → b < row_count rows → apart_at (row_count rows) e a b ≡ apart_by (rep_at table) (differences (context_of rows said)) a b
    apart-is a b ha hb = s.more.apart a b ha hb ∙ p.more.apart a b ha hb ∙ t.apart a b ha hb ∙ told-all a b

    stated : (k : ℕ) → k < length (differences (context_of rows said))
        → apart_by (rep_at table) (differences (context_of rows said)) (rep_at table (left_at (differences (context_of rows said)) k)) (rep_at table (right_at (differences (context_of rows said)) k)) ≡ true
    stated k h = (apart_by-true (rep_at table) (differences (context_of rows said)) _ _).1 (k, h, inl (refl, refl))

    sides : (a b : ℕ) → apart_by (rep_at table) (differences (context_of rows said)) a b ≡ true → (live_at (row_count rows) e a ≡ true) × (live_at (row_count rows) e b ≡ true)
    sides a b h =
        let w : (a < row_count rows) × (b < row_count rows) = t.rows a b (told-all a b ∙ h) in
        let u : apart_at (row_count rows) c a b ≡ true = t.apart a b w.0 w.1 ∙ told-all a b ∙ h in (
          s.more.grown _ _ (p.more.grown _ _ (t.sided.left a b w.0 w.1 u)),
          s.more.grown _ _ (p.more.grown _ _ (t.sided.right a b w.0 w.1 u)),
        )

    lives : Live (rows_of rows) (differences (context_of rows said)) (rep_at table) (live_at (row_count rows) e)
    lives =
        record {
          left = λ k h. (sides _ _ (stated k h)).0;
          right = λ k h. (sides _ _ (stated k h)).1;
          under = λ r k h l live.
              let u : k < count_in rows r = counted r k (inner h) l in
              ap (live_at (row_count rows) e) (class-is r k (inner h) u) ∙ (s.under r (inner h)).each live k u;
        }

    prepared : Prepared rows said table e
    prepared = record { over = overs; beside = besides; live = lives; apart = apart-is }

  pub prepared-so : (n : ℕ) (c e : List ℕ) → n ≡ row_count rows → Telling n said table (said_count said) c → Connected n rows table c e → Prepared rows said table e
  prepared-so n c e en t k =
      prepared c k.between e (subst (λ (v : ℕ). Telling v said table (said_count said) c) en t) (subst (λ (v : ℕ). Placed v rows table v c k.between) en k.placed)
      (subst (λ (v : ℕ). Spread v rows table k.between e) en k.spread)

pub ruleset mine = (
  rules,
  row_inside,
  row-arg,
  args-start,
  args-pair,
  args-step,
  args-done,
  row-few,
  row_room,
  row-class,
  row-dead,
  row-live,
  pass-start,
  pass-row,
  pass_step,
  pass-done,
  spread-base,
  more-none,
  spread-again,
  spread-less,
  spread-done,
  placed-base,
  connected-so,
)

pub ruleset whole = (rules, untold-blank, told-base, prepared-so)
