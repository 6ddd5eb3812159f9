-- The sets of a context, row by row and statement by statement.
--     base-few .. two-other          what the parts ask of rows, classes and sets
--     arg-so                         the class of an argument
--     over-start .. over_done        one row over its arguments
--     beside-start .. beside-done    the arguments of two rows beside each other, and a row with each up to itself
--     place-start .. place-done      each row
--     tell-same .. tell-done         the statements
-- Assumes nothing.
use mathlib.Core.Bool.{Bool, true, false, ◌&&◌, ◌||◌, not}
use mathlib.Core.List.{List, [], ◌∷◌, ◌++◌}
use mathlib.Core.Path.{◌≡◌, refl, ap, ap₂, sym, ◌∙◌, subst}
use mathlib.Core.Logic.{◌⊎◌, inl, inr, ⊎_elim}
use Prim.Native.Nat.{ℕ, suc, ◌+◌, ◌*◌, ◌≤◌, ◌<◌}
use native.Mathlib.Omega.{arith}
use native.Mathlib.Decide.{dec_lt}
use borrow.Author.Rules.{rules}
use borrow.Author.Tests.{eqb-true, eqb-false, eq-eqb, ne_eqb, not-true, not-false}
use lib.Dec.{eqb}
use lib.ListN.{length, get_or}
use Rattle.meaning.specs.Context.{Row, Statement, same, differ, differences_of, row_at}
use Rattle.meaning.specs.Columns.{statement_of}
use Rattle.meaning.specs.Equality.{rep_at}
use Rattle.meaning.specs.ByTable.{apart_by}
use Rattle.meaning.proofs.Logic.{false-true, or_cases}
use Rattle.meaning.proofs.Lists.{below_at}
use Rattle.runs.specs.Limits.{row_size, arg_places}
use Rattle.runs.specs.Runs.{each, row_count, said_count, symbol_in, count_in, arg_in, kind_in, left_in, right_in, statement_in, rows_of}
use Rattle.runs.proofs.Saying.{length-rows, rows-at, arg-at, row-length}
use Rattle.search_pairs.specs.Ready.{words_for, most_words, arg_of, arg_count, over_at, beside_at}
use Rattle.search_pairs.specs.Steps.{Laid}
use Rattle.search_pairs.specs.Prepare.{More, Base, RowIn, TwoRows, Matched, ArgIn, Pair, arg_class, ArgClass, OverPut, BesidePut, OverRow, BesideArgs, Alike, BesideIn, BesideRows, BesideRow, RowPlaced, Placed, Telling, Told, Untold, ApartPut}
use Rattle.search_pairs.proofs.Putting.{more-none, more-then, ways}

-- ---- rows

pub base-few : {n : ℕ} {rows table : List ℕ} {len : ℕ} → Base n rows table len → words_for n ≤ most_words
base-few b = subst (λ (v : ℕ). words_for v ≤ most_words) (sym b.count) b.laid.room

pub base-later : {n : ℕ} {rows table : List ℕ} {old new : List ℕ} → Base n rows table (length old) → More n old new → Base n rows table (length new)
base-later b m = record { count = b.count; laid = b.laid; inside = b.inside; long = m.long ∙ b.long }

pub row_inside : (n : ℕ) (rows table : List ℕ) (len r : ℕ) → RowIn n rows table len r → r < row_count rows
row_inside n rows table len r w = omega (arith, w.row, w.base.count)

pub two-row : (n : ℕ) (rows table : List ℕ) (len r s : ℕ) → TwoRows n rows table len r s → r < row_count rows
two-row n rows table len r s w = omega (arith, w.row, w.base.count)

pub two-other : (n : ℕ) (rows table : List ℕ) (len r s : ℕ) → TwoRows n rows table len r s → s < row_count rows
two-other n rows table len r s w = omega (arith, w.other, w.base.count)

-- how many arguments a row has, and which
pub arg-count : (rows : List ℕ) → Laid rows → (r : ℕ) → r < row_count rows → arg_count (rows_of rows) r ≡ count_in rows r
arg-count rows laid r h = ap (λ (x : Row). length x.args) (rows-at rows r h) ∙ row-length rows r h (laid.few r h)

pub arg_is : (rows : List ℕ) → Laid rows → (r k : ℕ) → r < row_count rows → k < count_in rows r → arg_of (rows_of rows) r k ≡ arg_in rows r k
arg_is rows laid r k h l = ap (λ (x : Row). get_or x.args k 0) (rows-at rows r h) ∙ arg-at rows (r * row_size + 2) (count_in rows r) k l (laid.few r h)

arg-below : (rows : List ℕ) → Laid rows → (r k : ℕ) → r < row_count rows → k < count_in rows r → arg_in rows r k < r
arg-below rows laid r k h l =
    omega
    (arith, arg_is rows laid r k h l, below_at r (row_at (rows_of rows) r).args (laid.ordered r (omega (arith, length-rows rows))) k (omega (arith, arg-count rows laid r h)))

pub arg-asks : (n : ℕ) (rows table : List ℕ) (r k : ℕ) → ArgIn n rows table r k → (r < row_count rows) × (k < arg_places)
arg-asks n rows table r k w =
    let h : r < row_count rows = omega (arith, w.row, w.count) in
    (h, omega (arith, w.place, w.laid.few r h))

pub arg-so : (n : ℕ) (rows table : List ℕ) (r k a x : ℕ) → ArgIn n rows table r k → a ≡ arg_in rows r k → x ≡ rep_at table a → ArgClass n rows table r k x
arg-so n rows table r k a x w ea ex =
    let h : r < row_count rows = omega (arith, w.row, w.count) in
    record { so = ex ∙ ap (rep_at table) ea; inside = omega (arith, w.inside.each a (omega (arith, arg-below rows w.laid r k h w.place, w.row))) }

-- ---- one row over its arguments

module _ (n : ℕ) (rows table : List ℕ) (r : ℕ) where
  pub over-start : (sets : List ℕ) → OverRow n rows table r 0 sets sets
  over-start sets = record { more = more-none n sets; each = λ k h. absurd (omega arith) }

  pub row-arg : (len k count : ℕ) → RowIn n rows table len r → count ≡ count_in rows r → k < count → ArgIn n rows table r k
  row-arg len k count w e h =
      record { count = w.base.count; laid = w.base.laid; inside = w.base.inside; row = w.row; place = omega arith }

  pub over-pair : (old new : List ℕ) (k x : ℕ) → RowIn n rows table (length old) r → OverRow n rows table r k old new → ArgClass n rows table r k x → Pair n (length new) x r
  over-pair old new k x w o a =
      record { few = base-few w.base; long = o.more.long ∙ w.base.long; left = a.inside; right = w.row }

  pub over-step : (old new new' : List ℕ) (k x : ℕ) → OverRow n rows table r k old new → ArgClass n rows table r k x → OverPut n x r new new'
      → OverRow n rows table r (k + 1) old new'
  over-step old new new' k x o a p = record { more = more-then o.more p.more; each = λ i h. go i h (dec_lt i k) }
    where
      go : (i : ℕ) → i < k + 1 → Dec (i < k) → over_at n new' (arg_class rows table r i) r ≡ true
      go i h (yes l) = p.more.grown _ _ (o.each i l)
      go i h (no l) =
          let z : i ≡ k = omega arith in
          rw z (subst (λ (v : ℕ). over_at n new' v r ≡ true) a.so p.here)

  pub over_done : (old new : List ℕ) (k count : ℕ) → OverRow n rows table r k old new → count ≡ count_in rows r → count ≤ k
      → OverRow n rows table r (count_in rows r) old new
  over_done old new k count o e h = record { more = o.more; each = λ i l. o.each i (omega arith) }

-- ---- two rows beside each other

module _ (n : ℕ) (rows table : List ℕ) (r s : ℕ) where
  pub beside-start : (sets : List ℕ) → BesideArgs n rows table r s 0 sets sets
  beside-start sets = record { more = more-none n sets; there = λ k h. absurd (omega arith); back = λ k h. absurd (omega arith) }

  pub matched-row : (len : ℕ) → Matched n rows table len r s → r < row_count rows
  matched-row len w = two-row n rows table len r s w.two

  module _ (len k count : ℕ) (w : Matched n rows table len r s) (e : count ≡ count_in rows r) (h : k < count) where
    pub two-arg : ArgIn n rows table r k
    two-arg = record { count = w.two.base.count; laid = w.two.base.laid; inside = w.two.base.inside; row = w.two.row; place = omega arith }

    pub two-arg-other : ArgIn n rows table s k
    two-arg-other = record { count = w.two.base.count; laid = w.two.base.laid; inside = w.two.base.inside; row = w.two.other; place = omega (arith, w.counts) }

  pub beside-pair : (old new : List ℕ) (k x y : ℕ) → Matched n rows table (length old) r s → BesideArgs n rows table r s k old new
      → ArgClass n rows table r k x → ArgClass n rows table s k y → Pair n (length new) x y
  beside-pair old new k x y w o a b =
      record { few = base-few w.two.base; long = o.more.long ∙ w.two.base.long; left = a.inside; right = b.inside }

  pub beside-step : (old new new' : List ℕ) (k x y : ℕ) → BesideArgs n rows table r s k old new
      → ArgClass n rows table r k x → ArgClass n rows table s k y → BesidePut n x y new new' → BesideArgs n rows table r s (k + 1) old new'
  beside-step old new new' k x y o a b p =
      record { more = more-then o.more p.more; there = λ i h. go i h (dec_lt i k); back = λ i h. turned i h (dec_lt i k) }
    where
      go : (i : ℕ) → i < k + 1 → Dec (i < k) → beside_at n new' (arg_class rows table r i) (arg_class rows table s i) ≡ true
      go i h (yes l) = p.more.grown _ _ (o.there i l)
      go i h (no l) =
          let z : i ≡ k = omega arith in
          rw z (ap₂ (beside_at n new') (sym a.so) (sym b.so) ∙ p.there)

      turned : (i : ℕ) → i < k + 1 → Dec (i < k) → beside_at n new' (arg_class rows table s i) (arg_class rows table r i) ≡ true
      turned i h (yes l) = p.more.grown _ _ (o.back i l)
      turned i h (no l) =
          let z : i ≡ k = omega arith in
          rw z (ap₂ (beside_at n new') (sym b.so) (sym a.so) ∙ p.back)

  pub beside-done : (old new : List ℕ) (k count : ℕ) → BesideArgs n rows table r s k old new → count ≡ count_in rows r → count ≤ k
      → BesideArgs n rows table r s (count_in rows r) old new
  beside-done old new k count o e h = record { more = o.more; there = λ i l. o.there i (omega arith); back = λ i l. o.back i (omega arith) }

  module _ (b : Bool) (a : Alike rows r s b) where
    pub beside_none : (sets : List ℕ) → not b ≡ true → BesideRows n rows table r s sets sets
    beside_none sets f = record { more = more-none n sets; here = record { each = λ e g k h. absurd (a.other (not-true b f) e g) } }

    pub beside-asks : (len : ℕ) → not b ≡ false → TwoRows n rows table len r s → Matched n rows table len r s
    beside-asks len f w = record { two = w; counts = a.counts (not-false b f) }

  pub beside-both : (old new : List ℕ) → BesideArgs n rows table r s (count_in rows r) old new → BesideRows n rows table r s old new
  beside-both old new o = record { more = o.more; here = record { each = λ e f k h. (o.there k h, o.back k h) } }

-- whether two rows are alike
module _ (rows : List ℕ) (r s : ℕ) (p q : ℕ) (ep : p ≡ symbol_in rows r) (eq : q ≡ symbol_in rows s) where
  pub alike-symbols : (p ≡ q → ⊥) → Alike rows r s false
  alike-symbols d = record { counts = λ z. false-true z refl; other = λ _ e f. d (ep ∙ e ∙ sym eq) }

pub alike-counts : (rows : List ℕ) (r s p q : ℕ) → p ≡ count_in rows r → q ≡ count_in rows s → Alike rows r s (eqb p q)
alike-counts rows r s p q ep eq =
    record { counts = λ z. sym ep ∙ eqb-true p q z ∙ eq; other = λ z e f. eqb-false p q z (ep ∙ f ∙ sym eq) }

-- what stands beside each other still does
beside-later : {n : ℕ} {rows table old new : List ℕ} {r s : ℕ} → More n old new → BesideIn n rows table old r s → BesideIn n rows table new r s
beside-later m b = record { each = λ e f k h. (m.grown _ _ (b.each e f k h).0, m.grown _ _ (b.each e f k h).1) }

module _ (n : ℕ) (rows table : List ℕ) (r : ℕ) where
  pub each_start : (sets : List ℕ) → BesideRow n rows table r 0 sets sets
  each_start sets = record { more = more-none n sets; each = λ s h. absurd (omega arith) }

  pub each_two : (old new : List ℕ) (s : ℕ) → RowIn n rows table (length old) r → BesideRow n rows table r s old new → s ≤ r → TwoRows n rows table (length new) r s
  each_two old new s w o h = record { base = base-later w.base o.more; row = w.row; other = omega (arith, w.row) }

  pub each_fits : (len s : ℕ) → RowIn n rows table len r → s ≤ r → s + 1 < 18446744073709551616
  each_fits len s w h = omega (arith, w.row, base-few w.base)

  pub each_step : (old new new' : List ℕ) (s : ℕ) → BesideRow n rows table r s old new → BesideRows n rows table r s new new' → BesideRow n rows table r (s + 1) old new'
  each_step old new new' s o p = record { more = more-then o.more p.more; each = λ i h. go i h (dec_lt i s) }
    where
      go : (i : ℕ) → i < s + 1 → Dec (i < s) → BesideIn n rows table new' r i
      go i h (yes l) = beside-later p.more (o.each i l)
      go i h (no l) =
          let z : i ≡ s = omega arith in
          subst (λ (v : ℕ). BesideIn n rows table new' r v) (sym z) p.here

  pub each-done : (old new : List ℕ) (s : ℕ) → BesideRow n rows table r s old new → r < s → BesideRow n rows table r (r + 1) old new
  each-done old new s o h = record { more = o.more; each = λ i l. o.each i (omega arith) }

-- ---- each row

module _ (n : ℕ) (rows table : List ℕ) (r : ℕ) where
  pub row_next : (a b : List ℕ) (count : ℕ) → RowIn n rows table (length a) r → OverRow n rows table r count a b → RowIn n rows table (length b) r
  row_next a b count w o = record { base = base-later w.base o.more; row = w.row }

  pub row-placed : (a b c : List ℕ) → OverRow n rows table r (count_in rows r) a b → BesideRow n rows table r (r + 1) b c → RowPlaced n rows table r a c
  row-placed a b c o q =
      record { more = more-then o.more q.more; over = λ k l. q.more.grown _ _ (o.each k l); beside = λ s l. q.each s (omega arith) }

module _ (n : ℕ) (rows table : List ℕ) where
  pub place-start : (sets : List ℕ) → Placed n rows table 0 sets sets
  place-start sets = record { more = more-none n sets; over = λ r h. absurd (omega arith); beside = λ r h. absurd (omega arith) }

  module _ (a b : List ℕ) (r : ℕ) (w : Base n rows table (length a)) (p : Placed n rows table r a b) where
    pub place-row : r < n → RowIn n rows table (length b) r
    place-row h = record { base = base-later w p.more; row = h }

  pub place-step : (a b d : List ℕ) (r : ℕ) → Placed n rows table r a b → RowPlaced n rows table r b d → Placed n rows table (r + 1) a d
  place-step a b d r p q =
      record { more = more-then p.more q.more; over = λ i h k l. go i h (dec_lt i r) k l; beside = λ i h s l. both i h s l (dec_lt i r) }
    where
      go : (i : ℕ) → i < r + 1 → Dec (i < r) → (k : ℕ) → k < count_in rows i → over_at n d (arg_class rows table i k) i ≡ true
      go i h (yes m) = λ k l. q.more.grown _ _ (p.over i m k l)
      go i h (no m) =
          let z : i ≡ r = omega arith in
          subst (λ (v : ℕ). (k : ℕ) → k < count_in rows v → over_at n d (arg_class rows table v k) v ≡ true) (sym z) q.over

      both : (i : ℕ) → i < r + 1 → (s : ℕ) → s ≤ i → Dec (i < r) → BesideIn n rows table d i s
      both i h s l (yes m) = beside-later q.more (p.beside i m s l)
      both i h s l (no m) =
          let z : i ≡ r = omega arith in
          subst (λ (v : ℕ). BesideIn n rows table d v s) (sym z) (q.beside s (omega arith))

  pub place-done : (a b : List ℕ) (r : ℕ) → Placed n rows table r a b → n ≤ r → Placed n rows table n a b
  place-done a b r p h = record { more = p.more; over = λ i l. p.over i (omega arith); beside = λ i l. p.beside i (omega arith) }

-- ---- statements

differences-append : (a b : List Statement) → differences_of (a ++ b) ≡ differences_of a ++ differences_of b
unfolding differences_of
differences-append [] b = refl
differences-append (same p q ∷ a) b = differences-append a b
differences-append (differ p q ∷ a) b = ap ((p, q) ∷◌) (differences-append a b)

or-together : (a b c : Bool) → (a || (b || c)) ≡ ((a || b) || c)
or-together true b c = refl
or-together false b c = refl

apart-append : (rep : ℕ → ℕ) (ds es : List (ℕ × ℕ)) (a b : ℕ) → apart_by rep (ds ++ es) a b ≡ (apart_by rep ds a b || apart_by rep es a b)
unfolding apart_by
apart-append rep [] es a b = refl
apart-append rep (d ∷ ds) es a b =
    ap (λ (v : Bool). ((eqb a (rep d.0) && eqb b (rep d.1)) || (eqb b (rep d.0) && eqb a (rep d.1))) || v) (apart-append rep ds es a b)
    ∙ or-together ((eqb a (rep d.0) && eqb b (rep d.1)) || (eqb b (rep d.0) && eqb a (rep d.1))) (apart_by rep ds a b) (apart_by rep es a b)

-- one statement more
apart_next : (rep : ℕ → ℕ) (said : List ℕ) (k a b : ℕ)
    → apart_by rep (differences_of (each (statement_in said) (k + 1))) a b ≡ (apart_by rep (differences_of (each (statement_in said) k)) a b || apart_by rep (differences_of (statement_in said k ∷ [])) a b)
unfolding each
apart_next rep said k a b =
    let z : k + 1 ≡ suc k = omega arith in
    ap (λ (v : ℕ). apart_by rep (differences_of (each (statement_in said) v)) a b) z
    ∙ ap (λ (l : List (ℕ × ℕ)). apart_by rep l a b) (differences-append (each (statement_in said) k) (statement_in said k ∷ []))
    ∙ apart-append rep (differences_of (each (statement_in said) k)) (differences_of (statement_in said k ∷ [])) a b

says-equal : (rep : ℕ → ℕ) (said : List ℕ) (k a b : ℕ) → kind_in said k ≡ 2 → apart_by rep (differences_of (statement_in said k ∷ [])) a b ≡ false
unfolding statement_of differences_of apart_by
says-equal rep said k a b e = rw (eq-eqb (kind_in said k) 2 e, statement_of)

says-apart : (rep : ℕ → ℕ) (said : List ℕ) (k a b x y : ℕ) → (kind_in said k ≡ 2 → ⊥) → x ≡ rep (left_in said k) → y ≡ rep (right_in said k)
    → apart_by (λ v. v) ((x, y) ∷ []) a b ≡ apart_by rep (differences_of (statement_in said k ∷ [])) a b
unfolding statement_of differences_of apart_by
says-apart rep said k a b x y d ex ey = rw (ne_eqb (kind_in said k) 2 d, statement_of, ex, ey)

or-false : (a b : Bool) → b ≡ false → (a || b) ≡ a
or-false true b e = refl
or-false false b e = e

module _ (n : ℕ) (said table : List ℕ) (k : ℕ) (sets : List ℕ) (w : Told n said table k sets) where
  pub told-statement : k < said_count said
  told-statement = w.statement

  pub tell-same : (c : Bool) → c ≡ eqb (kind_in said k) 2 → c ≡ true → Telling n said table (k + 1) sets
  tell-same c ec e =
      record {
        long = w.told.long;
        sided = w.told.sided;
        apart = λ a b ha hb. w.told.apart a b ha hb ∙ sym (as_before a b);
        rows = λ a b h. w.told.rows a b (sym (as_before a b) ∙ h);
      }
    where
      as_before : (a b : ℕ) → apart_by (rep_at table) (differences_of (each (statement_in said) (k + 1))) a b ≡ apart_by (rep_at table) (differences_of (each (statement_in said) k)) a b
      as_before a b = apart_next (rep_at table) said k a b ∙ or-false _ _ (says-equal (rep_at table) said k a b (eqb-true _ _ (sym ec ∙ e)))

  module _ (l r x y : ℕ) (el : l ≡ left_in said k) (er : r ≡ right_in said k) (ex : x ≡ rep_at table l) (ey : y ≡ rep_at table r) where
    pub tell-pair : Pair n (length sets) x y
    tell-pair =
        record {
          few = w.few;
          long = w.told.long;
          left = omega (arith, w.inside.each l (omega (arith, (w.named.each k w.statement).left)));
          right = omega (arith, w.inside.each r (omega (arith, (w.named.each k w.statement).right)));
        }

    pub tell-apart : (c : Bool) (new : List ℕ) → c ≡ eqb (kind_in said k) 2 → c ≡ false → ApartPut n x y sets new → Telling n said table (k + 1) new
    tell-apart c new ec d p =
        record {
          long = p.long ∙ w.told.long;
          sided = p.sided w.told.sided;
          apart = λ a b ha hb. p.apart a b ha hb ∙ ap₂ (λ (u v : Bool). u || v) (w.told.apart a b ha hb) (said-so a b) ∙ sym (apart_next (rep_at table) said k a b);
          rows = λ a b h. ⊎_elim (λ u. w.told.rows a b u) (λ u. inner a b (ways x y a b (said-so a b ∙ u))) (or_cases _ _ (sym (apart_next (rep_at table) said k a b) ∙ h));
        }
      where
        said-so : (a b : ℕ) → apart_by (λ v. v) ((x, y) ∷ []) a b ≡ apart_by (rep_at table) (differences_of (statement_in said k ∷ [])) a b
        said-so a b = says-apart (rep_at table) said k a b x y (eqb-false _ _ (sym ec ∙ d)) (ex ∙ ap (rep_at table) el) (ey ∙ ap (rep_at table) er)

        inner : (a b : ℕ) → ((a ≡ x) × (b ≡ y)) ⊎ ((b ≡ x) × (a ≡ y)) → (a < n) × (b < n)
        inner a b (inl v) = (omega (arith, v.0, tell-pair.left), omega (arith, v.1, tell-pair.right))
        inner a b (inr v) = (omega (arith, v.1, tell-pair.right), omega (arith, v.0, tell-pair.left))

-- the first k of m statements are told
pub record Tells (n : ℕ) (said table : List ℕ) (m k : ℕ) (sets : List ℕ) : Type 0 where
  pub told : Telling n said table k sets
  pub most : k ≤ m

module _ (n : ℕ) (said table sets : List ℕ) (w : Untold n said table sets) (m : ℕ) where
  pub tells-start : Tells n said table m 0 sets
  tells-start = record { told = w.told; most = omega arith }

  module _ (em : m ≡ said_count said) where
    pub tells-asks : (k : ℕ) (now : List ℕ) → Tells n said table m k now → k < m → Told n said table k now
    tells-asks k now t h = record { few = w.few; inside = w.inside; named = w.named; statement = omega arith; told = t.told }

pub tells-step : (n : ℕ) (said table new : List ℕ) (m k : ℕ) → k < m → Telling n said table (k + 1) new → Tells n said table m (k + 1) new
tells-step n said table new m k h t = record { told = t; most = omega arith }

pub tells-done : (n : ℕ) (said table sets : List ℕ) (m k : ℕ) → Tells n said table m k sets → m ≡ said_count said → m ≤ k → Telling n said table (said_count said) sets
tells-done n said table sets m k t e h = let z : k ≡ said_count said = omega (arith, t.most) in subst (λ (v : ℕ). Telling n said table v sets) z t.told

pub ruleset mine = (
  rules,
  row_inside,
  two-row,
  two-other,
  arg-asks,
  arg-so,
  over-start,
  row-arg,
  over-pair,
  over-step,
  over_done,
  beside-start,
  matched-row,
  two-arg,
  two-arg-other,
  beside-pair,
  beside-step,
  beside-done,
  beside_none,
  beside-asks,
  beside-both,
  alike-symbols,
  alike-counts,
  each_start,
  each_two,
  each_fits,
  each_step,
  each-done,
  row_next,
  row-placed,
  place-start,
  place-row,
  place-step,
  place-done,
  told-statement,
  tell-same,
  tell-pair,
  tell-apart,
  tells-start,
  tells-asks,
  tells-step,
  tells-done,
)
