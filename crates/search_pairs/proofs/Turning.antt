-- One equation followed, step by step.
--     labelled-joined, joined-less      labels after a join, and how much is left
--     turn-meets, blank-meets           what joining two labels asks, at a row and at the start
--     turn-none, turn-met               a row that nothing agrees with; two labels joined, or members kept apart
--     Going                             what holds between two steps
-- Assumes nothing.
use mathlib.Core.Bool.{Bool, true, false, not, ◌&&◌}
use mathlib.Core.List.{List, ◌∷◌}
use mathlib.Core.Path.{◌≡◌, refl, ap, sym, ◌∙◌, subst}
use mathlib.Core.Logic.{◌⊎◌, inl, inr, ⊎_elim}
use Prim.Native.Nat.{ℕ, suc, ◌+◌, ◌*◌, ◌≤◌, ◌<◌}
use native.Mathlib.Nat.{mul-le-mul_right, suc-mul}
use native.Mathlib.Omega.{arith}
use borrow.Author.Rules.{rules}
use borrow.Author.Tests.{ne_eqb, eq-eqb}
use lib.Dec.{eqb}
use lib.ListN.{length}
use Rattle.meaning.specs.Context.{row_at, term_at, equations, differences}
use Rattle.meaning.specs.Equality.{Equal, rep_at}
use Rattle.meaning.specs.ByTable.{apart_by}
use Rattle.meaning.specs.Closing.{move, total}
use Rattle.meaning.specs.Following.{differ_by}
use Rattle.meaning.proofs.Logic.{false-true, and-true-left, and_both, and-false}
use Rattle.meaning.proofs.Lists.{below_at}
use Rattle.meaning.proofs.Apartness.{apart_by-symmetric}
use Rattle.meaning.proofs.FollowingClosing.{with-given}
use Rattle.meaning.proofs.Progress.{move-cases, total-lt}
use Rattle.bits.specs.Sets.{has, size}
use Rattle.bits.proofs.Words.{has_on}
use Rattle.bits.proofs.Members.{size-most, size_less}
use Rattle.runs.specs.Runs.{row_count, rows_of, context_of}
use Rattle.runs.proofs.Saying.{length-rows}
use Rattle.search_pairs.specs.Ready.{arg_of, arg_count, words_for, most_words, apart_at, Ready}
use Rattle.search_pairs.specs.Steps.{Meets, Two, Way, Space, Labelled, sets_size, Inside, Labels, label_by, marked_at, moved_at, Clashing, Joined, Meeting, ClassAt, NoClass, Partner, NoMate, remaining, Turned, SameSymbol, SameArgs, Blank, Ends, Followed, Laid, TurnAt}
use Rattle.search_pairs.proofs.Rows.{agree_by-true, agree_by-so}
use Rattle.search_pairs.proofs.Ways.{way-start, way-join, way-clash, way_equal, way-unmark, way-done}

-- ---- labels after a join

module _ {n : ℕ} {sets : List ℕ} {x y : ℕ} {labels work labels' work' : List ℕ} (laid : Labelled n labels work) (two : Labels n labels x y) (j : Joined n sets x y labels work labels' work') where
  lo-own : (j.lo < n) × (j.hi < n) × (rep_at labels j.lo ≡ j.lo) × (rep_at labels j.hi ≡ j.hi)
  lo-own =
      ⊎_elim
      (λ w. (rw (sym w.0) two.left, rw (sym w.1) two.right, rw (sym w.0) two.left-own, rw (sym w.1) two.right-own))
      (λ w. (rw (sym w.1) two.right, rw (sym w.0) two.left, rw (sym w.1) two.right-own, rw (sym w.0) two.left-own))
      j.two

  after : (a : ℕ) → a < n → ((rep_at labels a ≡ j.hi) × (rep_at labels' a ≡ j.lo)) ⊎ ((rep_at labels a ≡ j.hi → ⊥) × (rep_at labels' a ≡ rep_at labels a))
  after a h =
      ⊎_elim (λ c. inl (c.0, j.moves.so a h ∙ c.1)) (λ c. inr (c.0, j.moves.so a h ∙ c.1)) (move-cases j.lo j.hi (rep_at labels a))

  after-le : (a : ℕ) → a < n → rep_at labels' a ≤ rep_at labels a
  after-le a h = ⊎_elim (λ c. omega (arith, j.less, c.0, c.1)) (λ c. omega (arith, c.1)) (after a h)

  after-lo : rep_at labels' j.lo ≡ j.lo
  after-lo = ⊎_elim (λ c. c.1) (λ c. c.1 ∙ lo-own.2) (after j.lo lo-own.0)

  pub labelled-joined : Labelled n labels' work'
  labelled-joined =
      record {
        low = λ a h. omega (arith, after-le a h, laid.low a h);
        own = λ a h. owns a h (after a h);
        moved = λ a h. known a h (after a h) (laid.moved a h);
      }
    where
      owns : (a : ℕ) → a < n → ((rep_at labels a ≡ j.hi) × (rep_at labels' a ≡ j.lo)) ⊎ ((rep_at labels a ≡ j.hi → ⊥) × (rep_at labels' a ≡ rep_at labels a))
          → rep_at labels' (rep_at labels' a) ≡ rep_at labels' a
      owns a h (inl c) = rw c.1 after-lo
      owns a h (inr c) =
          rw c.1
          (⊎_elim (λ d. absurd (c.0 (sym (laid.own a h) ∙ d.0))) (λ d. d.1 ∙ laid.own a h) (after (rep_at labels a) (omega (arith, laid.low a h))))

      known : (a : ℕ) → a < n → ((rep_at labels a ≡ j.hi) × (rep_at labels' a ≡ j.lo)) ⊎ ((rep_at labels a ≡ j.hi → ⊥) × (rep_at labels' a ≡ rep_at labels a))
          → (rep_at labels a ≡ a) ⊎ (moved_at n work a ≡ true) → (rep_at labels' a ≡ a) ⊎ (moved_at n work' a ≡ true)
      known a h c (inr e) = inr (j.others a e)
      known a h (inl c) (inl e) = inr (subst (λ (v : ℕ). moved_at n work' v ≡ true) (sym c.0 ∙ e) j.known)
      known a h (inr c) (inl e) = inl (c.1 ∙ e)

  pub joined-less : remaining n labels' work' < remaining n labels work
  unfolding remaining
  joined-less =
      let f : total n (rep_at labels') < total n (rep_at labels) =
      total-lt n (rep_at labels') (rep_at labels) after-le j.hi lo-own.1
      (⊎_elim (λ c. omega (arith, j.less, c.0, c.1)) (λ c. absurd (c.0 lo-own.3)) (after j.hi lo-own.1)) in
      falls (total n (rep_at labels')) (total n (rep_at labels)) (words_for n * 64) (size (words_for n * 64) (marked_at work')) (size (words_for n * 64) (marked_at work)) f
      (size-most (words_for n * 64) (marked_at work'))
    where
      falls : (a b k s t : ℕ) → a < b → s ≤ k → a * suc k + s < b * suc k + t
      falls a b k s t h l = omega (arith, mul-le-mul_right {m = suc a} {n = b} (suc k) h, suc-mul a (suc k))

pub space-joined : (n : ℕ) (sets : List ℕ) (x y : ℕ) (labels work labels' work' : List ℕ) → Space n labels work → Joined n sets x y labels work labels' work' → Space n labels' work'
space-joined n sets x y labels work labels' work' s j =
    record { few = s.few; labels-long = j.moves.long ∙ s.labels-long; work-long = j.long ∙ s.work-long }

-- ---- labels joined on the way

module _ (rows said table sets : List ℕ) (ready : Ready rows said table sets) (i j : ℕ) (hi : i < row_count rows) (hj : j < row_count rows) (labels work : List ℕ)
    (way : Way (context_of rows said) (rep_at table) i j (rep_at labels) (marked_at work)) (p q : ℕ) (hp : p < row_count rows) (hq : q < row_count rows) where
  inner : {a : ℕ} → a < row_count rows → a < length (rows_of rows)
  inner h = omega (arith, length-rows rows)

  outer : {a : ℕ} → a < length (rows_of rows) → a < row_count rows
  outer h = omega (arith, length-rows rows)

  module _ (same : Equal (rows_of rows) ((i, j) ∷ equations (context_of rows said)) (term_at (rows_of rows) p) (term_at (rows_of rows) q)) (x y : ℕ)
      (ex : x ≡ label_by table labels p) (ey : y ≡ label_by table labels q) where
    pub met-way : (labels' work' : List ℕ) → Clashing (row_count rows) sets labels x y false → Joined (row_count rows) sets x y labels work labels' work'
        → Way (context_of rows said) (rep_at table) i j (rep_at labels') (marked_at work')
    met-way labels' work' clear join =
        way-join (context_of rows said) ready.fit ready.free (rep_at table) ready.classes i j (inner hi) (inner hj) (rep_at labels) (marked_at work) way
        p q (inner hp) (inner hq) same join.lo join.hi (subst (λ (v : ℕ). Two join.lo join.hi (label_by table labels p) v) ey (subst (λ (v : ℕ). Two join.lo join.hi v y) ex join.two))
        join.less (rep_at labels') (marked_at work')
        (λ a h. join.moves.so a (outer h))
        (λ r h e. join.kept r e)
        reached
        parts
      where
        label_inside : (r k : ℕ) → r < row_count rows → k < arg_count (rows_of rows) r → rep_at table (arg_of (rows_of rows) r k) < row_count rows
        label_inside r k h l =
            outer (ready.classes (arg_of (rows_of rows) r k) (omega (arith, below_at r (row_at (rows_of rows) r).args (ready.fit.ordered r (inner h)) k l, length-rows rows))).row

        mark : (r k : ℕ) → r < row_count rows → k < arg_count (rows_of rows) r → label_by table labels (arg_of (rows_of rows) r k) ≡ join.picked → marked_at work' r ≡ true
        mark r k h l e = join.reached (rep_at table (arg_of (rows_of rows) r k)) r (label_inside r k h l) h e (ready.prepared.over.each r k (inner h) l)

        reached : (r s k : ℕ) → r < length (rows_of rows) → s < length (rows_of rows) → (row_at (rows_of rows) r).symbol ≡ (row_at (rows_of rows) s).symbol
            → arg_count (rows_of rows) r ≡ arg_count (rows_of rows) s → k < arg_count (rows_of rows) r
            → Two join.lo join.hi (label_by table labels (arg_of (rows_of rows) r k)) (label_by table labels (arg_of (rows_of rows) s k))
            → (marked_at work' r ≡ true) ⊎ (marked_at work' s ≡ true)
        reached r s k hr hs e f l (inl w) =
            ⊎_elim (λ o. inl (mark r k (outer hr) l (w.0 ∙ sym o))) (λ o. inr (mark s k (outer hs) (omega arith) (w.1 ∙ sym o))) join.one
        reached r s k hr hs e f l (inr w) =
            ⊎_elim (λ o. inr (mark s k (outer hs) (omega arith) (w.1 ∙ sym o))) (λ o. inl (mark r k (outer hr) l (w.0 ∙ sym o))) join.one

        parts : (a b : ℕ) → a < length (rows_of rows) → b < length (rows_of rows) → rep_at labels a ≡ join.lo → rep_at labels b ≡ join.hi
            → apart_by (rep_at table) (differences (context_of rows said)) a b ≡ false
        parts a b ha hb ea eb =
            ⊎_elim
            (λ w. sym (ready.prepared.apart a b (outer ha) (outer hb)) ∙ clear.clear refl a b (outer ha) (outer hb) (ea ∙ sym w.0) (eb ∙ sym w.1))
            (λ w.
            apart_by-symmetric (rep_at table) (differences (context_of rows said)) a b
            ∙ sym (ready.prepared.apart b a (outer hb) (outer ha))
            ∙ clear.clear refl b a (outer hb) (outer ha) (eb ∙ sym w.0) (ea ∙ sym w.1))
            join.two

    pub met-clash : Clashing (row_count rows) sets labels x y true → differ_by (context_of rows said) i j ≡ true
    met-clash k =
        let w : (a : ℕ) × (b : ℕ) × (a < row_count rows) × (b < row_count rows) × (rep_at labels a ≡ x) × (rep_at labels b ≡ y) × (apart_at (row_count rows) sets a b ≡ true) = k.found refl in
        way-clash (context_of rows said) ready.fit ready.free (rep_at table) ready.classes i j (inner hi) (inner hj) (rep_at labels) (marked_at work) way
        p q (inner hp) (inner hq) same x y (inl (sym ex, sym ey)) w.0 w.1 w.4 w.5 (sym (ready.prepared.apart w.0 w.1 w.2 w.3) ∙ w.6)

-- ---- the number of rows, as it was read

pub space-at : (n m : ℕ) (labels work : List ℕ) → n ≡ m → Space m labels work → Space n labels work
space-at n m labels work e s = subst (λ (v : ℕ). Space v labels work) (sym e) s

pub laid-at : (n m : ℕ) (labels work : List ℕ) → n ≡ m → Labelled m labels work → Labelled n labels work
laid-at n m labels work e s = subst (λ (v : ℕ). Labelled v labels work) (sym e) s

pub room_at : (n m len : ℕ) → n ≡ m → sets_size m ≤ len → sets_size n ≤ len
room_at n m len e h = subst (λ (v : ℕ). sets_size v ≤ len) (sym e) h

pub blank-labels : (n m : ℕ) (labels work : List ℕ) (x y : ℕ) → n ≡ m → Blank m labels work → Ends m x y → Labels n labels x y
blank-labels n m labels work x y e b d =
    record { left = omega (arith, d.left); right = omega (arith, d.right); left-own = b.own x d.left; right-own = b.own y d.right }

-- ---- one step

module _ (rows table sets labels work : List ℕ) (r : ℕ) (space : Space (row_count rows) labels work) (laid : Labelled (row_count rows) labels work) (hr : r < row_count rows)
    (mate : NoMate rows table sets labels r) where
  pub turn-none : (work' : List ℕ) → marked_at work r ≡ true
      → (length work' ≡ length work) × ((j : ℕ) → has work' 0 j ≡ (has work 0 j && not (eqb j r))) → Turned rows table sets labels work labels work' false
  unfolding remaining
  turn-none work' m out =
      record {
        space = record { few = space.few; labels-long = space.labels-long; work-long = out.0 ∙ space.work-long };
        laid = record { low = laid.low; own = laid.own; moved = λ a l. ⊎_elim (λ e. inl e) (λ e. inr (same a ∙ e)) (laid.moved a l) };
        less = λ _. omega (arith, fewer);
        grown = λ x y e _ _. e;
        way = λ said i j ready hi hj w _.
            way-unmark (context_of rows said) ready.fit ready.free (rep_at table) ready.classes i j (omega (arith, length-rows rows)) (omega (arith, length-rows rows))
            (rep_at labels) (marked_at work) w r (marked_at work')
            (λ t l e f. mate.none said ready t (omega (arith, length-rows rows)) (agree_by-so (label_by table labels) (rows_of rows) r t e f))
            (λ t l d e. out.1 t ∙ and_both (has work 0 t) (not (eqb t r)) e (ap not (ne_eqb t r d)));
        wider = λ said i j ready hi hj w z. false-true z refl;
      }
    where
      flat : (v : List ℕ) (a : ℕ) → moved_at (row_count rows) v a ≡ has v 0 (words_for (row_count rows) * 64 + a)
      flat v a = ap (λ (b : ℕ). has v b a) (omega arith) ∙ has_on v 0 (words_for (row_count rows)) a

      all : (b : Bool) → (b && not false) ≡ b
      all true = refl
      all false = refl

      same : (a : ℕ) → moved_at (row_count rows) work' a ≡ moved_at (row_count rows) work a
      same a =
          flat work' a
          ∙ out.1 (words_for (row_count rows) * 64 + a)
          ∙ ap (λ (b : Bool). has work 0 (words_for (row_count rows) * 64 + a) && not b) (ne_eqb (words_for (row_count rows) * 64 + a) r (λ e. omega arith))
          ∙ all (has work 0 (words_for (row_count rows) * 64 + a))
          ∙ sym (flat work a)

      gone : has work' 0 r ≡ false
      gone = out.1 r ∙ ap (λ (b : Bool). has work 0 r && not b) (eq-eqb r r refl) ∙ and-false (has work 0 r)

      fewer : size (words_for (row_count rows) * 64) (marked_at work') < size (words_for (row_count rows) * 64) (marked_at work)
      fewer =
          size_less (words_for (row_count rows) * 64) (marked_at work) (marked_at work') r
          (λ t e. and-true-left (has work 0 t) (not (eqb t r)) (sym (out.1 t) ∙ e))
          (omega arith)
          m
          gone

module _ (rows table sets labels work : List ℕ) (r s : ℕ) (space : Space (row_count rows) labels work) (laid : Labelled (row_count rows) labels work) (hr : r < row_count rows)
    (mate : Partner rows table labels r s) where
  pub turn-labels : (n x y : ℕ) → Inside (row_count rows) table → n ≡ row_count rows → x ≡ label_by table labels r → y ≡ label_by table labels s → Labels n labels x y
  turn-labels n x y inside en ex ey =
      record {
        left = omega (arith, en, ex, laid.low (rep_at table r) (inside.each r hr), inside.each r hr);
        right = omega (arith, en, ey, laid.low (rep_at table s) (inside.each s mate.inside), inside.each s mate.inside);
        left-own = rw ex (laid.own (rep_at table r) (inside.each r hr));
        right-own = rw ey (laid.own (rep_at table s) (inside.each s mate.inside));
      }

  pub turn-other : (x y : ℕ) → x ≡ label_by table labels r → y ≡ label_by table labels s → x ≡ y → ⊥
  turn-other x y ex ey e = mate.other (sym ex ∙ e ∙ ey)

  pub turn-meets : (n x y : ℕ) → Inside (row_count rows) table → sets_size (row_count rows) ≤ length sets → n ≡ row_count rows → x ≡ label_by table labels r → y ≡ label_by table labels s
      → Meets n sets labels work x y
  turn-meets n x y inside room en ex ey =
      record {
        space = space-at n (row_count rows) labels work en space;
        laid = laid-at n (row_count rows) labels work en laid;
        room = room_at n (row_count rows) (length sets) en room;
        labels-there = turn-labels n x y inside en ex ey;
        other = turn-other x y ex ey;
      }

  pub turn-met : (n x y : ℕ) (labels' work' : List ℕ) (b : Bool) → Inside (row_count rows) table → n ≡ row_count rows → x ≡ label_by table labels r → y ≡ label_by table labels s
      → Meeting n sets x y labels work labels' work' b → Turned rows table sets labels work labels' work' b
  turn-met n x y labels' work' b inside en ex ey m = go b refl (subst (λ (v : ℕ). Meeting v sets x y labels work labels' work' b) en m)
    where
      two : Labels (row_count rows) labels x y
      two = subst (λ (v : ℕ). Labels v labels x y) en (turn-labels n x y inside en ex ey)

      hs : s < row_count rows
      hs = mate.inside

      equal : (said : List ℕ) (i j : ℕ) → Ready rows said table sets → i < row_count rows → j < row_count rows
          → Way (context_of rows said) (rep_at table) i j (rep_at labels) (marked_at work)
          → Equal (rows_of rows) ((i, j) ∷ equations (context_of rows said)) (term_at (rows_of rows) r) (term_at (rows_of rows) s)
      equal said i j ready hi hj w =
          let a : SameSymbol (rows_of rows) r s × SameArgs (rows_of rows) (label_by table labels) r s = agree_by-true (label_by table labels) (rows_of rows) r s mate.agrees in
          way_equal (context_of rows said) ready.fit ready.free (rep_at table) ready.classes i j (omega (arith, length-rows rows)) (omega (arith, length-rows rows))
          (rep_at labels) (marked_at work) w r s (omega (arith, length-rows rows)) (omega (arith, length-rows rows)) a.0 a.1

      go : (d : Bool) → b ≡ d → Meeting (row_count rows) sets x y labels work labels' work' b → Turned rows table sets labels work labels' work' b
      go true e k =
          record {
            space = rw (k.labels-kept e, k.work-kept e) space;
            laid = rw (k.labels-kept e, k.work-kept e) laid;
            less = λ z. false-true e z;
            grown = λ v w q _ _. rw (k.labels-kept e) q;
            way = λ said i j ready hi hj w z. false-true e z;
            wider = λ said i j ready hi hj w _. met-clash rows said table sets ready i j hi hj labels work w r s hr hs (equal said i j ready hi hj w) x y ex ey (k.clash e);
          }
      go false e k =
          record {
            space = space-joined (row_count rows) sets x y labels work labels' work' space (k.joined e);
            laid = labelled-joined laid two (k.joined e);
            less = λ _. joined-less laid two (k.joined e);
            grown = λ v w q hv hw. (k.joined e).moves.so (rep_at table v) hv ∙ ap (move (k.joined e).lo (k.joined e).hi) q ∙ sym ((k.joined e).moves.so (rep_at table w) hw);
            way = λ said i j ready hi hj w _.
                met-way rows said table sets ready i j hi hj labels work w r s hr hs (equal said i j ready hi hj w) x y ex ey labels' work' (k.clear e) (k.joined e);
            wider = λ said i j ready hi hj w z. false-true z e;
          }

-- ---- the whole way

pub record Going (rows table sets : List ℕ) (x y n : ℕ) (labels work : List ℕ) : Type 0 where
  pub count : n ≡ row_count rows
  pub space : Space (row_count rows) labels work
  pub laid : Labelled (row_count rows) labels work
  pub joined : rep_at table x ≡ x → rep_at table y ≡ y → label_by table labels x ≡ label_by table labels y
  pub way : (said : List ℕ) → Ready rows said table sets → rep_at table x ≡ x → rep_at table y ≡ y → Way (context_of rows said) (rep_at table) x y (rep_at labels) (marked_at work)

pub blank-laid : (n : ℕ) (labels work : List ℕ) → Blank n labels work → Labelled n labels work
blank-laid n labels work b =
    record { low = λ a h. omega (arith, b.own a h); own = λ a h. rw (b.own a h) (b.own a h); moved = λ a h. inl (b.own a h) }

pub blank-meets : (m n : ℕ) (sets labels work : List ℕ) (x y : ℕ) → n ≡ m → Blank m labels work → Ends m x y → sets_size m ≤ length sets → Meets n sets labels work x y
blank-meets m n sets labels work x y en b d room =
    record {
      space = space-at n m labels work en b.space;
      laid = laid-at n m labels work en (blank-laid m labels work b);
      room = room_at n m (length sets) en room;
      labels-there = blank-labels n m labels work x y en b d;
      other = d.other;
    }

pub going_start : (rows table sets : List ℕ) (x y n : ℕ) (labels work labels' work' : List ℕ) (b : Bool) → n ≡ row_count rows → Blank (row_count rows) labels work
    → Ends (row_count rows) x y → Meeting n sets x y labels work labels' work' b → b ≡ false → Going rows table sets x y n labels' work'
going_start rows table sets x y n labels work labels' work' b en blank ends m e =
    record {
      count = en;
      space = space-joined (row_count rows) sets x y labels work labels' work' blank.space join;
      laid = labelled-joined laid two join;
      joined = λ ex ey. one ex ey;
      way = λ said ready ex ey.
          met-way rows said table sets ready x y ends.left ends.right labels work (begin said ready) x y ends.left ends.right
          (with-given (rows_of rows) (equations (context_of rows said)) x y) x y
          (sym (ap (rep_at labels) ex ∙ blank.own x ends.left))
          (sym (ap (rep_at labels) ey ∙ blank.own y ends.right))
          labels' work' (k.clear e) join;
    }
  where
    k : Meeting (row_count rows) sets x y labels work labels' work' b
    k = subst (λ (v : ℕ). Meeting v sets x y labels work labels' work' b) en m

    join : Joined (row_count rows) sets x y labels work labels' work'
    join = k.joined e

    laid : Labelled (row_count rows) labels work
    laid = blank-laid (row_count rows) labels work blank

    two : Labels (row_count rows) labels x y
    two = record { left = ends.left; right = ends.right; left-own = blank.own x ends.left; right-own = blank.own y ends.right }

    begin : (said : List ℕ) → Ready rows said table sets → Way (context_of rows said) (rep_at table) x y (rep_at labels) (marked_at work)
    begin said ready =
        way-start (context_of rows said) ready.fit ready.free (rep_at table) ready.classes x y (inner ends.left) (inner ends.right) (rep_at labels) (marked_at work)
        (λ a h. blank.own a (omega (arith, length-rows rows)))
      where
        inner : {a : ℕ} → a < row_count rows → a < length (rows_of rows)
        inner h = omega (arith, length-rows rows)

    one : rep_at table x ≡ x → rep_at table y ≡ y → label_by table labels' x ≡ label_by table labels' y
    one ex ey =
        ap (rep_at labels') ex
        ∙ join.moves.so x ends.left
        ∙ ⊎_elim
        (λ v. ap (move join.lo join.hi) (blank.own x ends.left ∙ v.0) ∙ low ∙ sym high ∙ ap (move join.lo join.hi) (sym (blank.own y ends.right ∙ v.1)))
        (λ v. ap (move join.lo join.hi) (blank.own x ends.left ∙ v.0) ∙ high ∙ sym low ∙ ap (move join.lo join.hi) (sym (blank.own y ends.right ∙ v.1)))
        join.two
        ∙ sym (join.moves.so y ends.right)
        ∙ ap (rep_at labels') (sym ey)
      where
        low : move join.lo join.hi join.lo ≡ join.lo
        low = ⊎_elim (λ c. c.1) (λ c. c.1) (move-cases join.lo join.hi join.lo)

        high : move join.lo join.hi join.hi ≡ join.lo
        high = ⊎_elim (λ c. c.1) (λ c. absurd (c.0 refl)) (move-cases join.lo join.hi join.hi)

-- the two classes themselves are kept apart
pub going-apart : (rows table sets : List ℕ) (x y n : ℕ) (labels work labels' work' : List ℕ) (b : Bool) → n ≡ row_count rows → Blank (row_count rows) labels work
    → Ends (row_count rows) x y → Meeting n sets x y labels work labels' work' b → b ≡ true → Followed rows table sets x y labels' work' true
going-apart rows table sets x y n labels work labels' work' b en blank ends m e =
    record {
      space = rw (m.labels-kept e, m.work-kept e) blank.space;
      laid = rw (m.labels-kept e, m.work-kept e) (blank-laid (row_count rows) labels work blank);
      so = λ said ready ex ey.
          sym
          (met-clash rows said table sets ready x y ends.left ends.right labels work (begin said ready) x y ends.left ends.right
          (with-given (rows_of rows) (equations (context_of rows said)) x y) x y
          (sym (ap (rep_at labels) ex ∙ blank.own x ends.left))
          (sym (ap (rep_at labels) ey ∙ blank.own y ends.right))
          (subst (λ (v : ℕ). Clashing v sets labels x y true) en (m.clash e)));
    }
  where
    begin : (said : List ℕ) → Ready rows said table sets → Way (context_of rows said) (rep_at table) x y (rep_at labels) (marked_at work)
    begin said ready =
        way-start (context_of rows said) ready.fit ready.free (rep_at table) ready.classes x y (inner ends.left) (inner ends.right) (rep_at labels) (marked_at work)
        (λ a h. blank.own a (omega (arith, length-rows rows)))
      where
        inner : {a : ℕ} → a < row_count rows → a < length (rows_of rows)
        inner h = omega (arith, length-rows rows)

module _ (rows table sets : List ℕ) (x y n : ℕ) (labels work : List ℕ) (ends : Ends (row_count rows) x y) (g : Going rows table sets x y n labels work) where
  pub going_step : (labels' work' : List ℕ) (b : Bool) → Inside (row_count rows) table → Turned rows table sets labels work labels' work' b → b ≡ false
      → Going rows table sets x y n labels' work'
  going_step labels' work' b inside t e =
      record {
        count = g.count;
        space = t.space;
        laid = t.laid;
        joined = λ ex ey. t.grown x y (g.joined ex ey) (inside.each x ends.left) (inside.each y ends.right);
        way = λ said ready ex ey. t.way said x y ready ends.left ends.right (g.way said ready ex ey) e;
      }

  pub going-clash : (labels' work' : List ℕ) (b : Bool) → Turned rows table sets labels work labels' work' b → b ≡ true → Followed rows table sets x y labels' work' true
  going-clash labels' work' b t e =
      record {
        space = t.space;
        laid = t.laid;
        so = λ said ready ex ey. sym (t.wider said x y ready ends.left ends.right (g.way said ready ex ey) e);
      }

  pub going_less : (labels' work' : List ℕ) (b : Bool) → Turned rows table sets labels work labels' work' b → b ≡ false → remaining (row_count rows) labels' work' < remaining (row_count rows) labels work
  going_less labels' work' b t e = t.less e

  pub going_done : NoClass n work 0 0 → Followed rows table sets x y labels work false
  going_done c =
      record {
        space = g.space;
        laid = g.laid;
        so = λ said ready ex ey.
            sym
            (way-done (context_of rows said) ready.fit ready.free (rep_at table) ready.classes x y (inner ends.left) (inner ends.right) (rep_at labels) (marked_at work)
            (g.way said ready ex ey)
            (λ s l. c.none s (omega arith) (omega (arith, length-rows rows, g.count)))
            (g.joined ex ey));
      }
    where
      inner : {a : ℕ} → a < row_count rows → a < length (rows_of rows)
      inner k = omega (arith, length-rows rows)

  pub going-turn : (r : ℕ) → Laid rows → Inside (row_count rows) table → sets_size (row_count rows) ≤ length sets → ClassAt n work 0 0 r → TurnAt rows table sets labels work r
  going-turn r rows-laid inside room c =
      record {
        rows-laid = rows-laid;
        inside = inside;
        room = room;
        space = g.space;
        laid = g.laid;
        row = omega (arith, c.inside, g.count);
        marked = c.here;
      }

  pub going-few : Laid rows → words_for n ≤ most_words
  going-few l = rw g.count l.room

  pub going-room : 0 + words_for n ≤ length work
  going-room = omega (arith, g.space.work-long, ap words_for g.count)

pub ruleset mine = (rules, turn-none, turn-labels, turn-other, turn-met, blank-laid, going_start, going-apart, going_step, going-clash, going_less, going_done, going-turn, going-few, going-room)
