-- The way to closed classes, as the code goes it.
--     Comparing, Rounding   two lists compared from their start; passes, of which so many are left
--     siding, starting, joining, stating, arguing, uniting, comparing, pairing, passing   what the functions of `rounds` and `sides` leave to show
-- Assumes nothing.
use mathlib.Core.Bool.{Bool, true, false, ◌&&◌}
use mathlib.Core.List.{List}
use mathlib.Core.Path.{◌≡◌, refl, ap, ap₂, sym, ◌∙◌, subst}
use Prim.Native.Nat.{ℕ, suc, ◌+◌, ◌-◌, ◌*◌, ◌≤◌, ◌<◌}
use native.Mathlib.Omega.{arith}
use lib.Dec.{eqb}
use lib.ListN.{length, get_or, drop, drop_of_length-le, get_or-eq_default}
use lib.Seq.{drop-cons}
use borrow.Author.Rules.{rules}
use borrow.Author.Tests.{lt-ltb, le-ltb, eq-eqb, ne_eqb, eqb-true, eqb-false, not-true, not-false}
use Rattle.meaning.specs.Context.{Row, left_at, right_at}
use Rattle.meaning.specs.Values.{number_at}
use Rattle.meaning.specs.ByTable.{same_list}
use Rattle.meaning.proofs.Logic.{and-true-right}
use Rattle.meaning.proofs.Lists.{same_list-true}
use Rattle.meaning.proofs.Entries.{length-map, map_at}
use Rattle.runs.specs.Runs.{row_count, symbol_in, count_in as arg_count, args_in, rows_of}
use Rattle.runs.proofs.Saying.{rows-at, row-length}
use Rattle.grounds_numbers.specs.Limits.{most_numbers, pair_size}
use Rattle.grounds_numbers.specs.Pairs.{pair_count, pairs_in}
use Rattle.grounds_numbers.proofs.Pairing.{pairs-length, pairs-at}
use Rattle.grounds_steps.specs.Steps.{most_each}
use Rattle.grounds_laws.specs.Draft.{count_in, Wrote, Written, pushed}
use Rattle.grounds_laws.specs.Classes.{label_in, labelled, State, state_of, joined}
use Rattle.grounds_laws.specs.Rounds.{start_one, started, pair_joined, stated_pair, state_one, stated, one_label, alike, argued, congruent_by, congruence, united, paired_apart, paired, row_passed, passed, rounds}
use Rattle.grounds_classes.specs.Settling.{one_argument, labels_of, paired_by, row_passed_by, passed_by, rested_by}
use Rattle.grounds_classes.specs.declared.draft.Equation.{Equation}
use Rattle.grounds_classes.specs.declared.classes.Classes.{Classes}
use Rattle.grounds_classes.specs.declared.keys.Two.{Two}
use Rattle.grounds_classes.specs.Holding.{class_in, met, state_in, Keeps, Becomes, Adds}
use Rattle.grounds_classes.specs.Uniting.{argued_in, congruence_in, united_in, apart_in, paired_in}
use Rattle.grounds_classes.proofs.Classing.{Through, through-start, through-next, through-done, wrote-is, same-met, keeps-on}

-- ---- the sides of a pair

module _ (pairs : List ℕ) (i : ℕ) {n : ℕ} (e : n ≡ pair_count pairs) where
  pub left_in_lem : i < n → get_or pairs (i * pair_size) 0 ≡ left_at (pairs_in pairs) i
  left_in_lem h = sym (ap (λ (p : ℕ × ℕ). p.0) (pairs-at pairs i (omega arith)))

  pub right-in : i < n → get_or pairs (i * pair_size + 1) 0 ≡ right_at (pairs_in pairs) i
  right-in h = sym (ap (λ (p : ℕ × ℕ). p.1) (pairs-at pairs i (omega arith)))

  none : n ≤ i → get_or (pairs_in pairs) i (0, 0) ≡ (0, 0)
  none h = get_or-eq_default (pairs_in pairs) (0, 0) {n = i} (omega (arith, pairs-length pairs))

  pub left-past : n ≤ i → 0 ≡ left_at (pairs_in pairs) i
  left-past h = sym (ap (λ (p : ℕ × ℕ). p.0) (none h))

  pub right-past : n ≤ i → 0 ≡ right_at (pairs_in pairs) i
  right-past h = sym (ap (λ (p : ℕ × ℕ). p.1) (none h))

-- ---- the start

pub start-one : (ns : List ℕ) (x : ℕ) (cells table : List ℕ) {after table' : List ℕ} {y w : ℕ} → y ≡ number_at ns x → Wrote after w (pushed cells 2 x y 0 0 0 0)
    → table' ≡ labelled table x y w
    → state_of after table' ≡ start_one ns x (state_of cells table)
unfolding start_one
start-one ns x cells table {after} {table'} {y} {w} e f g = rw (sym e, wrote-is (pushed cells 2 x y 0 0 0 0) f) (ap (state_of after) g)

pub start-done : (ns : List ℕ) {n m : ℕ} {before after : Classes} {k : ℕ} → Through (start_one ns) n before after k → n ≡ m → n ≤ k
    → Becomes before after (started ns m (state_in before))
unfolding started
start-done ns w e h = through-done w e h

-- ---- two entries joined by a step

module _ (n kind x y number : ℕ) (before : Classes) {b : Bool} (e : b ≡ one_label before.table.now x y) where
  pub pair-none : b ≡ true → Becomes before before (pair_joined n kind x y number (state_in before))
  unfolding pair_joined one_label
  pair-none f = record { so = rw (sym e ∙ f, pair_joined); keeps = record { column = refl; classes = refl } }

  pub pair-joined : {mid after : Classes} {w : ℕ} → b ≡ false → Wrote mid.cells.now w (pushed before.cells.now kind x y number 0 0 0) → mid.table.now ≡ before.table.now
      → Keeps before mid
      → Becomes mid after (joined n w x y (state_in mid))
      → Becomes before after (pair_joined n kind x y number (state_in before))
  unfolding pair_joined one_label
  pair-joined {mid} {after} {w} f g l k h =
      record {
        so =
            rw (sym e ∙ f, pair_joined, wrote-is (pushed before.cells.now kind x y number 0 0 0) g)
            (h.so ∙ ap (λ (t : List ℕ). joined n w x y (state_of mid.cells.now t)) l);
        keeps = keeps-on k h.keeps;
      }

-- ---- stated equations

pub state-one : (n : ℕ) (pairs : List ℕ) (i : ℕ) {l r : ℕ} {before after : Classes} → l ≡ left_at (pairs_in pairs) i → r ≡ right_at (pairs_in pairs) i
    → Becomes before after (pair_joined n 1 l r (i + 1) (state_in before))
    → Becomes before after (state_one n (pairs_in pairs) i (state_in before))
unfolding state_one stated_pair
state-one n pairs i el er e = record { so = rw (sym el, sym er) e.so; keeps = e.keeps }

pub state-few : (pairs : List ℕ) {i m : ℕ} → pair_count pairs < most_numbers → m ≡ pair_count pairs → i < m → i + 1 < most_numbers
state-few pairs h e l = omega arith

pub state-done : (n : ℕ) (pairs : List ℕ) {before after : Classes} {m k : ℕ} → Through (state_one n (pairs_in pairs)) m before after k → m ≡ pair_count pairs → m ≤ k
    → Becomes before after (stated n (pairs_in pairs) (state_in before))
unfolding stated
state-done n pairs w e h = through-done w (e ∙ sym (pairs-length pairs)) h

-- ---- arguments

module _ (t : Two) where
  abbrev held : List ℕ
  held = t.entries.keys.now

  abbrev xs : List ℕ
  xs = args_in held t.x

  abbrev ys : List ℕ
  ys = args_in held t.y

  long : length xs ≡ arg_count held t.x
  long = row-length held t.x t.x_inside (t.entries.few t.x t.x_inside)

  module _ (cells table : List ℕ) (i : ℕ) {c : ℕ} (e : c ≡ arg_count held t.x) where
    pub argued-same : {after : List ℕ} {p q : Equation} {a b r : ℕ} → i < c → a ≡ get_or xs i 0 → b ≡ get_or ys i 0 → p ≡ class_in table a → q ≡ class_in table b
        → Wrote after r (met cells p q)
        → Wrote after r (argued cells table xs ys i)
    unfolding argued
    argued-same {a = a} {b = b} l ea eb ep eq w = rw (lt-ltb i (length xs) (omega (arith, long)), argued, sym ea, sym eb) (same-met cells table a b ep eq w)

    pub argued-none : c ≤ i → Wrote cells 0 (argued cells table xs ys i)
    unfolding argued
    argued-none l = rw (le-ltb i (length xs) (omega (arith, long)), argued) (record { column = refl; step = refl })

  pub congruence-pushed : {start one two three four : Classes} {after : List ℕ} {a b c d r : ℕ} → Adds start one a (argued_in t 0 (state_in start))
      → Adds one two b (argued_in t 1 (state_in one))
      → Adds two three c (argued_in t 2 (state_in two))
      → Adds three four d (argued_in t 3 (state_in three))
      → Wrote after r (pushed four.cells.now 5 t.x t.y a b c d)
      → Wrote after r (congruence_in t (state_in start))
  unfolding congruence congruent_by
  congruence-pushed {start} {one} {two} {three} {four} {after} {a} {b} {c} {d} {r} e f g h w =
      let t₁ : one.table.now ≡ start.table.now = e.table in
      let t₂ : two.table.now ≡ start.table.now = f.table ∙ t₁ in
      let t₃ : three.table.now ≡ start.table.now = g.table ∙ t₂ in
      let f' : Wrote two.cells.now b (argued one.cells.now start.table.now xs ys 1) =
      subst (λ (l : List ℕ). Wrote two.cells.now b (argued one.cells.now l xs ys 1)) t₁ f.wrote in
      let g' : Wrote three.cells.now c (argued two.cells.now start.table.now xs ys 2) =
      subst (λ (l : List ℕ). Wrote three.cells.now c (argued two.cells.now l xs ys 2)) t₂ g.wrote in
      let h' : Wrote four.cells.now d (argued three.cells.now start.table.now xs ys 3) =
      subst (λ (l : List ℕ). Wrote four.cells.now d (argued three.cells.now l xs ys 3)) t₃ h.wrote in
      rw (
        wrote-is (argued start.cells.now start.table.now xs ys 0) e.wrote,
        wrote-is (argued one.cells.now start.table.now xs ys 1) f',
        wrote-is (argued two.cells.now start.table.now xs ys 2) g',
        wrote-is (argued three.cells.now start.table.now xs ys 3) h',
      ) w

  pub tables-on : {start one two three four : Classes} {a b c d : ℕ} {v₁ v₂ v₃ v₄ : Written} → Adds start one a v₁ → Adds one two b v₂ → Adds two three c v₃ → Adds three four d v₄
      → (Keeps start four) × (four.table.now ≡ start.table.now)
  tables-on e f g h = (keeps-on e.keeps (keeps-on f.keeps (keeps-on g.keeps h.keeps)), h.table ∙ (g.table ∙ (f.table ∙ e.table)))

  pub united-joined : {before mid after : Classes} {w : ℕ} → Adds before mid w (congruence_in t (state_in before)) → Becomes mid after (joined (row_count held) w t.x t.y (state_in mid))
      → Becomes before after (united_in t (state_in before))
  unfolding united
  united-joined {before} {mid} {after} {w} a e =
      record {
        so =
            rw (wrote-is (congruence before.cells.now before.table.now xs ys t.x t.y) a.wrote)
            (e.so ∙ ap (λ (l : List ℕ). joined (row_count held) w t.x t.y (state_of mid.cells.now l)) a.table);
        keeps = keeps-on a.keeps e.keeps;
      }

-- ---- two lists compared from their start: the first k elements are the same

pub record Comparing (keys table : List ℕ) (x y count k : ℕ) : Type 0 where
  pub so : same_list (labels_of keys table x) (labels_of keys table y) ≡ same_list (drop k (labels_of keys table x)) (drop k (labels_of keys table y))
  pub reach : k ≤ count
  pub left : length (args_in keys x) ≡ count
  pub right : length (args_in keys y) ≡ count

pub comparing-start : (t : Two) (table : List ℕ) (count : ℕ) → arg_count t.entries.keys.now t.x ≡ count → arg_count t.entries.keys.now t.y ≡ count
    → Comparing t.entries.keys.now table t.x t.y count 0
comparing-start t table count ex ey =
    record {
      so = refl;
      reach = omega arith;
      left = row-length t.entries.keys.now t.x t.x_inside (t.entries.few t.x t.x_inside) ∙ ex;
      right = row-length t.entries.keys.now t.y t.y_inside (t.entries.few t.y t.y_inside) ∙ ey;
    }

module _ {keys table : List ℕ} {x y count k : ℕ} (w : Comparing keys table x y count k) where
  abbrev ls : List ℕ
  ls = labels_of keys table x

  abbrev rs : List ℕ
  rs = labels_of keys table y

  long-left : length ls ≡ count
  long-left = length-map (label_in table) (args_in keys x) ∙ w.left

  long-right : length rs ≡ count
  long-right = length-map (label_in table) (args_in keys y) ∙ w.right

  module _ {b : Bool} (h : k < count) (e : b ≡ one_argument keys table x y k) where
    compared : same_list ls rs ≡ (b && same_list (drop (suc k) ls) (drop (suc k) rs))
    unfolding same_list one_label
    compared =
        w.so
        ∙ rw (drop-cons ls k 0 (omega (arith, long-left)), drop-cons rs k 0 (omega (arith, long-right)))
        (ap₂ (λ (u v : ℕ). eqb u v && same_list (drop (suc k) ls) (drop (suc k) rs))
        (map_at (label_in table) (args_in keys x) k 0 0 (omega (arith, w.left)))
        (map_at (label_in table) (args_in keys y) k 0 0 (omega (arith, w.right))))
        ∙ ap (λ (t : Bool). t && same_list (drop (suc k) ls) (drop (suc k) rs)) (sym e)

    pub comparing-next : b ≡ true → Comparing keys table x y count (k + 1)
    comparing-next f =
        let z : suc k ≡ k + 1 = omega arith in
        record { so = compared ∙ rw f (ap (λ (i : ℕ). same_list (drop i ls) (drop i rs)) z); reach = omega arith; left = w.left; right = w.right }

    pub comparing-differs : b ≡ false → false ≡ same_list ls rs
    comparing-differs f = sym (compared ∙ rw f)

  pub comparing-done : count ≤ k → true ≡ same_list ls rs
  unfolding same_list
  comparing-done h = sym (w.so ∙ rw (drop_of_length-le ls {i = k} (omega (arith, long-left)), drop_of_length-le rs {i = k} (omega (arith, long-right))))

pub one_label_lem : (table : List ℕ) (x y : ℕ) {p q : ℕ} → p ≡ label_in table x → q ≡ label_in table y → eqb p q ≡ one_label table x y
unfolding one_label
one_label_lem table x y e f = ap₂ eqb e f

pub one_argument_lem : (keys table : List ℕ) (x y k : ℕ) {a c : ℕ} {b : Bool} → a ≡ get_or (args_in keys x) k 0 → c ≡ get_or (args_in keys y) k 0 → b ≡ one_label table a c
    → b ≡ one_argument keys table x y k
one_argument_lem keys table x y k ea ec e = e ∙ ap₂ (one_label table) ea ec

-- ---- two entries compared

module _ (t : Two) (table : List ℕ) where
  abbrev all : List ℕ
  all = t.entries.keys.now

  abbrev labels : ℕ → List ℕ
  labels = labels_of all table

  alike-in : alike (rows_of all) table t.x t.y ≡ (eqb (symbol_in all t.x) (symbol_in all t.y) && same_list (labels t.x) (labels t.y))
  unfolding alike
  alike-in = rw (rows-at all t.x t.x_inside, rows-at all t.y t.y_inside)

  labels-long : (z : ℕ) → z < row_count all → length (labels z) ≡ arg_count all z
  labels-long z h = length-map (label_in table) (args_in all z) ∙ row-length all z h (t.entries.few z h)

  pub alike-symbols : {p q : ℕ} → p ≡ symbol_in all t.x → q ≡ symbol_in all t.y → (p ≡ q → ⊥) → false ≡ alike (rows_of all) table t.x t.y
  alike-symbols ep eq d = sym (alike-in ∙ rw (ne_eqb (symbol_in all t.x) (symbol_in all t.y) (λ z. d (ep ∙ z ∙ sym eq))))

  pub alike-counts : {p q : ℕ} → p ≡ arg_count all t.x → q ≡ arg_count all t.y → (p ≡ q → ⊥) → false ≡ alike (rows_of all) table t.x t.y
  alike-counts ep eq d = go (alike (rows_of all) table t.x t.y) refl
    where
      go : (b : Bool) → alike (rows_of all) table t.x t.y ≡ b → false ≡ alike (rows_of all) table t.x t.y
      go false e = sym e
      go true e =
          let f : same_list (labels t.x) (labels t.y) ≡ true =
          and-true-right (eqb (symbol_in all t.x) (symbol_in all t.y)) (same_list (labels t.x) (labels t.y)) (sym alike-in ∙ e) in
          absurd (d (ep ∙ sym (labels-long t.x t.x_inside) ∙ ap length (same_list-true (labels t.x) (labels t.y) f) ∙ labels-long t.y t.y_inside ∙ sym eq))

  pub alike-labels : {p q : ℕ} {r : Bool} → p ≡ symbol_in all t.x → q ≡ symbol_in all t.y → p ≡ q → r ≡ same_list (labels t.x) (labels t.y)
      → r ≡ alike (rows_of all) table t.x t.y
  alike-labels ep eq e f = f ∙ sym (alike-in ∙ rw (eq-eqb (symbol_in all t.x) (symbol_in all t.y) (sym ep ∙ e ∙ eq)))

-- ---- joined where they agree

module _ (t : Two) (before : Classes) {b : Bool} where
  module _ (e : b ≡ one_label before.table.now t.x t.y) where
    pub pair_same : b ≡ true → Becomes before before (paired_in t (state_in before))
    unfolding paired one_label
    pair_same f = record { so = rw (sym e ∙ f, paired); keeps = record { column = refl; classes = refl } }

    pub pair-two : {after : Classes} → b ≡ false → Becomes before after (apart_in t (state_in before)) → Becomes before after (paired_in t (state_in before))
    unfolding paired one_label
    pair-two f g = record { so = rw (sym e ∙ f, paired) g.so; keeps = g.keeps }

  module _ (e : b ≡ alike (rows_of t.entries.keys.now) before.table.now t.x t.y) where
    pub apart-stays : b ≡ false → Becomes before before (apart_in t (state_in before))
    unfolding paired_apart
    apart-stays f = record { so = rw (sym e ∙ f, paired_apart); keeps = record { column = refl; classes = refl } }

    pub apart-united : {after : Classes} → b ≡ true → Becomes before after (united_in t (state_in before)) → Becomes before after (apart_in t (state_in before))
    unfolding paired_apart
    apart-united f g =
        record {
          so = rw (sym e ∙ f, paired_apart, rows-at t.entries.keys.now t.x t.x_inside, rows-at t.entries.keys.now t.y t.y_inside) g.so;
          keeps = g.keeps;
        }

-- ---- passes

pub row_done : (keys : List ℕ) (x : ℕ) {before after : Classes} {k : ℕ} → Through (paired_by keys x) x before after k → x ≤ k
    → Becomes before after (row_passed_by keys x (state_in before))
unfolding row_passed
row_done keys x w h = through-done w refl h

pub pass-done : (keys : List ℕ) {before after : Classes} {n k : ℕ} → Through (row_passed_by keys) n before after k → n ≡ row_count keys → n ≤ k
    → Becomes before after (passed_by keys (state_in before))
unfolding passed
pass-done keys w e h = through-done w e h

-- after so many passes
pub record Rounding (keys : List ℕ) (before after : Classes) (k : ℕ) : Type 0 where
  pub so : rested_by keys (state_in before) ≡ rounds (row_count keys) (rows_of keys) (most_each - k) (state_in after)
  pub reach : k ≤ most_each
  pub keeps : Keeps before after

pub rounding-start : (keys : List ℕ) (c : Classes) → Rounding keys c c 0
rounding-start keys c = record { so = refl; reach = omega arith; keeps = record { column = refl; classes = refl } }

module _ (n : ℕ) (ks : List Row) (left : ℕ) (state after : State) (e : after ≡ passed n ks state) where
  rounds-again : (count_in after.cells ≡ count_in state.cells → ⊥) → rounds n ks (suc left) state ≡ rounds n ks left after
  unfolding rounds
  rounds-again d =
      let t : eqb (count_in (passed n ks state).cells) (count_in state.cells) ≡ false =
      subst (λ (s : State). eqb (count_in s.cells) (count_in state.cells) ≡ false) e (ne_eqb (count_in after.cells) (count_in state.cells) d) in
      rw (t, rounds) (ap (rounds n ks left) (sym e))

  rounds-rest : count_in after.cells ≡ count_in state.cells → rounds n ks (suc left) state ≡ after
  unfolding rounds
  rounds-rest d =
      let t : eqb (count_in (passed n ks state).cells) (count_in state.cells) ≡ true =
      subst (λ (s : State). eqb (count_in s.cells) (count_in state.cells) ≡ true) e (eq-eqb (count_in after.cells) (count_in state.cells) d) in
      rw (t, rounds) (sym e)

rounds-none : (n : ℕ) (rs : List Row) (state : State) → rounds n rs 0 state ≡ state
unfolding rounds
rounds-none n rs state = refl

module _ {keys : List ℕ} {before after : Classes} {k : ℕ} (w : Rounding keys before after k) where
  module _ {after' : Classes} {b : Bool} (more : k < most_each) (e : Becomes after after' (passed_by keys (state_in after)))
      (test : b ≡ eqb (count_in after'.cells.now) (count_in after.cells.now)) where
    stepped : rested_by keys (state_in before) ≡ rounds (row_count keys) (rows_of keys) (suc (most_each - (k + 1))) (state_in after)
    stepped = w.so ∙ ap (λ (i : ℕ). rounds (row_count keys) (rows_of keys) i (state_in after)) (omega arith)

    pub rounding-next : b ≡ false → Rounding keys before after' (k + 1)
    rounding-next q =
        record {
          so =
              stepped
              ∙ rounds-again (row_count keys) (rows_of keys) (most_each - (k + 1)) (state_in after) (state_in after') e.so
              (eqb-false (count_in after'.cells.now) (count_in after.cells.now) (sym test ∙ q));
          reach = omega arith;
          keeps = keeps-on w.keeps e.keeps;
        }

    pub rounding-ends : b ≡ true → Becomes before after' (rested_by keys (state_in before))
    rounding-ends q =
        record {
          so =
              sym (stepped
              ∙ rounds-rest (row_count keys) (rows_of keys) (most_each - (k + 1)) (state_in after) (state_in after') e.so
              (eqb-true (count_in after'.cells.now) (count_in after.cells.now) (sym test ∙ q)));
          keeps = keeps-on w.keeps e.keeps;
        }

  pub rounding-done : most_each ≤ k → Becomes before after (rested_by keys (state_in before))
  rounding-done h =
      let z : most_each - k ≡ 0 = omega arith in
      record {
        so =
            sym (w.so ∙ ap (λ (i : ℕ). rounds (row_count keys) (rows_of keys) i (state_in after)) z ∙ rounds-none (row_count keys) (rows_of keys) (state_in after));
        keeps = w.keeps;
      }

pub test-made : (one two : List ℕ) {c d : ℕ} → c ≡ count_in one → d ≡ count_in two → eqb d c ≡ eqb (count_in two) (count_in one)
test-made one two ec ed = ap₂ eqb ed ec

pub ruleset siding = (rules, left_in_lem, right-in, left-past, right-past)

pub ruleset starting = (rules, start-one, start-done, through-start, through-next)

pub ruleset joining = (rules, pair-none, pair-joined, state-one)

pub ruleset stating = (rules, through-start, through-next, state-few, state-done)

pub ruleset arguing = (rules, argued-same, argued-none, congruence-pushed, united-joined)

pub ruleset comparing = (rules, not-true, not-false, one_label_lem, one_argument_lem, comparing-start, comparing-next, comparing-differs, comparing-done, alike-symbols, alike-counts, alike-labels)

pub ruleset pairing = (rules, not-true, not-false, pair_same, pair-two, apart-stays, apart-united)

pub ruleset passing = (rules, through-start, through-next, row_done, pass-done, test-made, rounding-start, rounding-next, rounding-ends, rounding-done)
