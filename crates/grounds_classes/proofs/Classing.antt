-- Classes in a table, as the code keeps them.
--     Counting   a count of entries: the first so many are counted
--     Through    a loop over entries: the first so many are done
--     mine       what the functions of `classes` leave to show
-- Assumes nothing.
use mathlib.Core.List.{List}
use mathlib.Core.Path.{◌≡◌, refl, ap, ap₂, sym, ◌∙◌, subst, subst₂}
use Prim.Native.Nat.{ℕ, suc, ◌+◌, ◌≤◌, ◌<◌}
use native.Mathlib.Numerals.{add-one}
use native.Mathlib.Omega.{arith}
use borrow.Author.Rules.{rules}
use borrow.Author.Tests.{lt-ltb, le-ltb, eq-eqb, ne_eqb, le-leb, lt-leb}
use Rattle.grounds_steps.specs.Steps.{most_each}
use Rattle.grounds_laws.specs.Draft.{Wrote, Written, turned, linked}
use Rattle.grounds_laws.specs.Classes.{label_in, why_in, labelled, own_step, State, state_of, upto, same, bridge, size_in, carry, carried, moved, joined}
use Rattle.grounds_classes.specs.declared.draft.Equation.{Equation}
use Rattle.grounds_classes.specs.declared.classes.Classes.{Classes}
use Rattle.grounds_classes.specs.Holding.{class_in, met, state_in, Keeps, Becomes, Adds}

pub own_in : (x : ℕ) {i : ℕ} → i ≡ x → i < most_each → x + 1 ≡ own_step x
unfolding own_step
own_in x e h = rw (lt-ltb x most_each (omega arith), own_step)

pub own-past : (x : ℕ) {i : ℕ} → i ≡ x → most_each ≤ i → 0 ≡ own_step x
unfolding own_step
own-past x e h = rw (le-ltb x most_each (omega arith), own_step)

-- ---- steps

pub wrote-is : {cells : List ℕ} {r : ℕ} (w : Written) → Wrote cells r w → w ≡ record { cells = cells; number = r }
wrote-is w e = rw (e.column, e.step)

pub met-own : (cells : List ℕ) (x y : Equation) {r : ℕ} → r ≡ own_step x.left → x.left ≡ y.left → Wrote cells r (met cells x y)
unfolding met
met-own cells x y e q = rw (eq-eqb x.left y.left q, met) (record { column = refl; step = e })

pub met-linked : (cells : List ℕ) (x y : Equation) {mid after : List ℕ} {back r : ℕ} → (x.left ≡ y.left → ⊥) → Wrote mid back (turned cells y.step y.left y.right)
    → Wrote after r (linked mid x.step back x.left x.right y.left)
    → Wrote after r (met cells x y)
unfolding met
met-linked cells x y d w v = rw (ne_eqb x.left y.left d, met, wrote-is (turned cells y.step y.left y.right) w) v

pub same-met : (cells table : List ℕ) (x y : ℕ) {p q : Equation} {after : List ℕ} {r : ℕ} → p ≡ class_in table x → q ≡ class_in table y → Wrote after r (met cells p q)
    → Wrote after r (same cells table x y)
unfolding met same
same-met cells table x y {after = after} {r = r} e f w = subst₂ (λ (a b : Equation). Wrote after r (met cells a b)) e f w

pub bridge-linked : (cells table : List ℕ) (s x y : ℕ) {p q : Equation} {one two after : List ℕ} {back over r : ℕ} → p ≡ class_in table x → q ≡ class_in table y
    → Wrote one back (turned cells p.step p.left p.right)
    → Wrote two over (linked one back s p.right p.left y)
    → Wrote after r (linked two over q.step p.right y q.right)
    → Wrote after r (bridge cells table s x y)
unfolding bridge
bridge-linked cells table s x y {p} {q} {one} {two} {after} {back} {over} {r} ep eq e f g =
    let e' : Wrote one back (turned cells (why_in table x) x (label_in table x)) = subst (λ (c : Equation). Wrote one back (turned cells c.step c.left c.right)) ep e in
    let f' : Wrote two over (linked one back s (label_in table x) x y) = subst (λ (c : Equation). Wrote two over (linked one back s c.right c.left y)) ep f in
    let g' : Wrote after r (linked two over (why_in table y) (label_in table x) y (label_in table y)) =
    subst₂ (λ (c d : Equation). Wrote after r (linked two over d.step c.right y d.right)) ep eq g in
    rw (wrote-is (turned cells (why_in table x) x (label_in table x)) e', wrote-is (linked one back s (label_in table x) x y) f') g'

-- ---- sizes

pub record Counting (table : List ℕ) (p n count z : ℕ) : Type 0 where
  pub so : count ≡ size_in table p z
  pub reach : z ≤ n
  pub most : count ≤ z

pub counting-start : (table : List ℕ) (p n : ℕ) → Counting table p n 0 0
unfolding size_in
counting-start table p n = record { so = refl; reach = omega arith; most = omega arith }

module _ {table : List ℕ} {p n count z l : ℕ} (w : Counting table p n count z) (h : z < n) (e : l ≡ label_in table z) where
  next : z + 1 ≡ suc z
  next = omega arith

  pub counting-hit : l ≡ p → Counting table p n (count + 1) (z + 1)
  unfolding size_in
  counting-hit f =
      let one : size_in table p (suc z) ≡ size_in table p z + 1 = rw (eq-eqb (label_in table z) p (sym e ∙ f), size_in) in
      record { so = omega (arith, w.so, one) ∙ ap (size_in table p) (sym next); reach = omega arith; most = omega (arith, w.most) }

  pub counting-miss : (l ≡ p → ⊥) → Counting table p n count (z + 1)
  unfolding size_in
  counting-miss d =
      let none : size_in table p (suc z) ≡ size_in table p z = rw (ne_eqb (label_in table z) p (λ f. d (e ∙ f)), size_in) in
      record { so = w.so ∙ sym none ∙ ap (size_in table p) (sym next); reach = omega arith; most = omega (arith, w.most) }

pub counting-done : {table : List ℕ} {p n count z : ℕ} → Counting table p n count z → n ≤ z → count ≡ size_in table p n
counting-done {table} {p} {n} {count} {z} w h = let e : z ≡ n = omega (arith, w.reach) in w.so ∙ ap (size_in table p) e

-- ---- loops

pub keeps-on : {a b c : Classes} → Keeps a b → Keeps b c → Keeps a c
keeps-on e f = record { column = f.column ∙ e.column; classes = f.classes ∙ e.classes }

pub record Through (step : ℕ → State → State) (n : ℕ) (before after : Classes) (k : ℕ) : Type 0 where
  pub so : state_in after ≡ upto k step (state_in before)
  pub reach : k ≤ n
  pub keeps : Keeps before after

pub through-start : (step : ℕ → State → State) (n : ℕ) (c : Classes) → Through step n c c 0
unfolding upto
through-start step n c = record { so = refl; reach = omega arith; keeps = record { column = refl; classes = refl } }

module _ {step : ℕ → State → State} {n : ℕ} {before after : Classes} {k : ℕ} (w : Through step n before after k) where
  pub through-next : {after' : Classes} → k < n → Becomes after after' (step k (state_in after)) → Through step n before after' (k + 1)
  unfolding upto
  through-next h e = record { so = rw (add-one, sym w.so) e.so; reach = omega arith; keeps = keeps-on w.keeps e.keeps }

  pub through-done : {m : ℕ} → n ≡ m → n ≤ k → Becomes before after (upto m step (state_in before))
  through-done {m} e h = let z : k ≡ m = omega (arith, w.reach) in record { so = w.so ∙ ap (λ (i : ℕ). upto i step (state_in before)) z; keeps = w.keeps }

-- ---- carrying

pub carry-none : (s p q z : ℕ) (c : Classes) {x : Equation} → x ≡ class_in c.table.now z → (x.right ≡ p → ⊥) → Becomes c c (carry s p q z (state_in c))
unfolding carry
carry-none s p q z c {x} e d =
    record {
      so = rw (ne_eqb (label_in c.table.now z) p (λ f. d (ap (λ (y : Equation). y.right) e ∙ f)), carry);
      keeps = record { column = refl; classes = refl };
    }

pub carry-one : (s p q z : ℕ) (cells table : List ℕ) {after table' : List ℕ} {x : Equation} {w : ℕ} → x ≡ class_in table z → x.right ≡ p
    → Wrote after w (linked cells x.step s x.left x.right q)
    → table' ≡ labelled table z q w
    → state_of after table' ≡ carry s p q z (state_of cells table)
unfolding carry
carry-one s p q z cells table {after} {table'} {x} {w} e f h i =
    let l : label_in table z ≡ p = sym (ap (λ (y : Equation). y.right) e) ∙ f in
    let h' : Wrote after w (linked cells (why_in table z) s z p q) =
    subst (λ (m : ℕ). Wrote after w (linked cells (why_in table z) s z m q)) l (subst (λ (y : Equation). Wrote after w (linked cells y.step s y.left y.right q)) e h) in
    rw (eq-eqb (label_in table z) p l, carry, wrote-is (linked cells (why_in table z) s z p q) h') (ap (state_of after) i)

pub carried-done : (s p q : ℕ) {n m : ℕ} {before after : Classes} {k : ℕ} → Through (carry s p q) n before after k → n ≡ m → n ≤ k
    → Becomes before after (carried s p q m (state_in before))
unfolding carried
carried-done s p q w e h = through-done w e h

-- ---- classes

pub moved-done : (n s x y : ℕ) {before mid after : Classes} {w p q : ℕ} → p ≡ label_in before.table.now x → q ≡ label_in before.table.now y
    → Adds before mid w (bridge before.cells.now before.table.now s x y)
    → Becomes mid after (carried w p q n (state_in mid))
    → Becomes before after (moved n s x y (state_in before))
unfolding moved
moved-done n s x y {before} {mid} {after} {w} {p} {q} ep eq a e =
    record {
      so =
          rw (sym ep, sym eq, wrote-is (bridge before.cells.now before.table.now s x y) a.wrote)
          (e.so ∙ ap (λ (t : List ℕ). carried w p q n (state_of mid.cells.now t)) a.table);
      keeps = keeps-on a.keeps e.keeps;
    }

module _ (m s x y : ℕ) (before : Classes) {n a b p q : ℕ} (en : n ≡ m) (ep : p ≡ label_in before.table.now x) (ea : a ≡ size_in before.table.now p n) (eq : q ≡ label_in before.table.now y)
    (eb : b ≡ size_in before.table.now q n) where
  first_is : a ≡ size_in before.table.now (label_in before.table.now x) m
  first_is = ea ∙ ap₂ (size_in before.table.now) ep en

  second_is : b ≡ size_in before.table.now (label_in before.table.now y) m
  second_is = eb ∙ ap₂ (size_in before.table.now) eq en

  pub joined-first : {after : Classes} → a ≤ b → Becomes before after (moved m s x y (state_in before)) → Becomes before after (joined m s x y (state_in before))
  unfolding joined
  joined-first h e = record { so = rw (sym first_is, sym second_is, le-leb a b h, joined) e.so; keeps = e.keeps }

  pub joined-second : {mid after : Classes} {w : ℕ} → b < a → Wrote mid.cells.now w (turned before.cells.now s x y) → mid.table.now ≡ before.table.now → Keeps before mid
      → Becomes mid after (moved m w y x (state_in mid))
      → Becomes before after (joined m s x y (state_in before))
  unfolding joined
  joined-second {mid} {after} {w} h t l k e =
      record {
        so =
            rw (sym first_is, sym second_is, lt-leb a b h, joined, wrote-is (turned before.cells.now s x y) t)
            (e.so ∙ ap (λ (t : List ℕ). moved m w y x (state_of mid.cells.now t)) l);
        keeps = keeps-on k e.keeps;
      }

pub ruleset mine = (
  rules,
  own_in,
  own-past,
  met-own,
  met-linked,
  same-met,
  bridge-linked,
  counting-start,
  counting-hit,
  counting-miss,
  counting-done,
  through-start,
  through-next,
  carry-none,
  carry-one,
  carried-done,
  moved-done,
  joined-first,
  joined-second,
)
