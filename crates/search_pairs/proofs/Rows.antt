-- Rows read from a run: two rows compared under labels.
--     agree_by-true          two rows that agree, by symbol and arguments
--     mine                  what the functions of `mates` that compare rows leave to show
-- Assumes nothing.
use mathlib.Core.Bool.{Bool, true, false, ◌&&◌}
use mathlib.Core.List.{List}
use mathlib.Core.Path.{◌≡◌, refl, ap, ap₂, sym, ◌∙◌}
use Prim.Native.Nat.{ℕ, suc, ◌+◌, ◌*◌, ◌≤◌, ◌<◌}
use native.Mathlib.Numerals.{add-one}
use native.Mathlib.Omega.{arith}
use lib.Dec.{eqb}
use lib.ListN.{length, get_or, drop, length-map, drop_of_length-le, get_or-eq_default}
use lib.Seq.{drop-cons}
use borrow.Author.Rules.{rules}
use borrow.Author.Tests.{eqb-true, eq-eqb, ne_eqb}
use Rattle.meaning.specs.Equality.{rep_at}
use Rattle.meaning.specs.ByTable.{same_list}
use Rattle.meaning.specs.Context.{Row, row_at}
use Rattle.meaning.proofs.Logic.{and-true-left, and-true-right, and_both}
use Rattle.meaning.proofs.Lists.{same_list-true, same_list-self}
use Rattle.meaning.proofs.Closes.{rep_at-map}
use Rattle.runs.specs.Limits.{row_size}
use Rattle.runs.specs.Runs.{args_from, row_count, symbol_in, count_in, arg_in, rows_of}
use Rattle.runs.proofs.Saying.{rows-at, arg-at, args-length}
use Rattle.search_pairs.specs.Steps.{Laid, Seated, label_by, arg_labels, same_args, agree_by, SameSymbol, SameArgs}

-- ---- two lists compared from their start: the first k elements are the same
pub record Comparing (l m : List ℕ) (k : ℕ) : Type 0 where
  pub left : same_list l m ≡ same_list (drop k l) (drop k m)
  pub reach : k ≤ length l
  pub long : length l ≡ length m

comparing-start : (l m : List ℕ) → length l ≡ length m → Comparing l m 0
comparing-start l m e = record { left = refl; reach = omega arith; long = e }

comparing-step : {l m : List ℕ} {k : ℕ} → Comparing l m k → k < length l
    → same_list l m ≡ (eqb (get_or l k 0) (get_or m k 0) && same_list (drop (suc k) l) (drop (suc k) m))
unfolding same_list
comparing-step {l} {m} {k} c h =
    let h' : k < length m = omega arith in
    c.left ∙ rw (drop-cons l k 0 h, drop-cons m k 0 h')

comparing-next : {l m : List ℕ} {k : ℕ} → Comparing l m k → k < length l → get_or l k 0 ≡ get_or m k 0 → Comparing l m (k + 1)
comparing-next {l} {m} {k} c h e =
    record { left = rw add-one (comparing-step c h ∙ rw (eq-eqb (get_or l k 0) (get_or m k 0) e)); reach = omega arith; long = c.long }

comparing-differs : {l m : List ℕ} {k : ℕ} → Comparing l m k → k < length l → (get_or l k 0 ≡ get_or m k 0 → ⊥) → false ≡ same_list l m
comparing-differs {l} {m} {k} c h e = sym (comparing-step c h ∙ rw (ne_eqb (get_or l k 0) (get_or m k 0) e))

comparing-done : {l m : List ℕ} {k : ℕ} → Comparing l m k → length l ≤ k → true ≡ same_list l m
unfolding same_list
comparing-done {l} {m} {k} c h =
    let h' : length m ≤ k = omega arith in
    sym (c.left ∙ rw (drop_of_length-le l h, drop_of_length-le m h'))

-- ---- the arguments of two rows compared

module _ (run t l : List ℕ) (i count : ℕ) (asks : Seated run i count) where
  length-labels : length (arg_labels run (label_by t l) i count) ≡ count
  length-labels =
      length-map (args_from run (i * row_size + 2) count) (label_by t l)
      ∙ args-length run (i * row_size + 2) count (omega (arith, asks.inside)) asks.four

  labels_at : (k : ℕ) → k < count → get_or (arg_labels run (label_by t l) i count) k 0 ≡ label_by t l (arg_in run i k)
  labels_at k h =
      rep_at-map (label_by t l) (args_from run (i * row_size + 2) count) k (omega (arith, length-map (args_from run (i * row_size + 2) count) (label_by t l), length-labels))
      ∙ ap (label_by t l) (arg-at run (i * row_size + 2) count k h asks.four)

-- the first k arguments have the same representatives
pub record Agreeing (run t l : List ℕ) (i j count k : ℕ) : Type 0 where
  pub first : Seated run i count
  pub second : Seated run j count
  pub lists : Comparing (arg_labels run (label_by t l) i count) (arg_labels run (label_by t l) j count) k

pub agreeing-start : (run t l : List ℕ) (i j count : ℕ) → Seated run i count → Seated run j count → Agreeing run t l i j count 0
agreeing-start run t l i j count p q =
    record { first = p; second = q; lists = comparing-start _ _ (length-labels run t l i count p ∙ sym (length-labels run t l j count q)) }

module _ {run t l : List ℕ} {i j count k : ℕ} (g : Agreeing run t l i j count k) where
  long-left : length (arg_labels run (label_by t l) i count) ≡ count
  long-left = length-labels run t l i count g.first

  module _ {a b : ℕ} (h : k < count) (ea : a ≡ label_by t l (arg_in run i k)) (eb : b ≡ label_by t l (arg_in run j k)) where
    at_left : get_or (arg_labels run (label_by t l) i count) k 0 ≡ a
    at_left = labels_at run t l i count g.first k h ∙ sym ea

    at_right : get_or (arg_labels run (label_by t l) j count) k 0 ≡ b
    at_right = labels_at run t l j count g.second k h ∙ sym eb

    in_left : k < length (arg_labels run (label_by t l) i count)
    in_left = omega (arith, long-left)

    pub agreeing-next : a ≡ b → Agreeing run t l i j count (k + 1)
    agreeing-next e = record { first = g.first; second = g.second; lists = comparing-next g.lists in_left (at_left ∙ e ∙ sym at_right) }

    pub agreeing-differs : (a ≡ b → ⊥) → false ≡ same_args run (label_by t l) i j count
    unfolding same_args
    agreeing-differs d = comparing-differs g.lists in_left (λ e. d (sym at_left ∙ e ∙ at_right))

  pub agreeing-done : count ≤ k → true ≡ same_args run (label_by t l) i j count
  unfolding same_args
  agreeing-done h = comparing-done g.lists (omega (arith, long-left))

-- ---- two rows compared

module _ (run t l : List ℕ) (i j : ℕ) (laid : Laid run) (hi : i < row_count run) (hj : j < row_count run) where
  agree-in : agree_by (label_by t l) (rows_of run) i j
      ≡ (eqb (symbol_in run i) (symbol_in run j) && same_list (arg_labels run (label_by t l) i (count_in run i)) (arg_labels run (label_by t l) j (count_in run j)))
  unfolding agree_by
  agree-in = rw (rows-at run i hi, rows-at run j hj)

  module _ (p q : ℕ) (ep : p ≡ symbol_in run i) (eq : q ≡ symbol_in run j) where
    pub agree-symbols : (p ≡ q → ⊥) → false ≡ agree_by (label_by t l) (rows_of run) i j
    agree-symbols d = sym (agree-in ∙ rw (ne_eqb (symbol_in run i) (symbol_in run j) (λ e. d (ep ∙ e ∙ sym eq))))

    module _ (e : p ≡ q) (c d : ℕ) (ec : c ≡ count_in run i) (ed : d ≡ count_in run j) where
      agree-lists : same_list (arg_labels run (label_by t l) i (count_in run i)) (arg_labels run (label_by t l) j (count_in run j)) ≡ agree_by (label_by t l) (rows_of run) i j
      agree-lists = sym (agree-in ∙ rw (eq-eqb (symbol_in run i) (symbol_in run j) (sym ep ∙ e ∙ eq)))

      pub agree-counts : (c ≡ d → ⊥) → false ≡ agree_by (label_by t l) (rows_of run) i j
      agree-counts n = go (same_list xs ys) refl ∙ agree-lists
        where
          xs : List ℕ
          xs = arg_labels run (label_by t l) i (count_in run i)

          ys : List ℕ
          ys = arg_labels run (label_by t l) j (count_in run j)

          long : (k : ℕ) → k < row_count run → length (arg_labels run (label_by t l) k (count_in run k)) ≡ count_in run k
          long k h = length-labels run t l k (count_in run k) (record { inside = h; four = laid.few k h })

          go : (b : Bool) → same_list xs ys ≡ b → false ≡ same_list xs ys
          go false f = sym f
          go true f = absurd (n (ec ∙ sym (long i hi) ∙ ap length (same_list-true xs ys f) ∙ long j hj ∙ sym ed))

      pub agree-args : (r : Bool) → c ≡ d → r ≡ same_args run (label_by t l) i j c → r ≡ agree_by (label_by t l) (rows_of run) i j
      unfolding same_args
      agree-args r f er = er ∙ ap₂ (λ (x y : ℕ). same_list (arg_labels run (label_by t l) i x) (arg_labels run (label_by t l) j y)) ec (f ∙ ed) ∙ agree-lists

-- the counts of rows that are there
pub seated-own : (run : List ℕ) (i c : ℕ) → Laid run → i < row_count run → c ≡ count_in run i → Seated run i c
seated-own run i c laid h e = record { inside = h; four = omega (arith, laid.few i h) }

pub seated-other : (run : List ℕ) (i c d : ℕ) → Laid run → i < row_count run → d ≡ count_in run i → c ≡ d → Seated run i c
seated-other run i c d laid h e f = record { inside = h; four = omega (arith, laid.few i h) }

-- the representative of an argument
pub arg-labelled : (run t l : List ℕ) (i k x r : ℕ) → x ≡ arg_in run i k → r ≡ label_by t l x → r ≡ label_by t l (arg_in run i k)
arg-labelled run t l i k x r e q = q ∙ ap (label_by t l) e

pub label_of : (t l : List ℕ) (i a r : ℕ) → a ≡ rep_at t i → r ≡ rep_at l a → r ≡ label_by t l i
label_of t l i a r e q = q ∙ ap (rep_at l) e

-- a number that is read
pub read_of : (t : List ℕ) (i x r : ℕ) → x ≡ get_or t i 0 → r ≡ x → r ≡ rep_at t i
read_of t i x r e q = q ∙ e

pub past_end : (l : List ℕ) (i : ℕ) → length l ≤ i → 0 ≡ get_or l i 0
past_end l i h = sym (get_or-eq_default l 0 h)

-- ---- what comparing tells

module _ (f : ℕ → ℕ) (rows : List Row) (r s : ℕ) where
  pub agree_by-true : agree_by f rows r s ≡ true → SameSymbol rows r s × SameArgs rows f r s
  unfolding agree_by
  agree_by-true e = (
    eqb-true _ _ (and-true-left (eqb (row_at rows r).symbol (row_at rows s).symbol) _ e),
    same_list-true _ _ (and-true-right (eqb (row_at rows r).symbol (row_at rows s).symbol) _ e),
  )

  pub agree_by-so : SameSymbol rows r s → SameArgs rows f r s → agree_by f rows r s ≡ true
  unfolding agree_by
  agree_by-so e q = and_both _ _ (eq-eqb _ _ e) (rw q (same_list-self _))

pub ruleset mine = (
  rules,
  agreeing-start,
  agreeing-next,
  agreeing-differs,
  agreeing-done,
  agree-symbols,
  agree-counts,
  agree-args,
  seated-own,
  seated-other,
  arg-labelled,
  label_of,
  read_of,
  past_end,
)
