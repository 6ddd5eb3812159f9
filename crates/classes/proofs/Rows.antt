-- Rows read from a run: two rows compared, and the key of a row's chain.
--     mine                  what the functions of `mates` up to `chain` leave to show
-- Assumes nothing.
use mathlib.Core.Bool.{Bool, true, false, not, ◌&&◌}
use mathlib.Core.List.{List, [], ◌∷◌, ◌++◌}
use mathlib.Core.Path.{◌≡◌, refl, ap, ap₂, sym, ◌∙◌}
use Prim.Native.Nat.{ℕ, suc, ◌+◌, ◌*◌, ◌%◌, ◌≤◌, ◌<◌}
use native.Mathlib.Numerals.{add-one}
use native.Mathlib.Omega.{arith}
use lib.Dec.{eqb}
use lib.ListN.{length, get_or, take, drop, length-map, drop_of_length-le}
use lib.Seq.{drop-cons, take-suc, take-length}
use borrow.Author.Rules.{rules}
use borrow.Author.Tests.{eqb-true, eqb-false, eq-eqb, ne_eqb, not-true, not-false}
use Rattle.meaning.specs.Equality.{rep_at}
use Rattle.meaning.specs.ByTable.{same_list}
use Rattle.meaning.specs.Closing.{agree}
use Rattle.meaning.proofs.Logic.{and-true-left, and-true-right, false-true}
use Rattle.meaning.proofs.Lists.{same_list-true}
use Rattle.meaning.proofs.Closes.{rep_at-map}
use Rattle.runs.specs.Limits.{row_size}
use Rattle.runs.specs.Runs.{args_from, row_count, symbol_in, count_in, arg_in, rows_of}
use Rattle.runs.proofs.Saying.{rows-at, arg-at, args-length}
use Rattle.classes.specs.Steps.{chains, Laid, Seated, arg_reps, same_arg, same_args, same_shape, mix, key_of}

-- ---- two lists compared from their start: the first k elements are the same
pub record Comparing (l m : List ℕ) (k : ℕ) : Type 0 where
  pub left : same_list l m ≡ same_list (drop k l) (drop k m)
  pub reach : k ≤ length l
  pub long : length l ≡ length m

comparing-start : (l m : List ℕ) → length l ≡ length m → Comparing l m 0
comparing-start l m e = record { left = refl; reach = omega arith; long = e }

comparing-step : {l m : List ℕ} {k : ℕ} → Comparing l m k → k < length l
    → same_list l m ≡ (eqb (get_or l k 0) (get_or m k 0) && same_list (drop (suc k) l) (drop (suc k) m))
unfolding same_list
comparing-step {l} {m} {k} c h =
    let h' : k < length m = omega arith in
    c.left ∙ rw (drop-cons l k 0 h, drop-cons m k 0 h')

comparing-next : {l m : List ℕ} {k : ℕ} → Comparing l m k → k < length l → get_or l k 0 ≡ get_or m k 0 → Comparing l m (k + 1)
comparing-next {l} {m} {k} c h e =
    record { left = rw add-one (comparing-step c h ∙ rw (eq-eqb (get_or l k 0) (get_or m k 0) e)); reach = omega arith; long = c.long }

comparing-differs : {l m : List ℕ} {k : ℕ} → Comparing l m k → k < length l → (get_or l k 0 ≡ get_or m k 0 → ⊥) → false ≡ same_list l m
comparing-differs {l} {m} {k} c h e = sym (comparing-step c h ∙ rw (ne_eqb (get_or l k 0) (get_or m k 0) e))

comparing-done : {l m : List ℕ} {k : ℕ} → Comparing l m k → length l ≤ k → true ≡ same_list l m
unfolding same_list
comparing-done {l} {m} {k} c h =
    let h' : length m ≤ k = omega arith in
    sym (c.left ∙ rw (drop_of_length-le l h, drop_of_length-le m h'))

-- ---- the arguments of two rows compared

module _ (run t : List ℕ) (i count : ℕ) (asks : Seated run i count) where
  length-reps : length (arg_reps run t i count) ≡ count
  length-reps =
      length-map (args_from run (i * row_size + 2) count) (rep_at t)
      ∙ args-length run (i * row_size + 2) count (omega (arith, asks.inside)) asks.four

  reps-at : (k : ℕ) → k < count → get_or (arg_reps run t i count) k 0 ≡ rep_at t (arg_in run i k)
  reps-at k h =
      rep_at-map (rep_at t) (args_from run (i * row_size + 2) count) k (omega (arith, length-map (args_from run (i * row_size + 2) count) (rep_at t), length-reps))
      ∙ ap (rep_at t) (arg-at run (i * row_size + 2) count k h asks.four)

-- the first k arguments have the same representatives
pub record Agreeing (run t : List ℕ) (i j count k : ℕ) : Type 0 where
  pub first : Seated run i count
  pub second : Seated run j count
  pub lists : Comparing (arg_reps run t i count) (arg_reps run t j count) k

pub agreeing-start : (run t : List ℕ) (i j count : ℕ) → Seated run i count → Seated run j count → Agreeing run t i j count 0
agreeing-start run t i j count p q =
    record { first = p; second = q; lists = comparing-start _ _ (length-reps run t i count p ∙ sym (length-reps run t j count q)) }

module _ {run t : List ℕ} {i j count k : ℕ} (g : Agreeing run t i j count k) where
  long-left : length (arg_reps run t i count) ≡ count
  long-left = length-reps run t i count g.first

  module _ {r : Bool} (h : k < count) (er : r ≡ same_arg run t i j k) where
    at_left : get_or (arg_reps run t i count) k 0 ≡ rep_at t (arg_in run i k)
    at_left = reps-at run t i count g.first k h

    at_right : get_or (arg_reps run t j count) k 0 ≡ rep_at t (arg_in run j k)
    at_right = reps-at run t j count g.second k h

    in_left : k < length (arg_reps run t i count)
    in_left = omega (arith, long-left)

    pub agreeing-next : not r ≡ false → Agreeing run t i j count (k + 1)
    unfolding same_arg
    agreeing-next e =
        record { first = g.first; second = g.second; lists = comparing-next g.lists in_left (at_left ∙ eqb-true _ _ (sym er ∙ not-false r e) ∙ sym at_right) }

    pub agreeing-differs : not r ≡ true → false ≡ same_args run t i j count
    unfolding same_arg same_args
    agreeing-differs e = comparing-differs g.lists in_left (λ q. eqb-false _ _ (sym er ∙ not-true r e) (sym at_left ∙ q ∙ at_right))

  pub agreeing-done : count ≤ k → true ≡ same_args run t i j count
  unfolding same_args
  agreeing-done h = comparing-done g.lists (omega (arith, long-left))

-- ---- two rows compared

module _ (run : List ℕ) (i j p q : ℕ) (ep : p ≡ symbol_in run i) (eq : q ≡ symbol_in run j) where
  pub shape-symbols : (p ≡ q → ⊥) → eqb p q ≡ same_shape run i j
  unfolding same_shape
  shape-symbols d = rw (ne_eqb p q d, ne_eqb (symbol_in run i) (symbol_in run j) (λ e. d (ep ∙ e ∙ sym eq)))

  pub shape-counts : (c d : ℕ) → p ≡ q → c ≡ count_in run i → d ≡ count_in run j → eqb c d ≡ same_shape run i j
  unfolding same_shape
  shape-counts c d e ec ed = rw (eq-eqb (symbol_in run i) (symbol_in run j) (sym ep ∙ e ∙ eq), ec, ed)

module _ (run t : List ℕ) (i j : ℕ) (laid : Laid run) (hi : i < row_count run) (hj : j < row_count run) where
  agree-in : agree (rows_of run) t i j
      ≡ (eqb (symbol_in run i) (symbol_in run j) && same_list (arg_reps run t i (count_in run i)) (arg_reps run t j (count_in run j)))
  unfolding agree
  agree-in = rw (rows-at run i hi, rows-at run j hj)

  module _ (s : Bool) (es : s ≡ same_shape run i j) where
    pub agree-shapes : s ≡ false → s ≡ agree (rows_of run) t i j
    unfolding same_shape
    agree-shapes d = d ∙ go (eqb (symbol_in run i) (symbol_in run j)) refl (same_list l m) refl
      where
        l : List ℕ
        l = arg_reps run t i (count_in run i)

        m : List ℕ
        m = arg_reps run t j (count_in run j)

        long : (k : ℕ) → k < row_count run → length (arg_reps run t k (count_in run k)) ≡ count_in run k
        long k h = length-reps run t k (count_in run k) (record { inside = h; four = laid.few k h })

        shapes : (eqb (symbol_in run i) (symbol_in run j) && eqb (count_in run i) (count_in run j)) ≡ false
        shapes = sym es ∙ d

        go : (x : Bool) → eqb (symbol_in run i) (symbol_in run j) ≡ x → (y : Bool) → same_list l m ≡ y → false ≡ agree (rows_of run) t i j
        go false e y f = sym (agree-in ∙ rw e refl)
        go true e false f = sym (agree-in ∙ rw (e, f) refl)
        go true e true f =
            let n : eqb (count_in run i) (count_in run j) ≡ true = eq-eqb _ _ (sym (long i hi) ∙ ap length (same_list-true l m f) ∙ long j hj) in
            let w : (eqb (symbol_in run i) (symbol_in run j) && eqb (count_in run i) (count_in run j)) ≡ true = rw (e, n) refl in
            false-true w shapes

    pub agree-args : (c : ℕ) (r : Bool) → s ≡ true → c ≡ count_in run i → r ≡ same_args run t i j c → r ≡ agree (rows_of run) t i j
    unfolding same_shape same_args
    agree-args c r e ec er =
        er ∙ ap₂ (λ (x y : ℕ). same_list (arg_reps run t i x) (arg_reps run t j y)) ec (ec ∙ eqb-true _ _ (and-true-right a b (sym es ∙ e)))
        ∙ sym (agree-in ∙ rw (and-true-left a b (sym es ∙ e)))
      where
        a : Bool
        a = eqb (symbol_in run i) (symbol_in run j)

        b : Bool
        b = eqb (count_in run i) (count_in run j)

-- the counts of rows that are there
pub seated-own : (run : List ℕ) (i c : ℕ) → Laid run → i < row_count run → c ≡ count_in run i → Seated run i c
seated-own run i c laid h e = record { inside = h; four = omega (arith, laid.few i h) }

-- rows of one shape have one count
pub seated-other : (run : List ℕ) (i j c : ℕ) (s : Bool) → Laid run → i < row_count run → j < row_count run → s ≡ same_shape run i j → s ≡ true
    → c ≡ count_in run i → Seated run j c
unfolding same_shape
seated-other run i j c s laid hi hj es e ec =
    let f : count_in run i ≡ count_in run j = eqb-true _ _ (and-true-right (eqb (symbol_in run i) (symbol_in run j)) _ (sym es ∙ e)) in
    record { inside = hj; four = omega (arith, laid.few i hi) }

-- arguments with one representative
pub same-arg : (run t : List ℕ) (i j k a b : ℕ) → a ≡ rep_at t (arg_in run i k) → b ≡ rep_at t (arg_in run j k) → eqb a b ≡ same_arg run t i j k
unfolding same_arg
same-arg run t i j k a b ea eb = rw (ea, eb)

-- the representative of an argument
pub arg-class : (run t : List ℕ) (i k x r : ℕ) → x ≡ arg_in run i k → r ≡ rep_at t x → r ≡ rep_at t (arg_in run i k)
arg-class run t i k x r e q = q ∙ ap (rep_at t) e

-- ---- the key of a row's chain

mix-snoc : (s : ℕ) (l : List ℕ) (a : ℕ) → mix s (l ++ (a ∷ [])) ≡ (mix s l * 31 + a) % chains
unfolding mix
mix-snoc s [] a = refl
mix-snoc s (x ∷ l) a = mix-snoc ((s * 31 + x) % chains) l a

pub mix-below : (s : ℕ) (l : List ℕ) → s < chains → mix s l < chains
unfolding mix
mix-below s [] h = h
mix-below s (x ∷ l) h = mix-below ((s * 31 + x) % chains) l (omega arith)

-- the first k arguments are mixed in
pub record Mixing (run t : List ℕ) (i count s key k : ℕ) : Type 0 where
  pub asks : Seated run i count
  pub so : key ≡ mix s (take k (arg_reps run t i count))
  pub small : key < chains
  pub reach : k ≤ count

pub mixing-start : (run t : List ℕ) (i count s : ℕ) → Seated run i count → s < chains → Mixing run t i count s s 0
unfolding mix
mixing-start run t i count s asks h = record { asks = asks; so = refl; small = h; reach = omega arith }

module _ {run t : List ℕ} {i count s key k : ℕ} (m : Mixing run t i count s key k) where
  long-mixing : length (arg_reps run t i count) ≡ count
  long-mixing = length-reps run t i count m.asks

  pub mixing-next : {a b : ℕ} → k < count → a ≡ rep_at t (arg_in run i k) → b ≡ a → Mixing run t i count s ((key * 31 + b) % chains) (k + 1)
  mixing-next {a} {b} h ea eb =
      record {
        asks = m.asks;
        so = rw (add-one, take-suc (arg_reps run t i count) k 0 inside, mix-snoc s (take k (arg_reps run t i count)) (get_or (arg_reps run t i count) k 0), at, ← m.so);
        small = omega arith;
        reach = omega arith;
      }
    where
      inside : k < length (arg_reps run t i count)
      inside = omega (arith, long-mixing)

      at : get_or (arg_reps run t i count) k 0 ≡ b
      at = reps-at run t i count m.asks k h ∙ sym ea ∙ sym eb

  pub mixing-done : count ≤ k → key ≡ mix s (arg_reps run t i count)
  mixing-done h =
      let e : k ≡ length (arg_reps run t i count) = omega (arith, long-mixing, m.reach) in
      m.so ∙ ap (λ (n : ℕ). mix s (take n (arg_reps run t i count))) e ∙ rw (take-length (arg_reps run t i count))

pub key-of : (run t : List ℕ) (i x y c r : ℕ) → i < row_count run → x ≡ symbol_in run i → y ≡ x → c ≡ count_in run i → r ≡ mix ((y * 37) % chains) (arg_reps run t i c)
    → r ≡ key_of (rows_of run) t i
unfolding key_of
key-of run t i x y c r h ex ey ec e = e ∙ rw (rows-at run i h, ← ec, ← ex, ← ey)

pub ruleset mine = (
  rules,
  agreeing-start,
  agreeing-next,
  agreeing-differs,
  agreeing-done,
  shape-symbols,
  shape-counts,
  agree-shapes,
  agree-args,
  seated-own,
  seated-other,
  same-arg,
  arg-class,
  mixing-start,
  mixing-next,
  mixing-done,
  key-of,
)
