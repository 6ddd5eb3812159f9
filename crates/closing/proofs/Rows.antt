-- Rows read from columns: two rows compared, and the key of a row's chain.
--     mine                  what `same_args`, `agree`, `mixed` and `chain` leave to show
-- Assumes nothing.
use mathlib.Core.Bool.{Bool, true, false, ◌&&◌}
use mathlib.Core.List.{List, [], ◌∷◌, ◌++◌}
use mathlib.Core.Path.{◌≡◌, refl, ap, ap₂, sym, ◌∙◌}
use Prim.Native.Nat.{ℕ, suc, ◌+◌, ◌*◌, ◌%◌, ◌≤◌, ◌<◌}
use native.Mathlib.Numerals.{add-one}
use native.Mathlib.Omega.{arith}
use lib.Dec.{eqb}
use lib.ListN.{length, get_or, take, drop, length-take, length-drop, length-map, drop_of_length-le}
use lib.Seq.{drop-cons, get_or-take, get_or-drop, take-suc, take-length}
use borrow.Author.Rules.{rules}
use borrow.Author.Tests.{eq-eqb, ne_eqb}
use Rattle.meaning.specs.Equality.{rep_at}
use Rattle.meaning.specs.ByTable.{same_list}
use Rattle.meaning.specs.Columns.{rows_from}
use Rattle.meaning.specs.Closing.{agree}
use Rattle.meaning.proofs.Lists.{same_list-true}
use Rattle.meaning.proofs.Closes.{rep_at-map}
use Rattle.meaning.proofs.Built.{rows-at}
use Rattle.closing.specs.Steps.{Laid, Comparable, Seated, arg_reps, same_args, mix, key_of}

-- ---- two lists compared from their start: the first k elements are the same
pub record Comparing (l m : List ℕ) (k : ℕ) : Type 0 where
  pub left : same_list l m ≡ same_list (drop k l) (drop k m)
  pub reach : k ≤ length l
  pub long : length l ≡ length m

comparing-start : (l m : List ℕ) → length l ≡ length m → Comparing l m 0
comparing-start l m e = record { left = refl; reach = omega arith; long = e }

comparing-step : {l m : List ℕ} {k : ℕ} → Comparing l m k → k < length l
    → same_list l m ≡ (eqb (get_or l k 0) (get_or m k 0) && same_list (drop (suc k) l) (drop (suc k) m))
unfolding same_list
comparing-step {l} {m} {k} c h =
    let h' : k < length m = omega arith in
    c.left ∙ rw (drop-cons l k 0 h, drop-cons m k 0 h')

comparing-next : {l m : List ℕ} {k : ℕ} → Comparing l m k → k < length l → get_or l k 0 ≡ get_or m k 0 → Comparing l m (k + 1)
comparing-next {l} {m} {k} c h e =
    record { left = rw add-one (comparing-step c h ∙ rw (eq-eqb (get_or l k 0) (get_or m k 0) e)); reach = omega arith; long = c.long }

comparing-differs : {l m : List ℕ} {k : ℕ} → Comparing l m k → k < length l → (get_or l k 0 ≡ get_or m k 0 → ⊥) → false ≡ same_list l m
comparing-differs {l} {m} {k} c h e = sym (comparing-step c h ∙ rw (ne_eqb (get_or l k 0) (get_or m k 0) e))

comparing-done : {l m : List ℕ} {k : ℕ} → Comparing l m k → length l ≤ k → true ≡ same_list l m
unfolding same_list
comparing-done {l} {m} {k} c h =
    let h' : length m ≤ k = omega arith in
    sym (c.left ∙ rw (drop_of_length-le l h, drop_of_length-le m h'))

-- ---- the arguments of two rows compared

module _ (args t : List ℕ) (i count : ℕ) (long : i * 4 + 4 ≤ length args) (four : count ≤ 4) where
  length-reps : length (arg_reps args t i count) ≡ count
  length-reps =
      length-map (take count (drop (i * 4) args)) (rep_at t) ∙ omega (arith, length-take count (drop (i * 4) args), length-drop (i * 4) args)

  reps-at : (k : ℕ) → k < count → get_or (arg_reps args t i count) k 0 ≡ rep_at t (get_or args (i * 4 + k) 0)
  reps-at k h =
      rep_at-map (rep_at t) (take count (drop (i * 4) args)) k (omega (arith, length-map (take count (drop (i * 4) args)) (rep_at t), length-reps))
      ∙ ap (rep_at t) (get_or-take count (drop (i * 4) args) k 0 h ∙ get_or-drop (i * 4) args k 0)

-- the first k arguments have the same representatives
pub record Agreeing (args t : List ℕ) (i j count k : ℕ) : Type 0 where
  pub asks : Comparable args i j count
  pub reach : k ≤ count
  pub lists : Comparing (arg_reps args t i count) (arg_reps args t j count) k

pub agreeing-start : (args t : List ℕ) (i j count : ℕ) → Comparable args i j count → Agreeing args t i j count 0
agreeing-start args t i j count asks =
    record {
      asks = asks;
      reach = omega arith;
      lists = comparing-start _ _
          (length-reps args t i count asks.first-long asks.four ∙ sym (length-reps args t j count asks.second-long asks.four));
    }

module _ {args t : List ℕ} {i j count k : ℕ} (g : Agreeing args t i j count k) where
  long-left : length (arg_reps args t i count) ≡ count
  long-left = length-reps args t i count g.asks.first-long g.asks.four

  module _ {a b : ℕ} (more : k < count) (ea : a ≡ rep_at t (get_or args (i * 4 + k) 0)) (eb : b ≡ rep_at t (get_or args (j * 4 + k) 0)) where
    at_left : get_or (arg_reps args t i count) k 0 ≡ a
    at_left = reps-at args t i count g.asks.first-long g.asks.four k (omega (arith, g.reach)) ∙ sym ea

    at_right : get_or (arg_reps args t j count) k 0 ≡ b
    at_right = reps-at args t j count g.asks.second-long g.asks.four k (omega (arith, g.reach)) ∙ sym eb

    in_left : k < length (arg_reps args t i count)
    in_left = omega (arith, long-left, g.reach)

    pub agreeing-next : a ≡ b → Agreeing args t i j count (k + 1)
    agreeing-next e =
        record {
          asks = g.asks;
          reach = omega arith;
          lists = comparing-next g.lists in_left (at_left ∙ e ∙ sym at_right);
        }

    pub agreeing-differs : (a ≡ b → ⊥) → false ≡ same_args args t i j count
    unfolding same_args
    agreeing-differs d = comparing-differs g.lists in_left (λ e. d (sym at_left ∙ e ∙ at_right))

  pub agreeing-done : count ≤ k → true ≡ same_args args t i j count
  unfolding same_args
  agreeing-done h = comparing-done g.lists (omega (arith, long-left, g.reach))

-- ---- two rows compared

module _ (symbols counts args : List ℕ) (n : ℕ) (t : List ℕ) (i j : ℕ) (laid : Laid counts args n) (hi : i < n) (hj : j < n) where
  agree-in : agree (rows_from symbols counts args n) t i j
      ≡ (eqb (get_or symbols i 0) (get_or symbols j 0) && same_list (arg_reps args t i (get_or counts i 0)) (arg_reps args t j (get_or counts j 0)))
  unfolding agree
  agree-in = rw (rows-at symbols counts args n i hi, rows-at symbols counts args n j hj)

  pub agree-symbols : (get_or symbols i 0 ≡ get_or symbols j 0 → ⊥) → false ≡ agree (rows_from symbols counts args n) t i j
  agree-symbols d = sym (agree-in ∙ rw (ne_eqb (get_or symbols i 0) (get_or symbols j 0) d))

  module _ (e : get_or symbols i 0 ≡ get_or symbols j 0) where
    agree-lists : same_list (arg_reps args t i (get_or counts i 0)) (arg_reps args t j (get_or counts j 0)) ≡ agree (rows_from symbols counts args n) t i j
    agree-lists = sym (agree-in ∙ rw (eq-eqb (get_or symbols i 0) (get_or symbols j 0) e))

    pub agree-counts : (get_or counts i 0 ≡ get_or counts j 0 → ⊥) → false ≡ agree (rows_from symbols counts args n) t i j
    agree-counts d = go (same_list l m) refl ∙ agree-lists
      where
        l : List ℕ
        l = arg_reps args t i (get_or counts i 0)

        m : List ℕ
        m = arg_reps args t j (get_or counts j 0)

        long : (k : ℕ) → k < n → length (arg_reps args t k (get_or counts k 0)) ≡ get_or counts k 0
        long k h = length-reps args t k (get_or counts k 0) (omega (arith, laid.long)) (laid.few k h)

        go : (b : Bool) → same_list l m ≡ b → false ≡ same_list l m
        go false f = sym f
        go true f = absurd (d (sym (long i hi) ∙ ap length (same_list-true l m f) ∙ long j hj))

    pub agree-args : (c : ℕ) (r : Bool) → get_or counts i 0 ≡ get_or counts j 0 → c ≡ get_or counts i 0 → r ≡ same_args args t i j c
        → r ≡ agree (rows_from symbols counts args n) t i j
    unfolding same_args
    agree-args c r f ec er =
        er ∙ ap₂ (λ (x y : ℕ). same_list (arg_reps args t i x) (arg_reps args t j y)) ec (ec ∙ f) ∙ agree-lists

  pub agree-comparable : (c : ℕ) → c ≡ get_or counts i 0 → Comparable args i j c
  agree-comparable c e =
      record { first = omega (arith, laid.room); second = omega (arith, laid.room); first-long = omega (arith, laid.long); second-long = omega (arith, laid.long); four = omega (arith, laid.few i hi) }

-- the representative of an argument
pub arg-class : (args t : List ℕ) (at x r : ℕ) → x ≡ get_or args at 0 → r ≡ rep_at t x → r ≡ rep_at t (get_or args at 0)
arg-class args t at x r e q = q ∙ ap (rep_at t) e

-- ---- the key of a row's chain

mix-snoc : (s : ℕ) (l : List ℕ) (a : ℕ) → mix s (l ++ (a ∷ [])) ≡ (mix s l * 31 + a) % 256
unfolding mix
mix-snoc s [] a = refl
mix-snoc s (x ∷ l) a = mix-snoc ((s * 31 + x) % 256) l a

pub mix-below : (s : ℕ) (l : List ℕ) → s < 256 → mix s l < 256
unfolding mix
mix-below s [] h = h
mix-below s (x ∷ l) h = mix-below ((s * 31 + x) % 256) l (omega arith)

-- the first k arguments are mixed in
pub record Mixing (args t : List ℕ) (i count s key k : ℕ) : Type 0 where
  pub asks : Seated args i count
  pub so : key ≡ mix s (take k (arg_reps args t i count))
  pub small : key < 256
  pub reach : k ≤ count

pub mixing-start : (args t : List ℕ) (i count s : ℕ) → Seated args i count → s < 256 → Mixing args t i count s s 0
unfolding mix
mixing-start args t i count s asks h = record { asks = asks; so = refl; small = h; reach = omega arith }

module _ {args t : List ℕ} {i count s key k : ℕ} (m : Mixing args t i count s key k) where
  long-mixing : length (arg_reps args t i count) ≡ count
  long-mixing = length-reps args t i count m.asks.long m.asks.four

  pub mixing-next : {a b : ℕ} → k < count → a ≡ rep_at t (get_or args (i * 4 + k) 0) → b ≡ a → Mixing args t i count s ((key * 31 + b) % 256) (k + 1)
  mixing-next {a} {b} h ea eb =
      record {
        asks = m.asks;
        so = rw (add-one, take-suc (arg_reps args t i count) k 0 inside, mix-snoc s (take k (arg_reps args t i count)) (get_or (arg_reps args t i count) k 0), at, ← m.so);
        small = omega arith;
        reach = omega arith;
      }
    where
      inside : k < length (arg_reps args t i count)
      inside = omega (arith, long-mixing)

      at : get_or (arg_reps args t i count) k 0 ≡ b
      at = reps-at args t i count m.asks.long m.asks.four k h ∙ sym ea ∙ sym eb

  pub mixing-done : count ≤ k → key ≡ mix s (arg_reps args t i count)
  mixing-done h =
      let e : k ≡ length (arg_reps args t i count) = omega (arith, long-mixing, m.reach) in
      m.so ∙ ap (λ (n : ℕ). mix s (take n (arg_reps args t i count))) e ∙ rw (take-length (arg_reps args t i count))

module _ (symbols counts args t : List ℕ) (n i x c : ℕ) (hi : i < n) (ex : x ≡ get_or symbols i 0) (ec : c ≡ get_or counts i 0) where
  pub key-seated : Laid counts args n → Seated args i c
  key-seated laid = record { inside = omega (arith, laid.room); long = omega (arith, laid.long); four = omega (arith, laid.few i hi) }

  pub key-of : (r : ℕ) → r ≡ mix ((x * 37) % 256) (arg_reps args t i c) → r ≡ key_of (rows_from symbols counts args n) t i
  unfolding key_of
  key-of r e = e ∙ rw (rows-at symbols counts args n i hi, ← ex, ← ec)

pub ruleset mine = (
  rules,
  agreeing-start,
  agreeing-next,
  agreeing-differs,
  agreeing-done,
  agree-symbols,
  agree-counts,
  agree-args,
  agree-comparable,
  arg-class,
  mixing-start,
  mixing-next,
  mixing-done,
  key-seated,
  key-of,
)
