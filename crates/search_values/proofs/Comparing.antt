-- Two lists of numbers compared from their start.
--     Comparing                                   the first k elements are the same
--     over-lengths, over-start .. over_done       what a function gives for the arguments at some places, compared with wanted numbers
--     mine                                        what the functions that compare leave to show
-- Assumes nothing.
use mathlib.Core.Bool.{Bool, true, false, ◌&&◌}
use mathlib.Core.List.{List, [], ◌∷◌, map}
use mathlib.Core.Path.{◌≡◌, refl, sym, ap, ◌∙◌}
use Prim.Native.Nat.{ℕ, zero, suc, ◌+◌, ◌*◌, ◌≤◌, ◌<◌}
use native.Mathlib.Omega.{arith}
use native.Mathlib.Numerals.{add-one}
use borrow.Author.Rules.{rules}
use borrow.Author.Tests.{eq-eqb, ne_eqb}
use lib.Dec.{eqb}
use lib.ListN.{length, get_or, drop, drop_of_length-le, length-map}
use lib.Seq.{drop-cons}
use Rattle.meaning.specs.ByTable.{same_list}
use Rattle.meaning.specs.Equality.{rep_at}
use Rattle.meaning.proofs.Lists.{same_list-true}
use Rattle.runs.specs.Limits.{row_size, arg_places}
use Rattle.runs.specs.Runs.{args_from, count_in, arg_in, args_in}
use Rattle.runs.proofs.Saying.{arg-at, args-length}
use Rattle.search_values.specs.Lookup.{RowFit}

pub record Comparing (l m : List ℕ) (k : ℕ) : Type 0 where
  pub left : same_list l m ≡ same_list (drop k l) (drop k m)
  pub long : length l ≡ length m

comparing-start : (l m : List ℕ) → length l ≡ length m → Comparing l m 0
comparing-start l m e = record { left = refl; long = e }

comparing-step : {l m : List ℕ} {k : ℕ} → Comparing l m k → k < length l
    → same_list l m ≡ (eqb (get_or l k 0) (get_or m k 0) && same_list (drop (suc k) l) (drop (suc k) m))
unfolding same_list
comparing-step {l} {m} {k} c h =
    let h' : k < length m = omega arith in
    c.left ∙ rw (drop-cons l k 0 h, drop-cons m k 0 h')

comparing-next : {l m : List ℕ} {k : ℕ} → Comparing l m k → k < length l → get_or l k 0 ≡ get_or m k 0 → Comparing l m (k + 1)
comparing-next {l} {m} {k} c h e =
    record { left = rw add-one (comparing-step c h ∙ rw (eq-eqb (get_or l k 0) (get_or m k 0) e)); long = c.long }

comparing-differs : {l m : List ℕ} {k : ℕ} → Comparing l m k → k < length l → (get_or l k 0 ≡ get_or m k 0 → ⊥) → same_list l m ≡ false
comparing-differs {l} {m} {k} c h e = comparing-step c h ∙ rw (ne_eqb (get_or l k 0) (get_or m k 0) e)

comparing-done : {l m : List ℕ} {k : ℕ} → Comparing l m k → length l ≤ k → same_list l m ≡ true
unfolding same_list
comparing-done {l} {m} {k} c h =
    let h' : length m ≤ k = omega arith in
    c.left ∙ rw (drop_of_length-le l h, drop_of_length-le m h')

same_list-lengths : (l m : List ℕ) → (length l ≡ length m → ⊥) → same_list l m ≡ false
same_list-lengths l m n = go (same_list l m) refl
  where
    go : (b : Bool) → same_list l m ≡ b → same_list l m ≡ false
    go true e = absurd (n (ap length (same_list-true l m e)))
    go false e = e

get_d_map : (g : ℕ → ℕ) (l : List ℕ) (k : ℕ) → k < length l → get_or (map g l) k 0 ≡ g (get_or l k 0)
get_d_map g [] k h = absurd (omega arith)
get_d_map g (a ∷ l) zero h = refl
get_d_map g (a ∷ l) (suc k) h = get_d_map g l k (omega arith)

-- what g gives for the arguments from a place on, and the numbers that are wanted
module _ (g : ℕ → ℕ) (run : List ℕ) (at held : ℕ) (wanted : List ℕ) (room : at + arg_places ≤ length run) (some : held ≤ arg_places) where
  abbrev values : List ℕ
  values = map g (args_from run at held)

  values_length : length values ≡ held
  values_length = length-map (args_from run at held) g ∙ args-length run at held room some

  values-at : (k : ℕ) → k < held → get_or values k 0 ≡ g (get_or run (at + k) 0)
  values-at k h = get_d_map g (args_from run at held) k (omega (arith, args-length run at held room some)) ∙ ap g (arg-at run at held k h some)

  pub over-lengths : (held ≡ length wanted → ⊥) → same_list wanted values ≡ false
  over-lengths n = same_list-lengths wanted values (λ e. n (omega (arith, values_length)))

  module _ (same : held ≡ length wanted) where
    pub over-start : Comparing wanted values 0
    over-start = comparing-start wanted values (omega (arith, values_length))

    module _ (k : ℕ) (c : Comparing wanted values k) where
      pub over-next : (v : ℕ) → k < length wanted → v ≡ g (get_or run (at + k) 0) → v ≡ get_or wanted k 0 → Comparing wanted values (k + 1)
      over-next v h q e = comparing-next c h (sym e ∙ q ∙ sym (values-at k (omega arith)))

      pub over-differs : (v : ℕ) → k < length wanted → v ≡ g (get_or run (at + k) 0) → (v ≡ get_or wanted k 0 → ⊥) → same_list wanted values ≡ false
      over-differs v h q n =
          comparing-differs c h (λ e. n (q ∙ sym (values-at k (omega arith)) ∙ sym e))

      pub over_done : length wanted ≤ k → same_list wanted values ≡ true
      over_done h = comparing-done c h

-- ---- the arguments of a row

-- row i counts as many as are wanted, and the classes of the first k are the wanted ones
pub record Matching (rows table : List ℕ) (i : ℕ) (wanted : List ℕ) (k : ℕ) : Type 0 where
  pub same : count_in rows i ≡ length wanted
  pub so : Comparing wanted (map (rep_at table) (args_in rows i)) k

module _ (rows table : List ℕ) (i : ℕ) (wanted : List ℕ) (f : RowFit rows (length table) i) where
  room : i * row_size + 2 + arg_places ≤ length rows
  room = omega (arith, f.inside)

  pub matching-lengths : (n : ℕ) → n ≡ count_in rows i → (n ≡ length wanted → ⊥) → false ≡ same_list wanted (map (rep_at table) (args_in rows i))
  matching-lengths n e d = sym (over-lengths (rep_at table) rows (i * row_size + 2) (count_in rows i) wanted room f.placed.few (λ q. d (e ∙ q)))

  pub matching-start : (n : ℕ) → n ≡ count_in rows i → n ≡ length wanted → Matching rows table i wanted 0
  matching-start n e q =
      let s : count_in rows i ≡ length wanted = sym e ∙ q in
      record { same = s; so = over-start (rep_at table) rows (i * row_size + 2) (count_in rows i) wanted room f.placed.few s }

  module _ (k : ℕ) (m : Matching rows table i wanted k) where
    pub matching-inside : k < length wanted → k < count_in rows i
    matching-inside h = omega (arith, m.same)

    module _ (v : ℕ) (h : k < length wanted) (q : v ≡ rep_at table (arg_in rows i k)) where
      pub matching-next : v ≡ get_or wanted k 0 → Matching rows table i wanted (k + 1)
      matching-next e =
          record {
            same = m.same;
            so =
                over-next (rep_at table) rows (i * row_size + 2) (count_in rows i) wanted room f.placed.few m.same k m.so v h q e;
          }

      pub matching-differs : (v ≡ get_or wanted k 0 → ⊥) → false ≡ same_list wanted (map (rep_at table) (args_in rows i))
      matching-differs n =
          sym (over-differs (rep_at table) rows (i * row_size + 2) (count_in rows i) wanted room f.placed.few m.same k m.so v h q n)

    pub matching-done : length wanted ≤ k → true ≡ same_list wanted (map (rep_at table) (args_in rows i))
    matching-done h = sym (over_done (rep_at table) rows (i * row_size + 2) (count_in rows i) wanted room f.placed.few m.same k m.so h)

module _ (rows : List ℕ) (places i k : ℕ) (f : RowFit rows places i) (h : k < count_in rows i) where
  pub arg-place : k < arg_places
  arg-place = omega (arith, f.placed.few)

  pub arg-known : (a : ℕ) → a ≡ arg_in rows i k → a < places
  arg-known a p = omega (arith, f.placed.earlier.each k h, f.known)

pub arg-class : (rows table : List ℕ) (i k a r : ℕ) → a ≡ arg_in rows i k → r ≡ get_or table a 0 → r ≡ rep_at table (arg_in rows i k)
arg-class rows table i k a r p q = q ∙ ap (rep_at table) p

pub ruleset mine = (rules, matching-lengths, matching-start, matching-inside, matching-next, matching-differs, matching-done, arg-place, arg-known, arg-class)
