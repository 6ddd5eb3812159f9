-- Two lists of numbers compared from their start.
--     Comparing                                   the first k elements are the same
--     over-lengths, over-start .. over_done       the values of a row's arguments compared with wanted ones
-- Assumes nothing.
use mathlib.Core.Bool.{Bool, true, false, ◌&&◌}
use mathlib.Core.List.{List, [], ◌∷◌, map}
use mathlib.Core.Path.{◌≡◌, refl, sym, ap, ◌∙◌}
use Prim.Native.Nat.{ℕ, zero, suc, ◌+◌, ◌*◌, ◌≤◌, ◌<◌}
use native.Mathlib.Omega.{arith}
use native.Mathlib.Numerals.{add-one}
use lib.Dec.{eqb}
use borrow.Author.Tests.{eq-eqb, ne_eqb}
use lib.ListN.{length, get_or, take, drop, drop_of_length-le, length-take, length-map}
use lib.Seq.{drop-cons, get_or-take}
use Rattle.meaning.specs.ByTable.{same_list}
use Rattle.meaning.specs.Columns.{args_at}
use Rattle.meaning.proofs.Lists.{same_list-true}
use Rattle.values.specs.Chains.{Lined}
use Rattle.columns.proofs.Flat.{arg-at, args-length}

pub record Comparing (l m : List ℕ) (k : ℕ) : Type 0 where
  pub left : same_list l m ≡ same_list (drop k l) (drop k m)
  pub long : length l ≡ length m

comparing-start : (l m : List ℕ) → length l ≡ length m → Comparing l m 0
comparing-start l m e = record { left = refl; long = e }

comparing-step : {l m : List ℕ} {k : ℕ} → Comparing l m k → k < length l
    → same_list l m ≡ (eqb (get_or l k 0) (get_or m k 0) && same_list (drop (suc k) l) (drop (suc k) m))
unfolding same_list
comparing-step {l} {m} {k} c h =
    let h' : k < length m = omega arith in
    c.left ∙ rw (drop-cons l k 0 h, drop-cons m k 0 h')

comparing-next : {l m : List ℕ} {k : ℕ} → Comparing l m k → k < length l → get_or l k 0 ≡ get_or m k 0 → Comparing l m (k + 1)
comparing-next {l} {m} {k} c h e =
    record { left = rw add-one (comparing-step c h ∙ rw (eq-eqb (get_or l k 0) (get_or m k 0) e)); long = c.long }

comparing-differs : {l m : List ℕ} {k : ℕ} → Comparing l m k → k < length l → (get_or l k 0 ≡ get_or m k 0 → ⊥) → same_list l m ≡ false
comparing-differs {l} {m} {k} c h e = comparing-step c h ∙ rw (ne_eqb (get_or l k 0) (get_or m k 0) e)

comparing-done : {l m : List ℕ} {k : ℕ} → Comparing l m k → length l ≤ k → same_list l m ≡ true
unfolding same_list
comparing-done {l} {m} {k} c h =
    let h' : length m ≤ k = omega arith in
    c.left ∙ rw (drop_of_length-le l h, drop_of_length-le m h')

same_list-lengths : (l m : List ℕ) → (length l ≡ length m → ⊥) → same_list l m ≡ false
same_list-lengths l m n = go (same_list l m) refl
  where
    go : (b : Bool) → same_list l m ≡ b → same_list l m ≡ false
    go true e = absurd (n (ap length (same_list-true l m e)))
    go false e = e

get_d_map : (g : ℕ → ℕ) (l : List ℕ) (k : ℕ) → k < length l → get_or (map g l) k 0 ≡ g (get_or l k 0)
get_d_map g [] k h = absurd (omega arith)
get_d_map g (a ∷ l) zero h = refl
get_d_map g (a ∷ l) (suc k) h = get_d_map g l k (omega arith)

-- the values that g gives to the arguments of row i, and the first so many of those that are wanted
module _ (g : ℕ → ℕ) (counts args wanted : List ℕ) (i count : ℕ)
    (b : Lined counts args i count) (four : length wanted ≡ 4) where
  reps-length : length (map g (args_at counts args i)) ≡ get_or counts i 0
  reps-length = length-map (args_at counts args i) g ∙ args-length counts args i (omega (arith, b.placed.few))

  wanted-length : length (take count wanted) ≡ count
  wanted-length = omega (arith, length-take count wanted, b.few)

  reps-at : (k : ℕ) → k < get_or counts i 0 → get_or (map g (args_at counts args i)) k 0 ≡ g (get_or args (i * 4 + k) 0)
  reps-at k h =
      get_d_map g (args_at counts args i) k (omega (arith, args-length counts args i (omega (arith, b.placed.few)))) ∙ ap g (arg-at counts args i k h)

  pub over-lengths : (get_or counts i 0 ≡ count → ⊥) → same_list (take count wanted) (map g (args_at counts args i)) ≡ false
  over-lengths n = same_list-lengths (take count wanted) (map g (args_at counts args i)) (λ e. n (omega (arith, reps-length, wanted-length)))

  module _ (same : count ≡ get_or counts i 0) where
    pub over-start : Comparing (take count wanted) (map g (args_at counts args i)) 0
    over-start = comparing-start (take count wanted) (map g (args_at counts args i)) (omega (arith, reps-length, wanted-length))

    module _ (k : ℕ) (c : Comparing (take count wanted) (map g (args_at counts args i)) k) where
      pub over-next : (a v : ℕ) → k < count → a ≡ get_or args (i * 4 + k) 0 → v ≡ g a → v ≡ get_or wanted k 0
          → Comparing (take count wanted) (map g (args_at counts args i)) (k + 1)
      over-next a v h p q e =
          comparing-next c (omega (arith, wanted-length))
          (get_or-take count wanted k 0 h ∙ sym e ∙ q ∙ ap g p ∙ sym (reps-at k (omega arith)))

      pub over-differs : (a v : ℕ) → k < count → a ≡ get_or args (i * 4 + k) 0 → v ≡ g a → (v ≡ get_or wanted k 0 → ⊥)
          → same_list (take count wanted) (map g (args_at counts args i)) ≡ false
      over-differs a v h p q n =
          comparing-differs c (omega (arith, wanted-length))
          (λ e. n (q ∙ ap g p ∙ sym (reps-at k (omega arith)) ∙ sym e ∙ get_or-take count wanted k 0 h))

      pub over_done : count ≤ k → same_list (take count wanted) (map g (args_at counts args i)) ≡ true
      over_done h = comparing-done c (omega (arith, wanted-length))

-- the symbol too
pub symbol-other : (f s : ℕ) (b : Bool) → (s ≡ f → ⊥) → false ≡ (eqb f s && b)
symbol-other f s b n = rw (ne_eqb f s (λ e. n (sym e)))

pub symbol-same : (f s : ℕ) (b r : Bool) → s ≡ f → b ≡ r → r ≡ (eqb f s && b)
symbol-same f s b r e q = rw (eq-eqb f s (sym e)) (sym q)
