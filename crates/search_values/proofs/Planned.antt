-- The order of a plan, level by level, as the reading takes it.
--     order-front, order-listed        the rows of the levels below k come first in the order, and are pattern rows
--     planned-first, planned-more      the rows of one level more are read: the values are those of the stages of `meaning`
-- Assumes nothing.
use mathlib.Core.Bool.{Bool, true, false}
use mathlib.Core.List.{List, [], ◌∷◌, ◌++◌}
use mathlib.Core.Path.{◌≡◌, refl, sym, ap, ap₂, ◌∙◌}
use Prim.Native.Nat.{ℕ, zero, suc, ◌+◌, ◌-◌, ◌≤◌}
use native.Mathlib.Omega.{arith}
use lib.Dec.{eqb}
use lib.ListN.{length, take, drop, replicate, length-take}
use lib.Seq.{take-length, take-append-le, take-append_seam, drop-append_seam}
use Rattle.meaning.specs.Context.{Row}
use Rattle.meaning.specs.Rules.{Pattern, Below}
use Rattle.meaning.specs.Columns.{pad}
use Rattle.meaning.specs.Values.{levels, rows_at, number, stages}
use Rattle.meaning.proofs.Levels.{length-levels, number-done}
use Rattle.meaning.proofs.Lists.{below-append, below_at}
use Rattle.runs.specs.Limits.{most_patterns}
use Rattle.runs.specs.Runs.{pattern_count, patterns_of}
use Rattle.runs.proofs.Saying.{length-patterns}
use Rattle.search_plan.specs.Order.{level_count, up_to}
use Rattle.search_plan.specs.Plans.{row_numbers}
use Rattle.search_values.specs.Reading.{Listed, read_of}

-- ---- the order

up-front : (ls : List ℕ) (k m : ℕ) → take (length (up_to ls k)) (up_to ls (k + m)) ≡ up_to ls k
unfolding up_to
up-front ls k zero = let e : k + 0 ≡ k = omega arith in rw e (take-length (up_to ls k))
up-front ls k (suc m) = go (up-front ls k m)
  where
    go : take (length (up_to ls k)) (up_to ls (k + m)) ≡ up_to ls k → take (length (up_to ls k)) (up_to ls (k + suc m)) ≡ up_to ls k
    go ih =
        let e : k + suc m ≡ suc (k + m) = omega arith in
        let l : length (up_to ls k) ≤ length (up_to ls (k + m)) = omega (arith, ap length ih, length-take (length (up_to ls k)) (up_to ls (k + m))) in
        rw e (take-append-le (length (up_to ls k)) (up_to ls (k + m)) (rows_at (k + m) 0 ls) l ∙ ih)

pub order-front : (ls : List ℕ) (k : ℕ) → k ≤ level_count → take (length (up_to ls k)) (row_numbers (up_to ls level_count)) ≡ up_to ls k
unfolding pad
order-front ls k h =
    let e : k + (level_count - k) ≡ level_count = omega arith in
    let f : take (length (up_to ls k)) (up_to ls level_count) ≡ up_to ls k = ap (λ (n : ℕ). take (length (up_to ls k)) (up_to ls n)) (sym e) ∙ up-front ls k (level_count - k) in
    let l : length (up_to ls k) ≤ length (up_to ls level_count) = omega (arith, ap length f, length-take (length (up_to ls k)) (up_to ls level_count)) in
    take-append-le (length (up_to ls k)) (up_to ls level_count) (replicate (most_patterns - length (up_to ls level_count)) 0) l ∙ f

rows-below : (n k i : ℕ) (l : List ℕ) → i + length l ≤ n → Below n (rows_at k i l)
unfolding rows_at
rows-below n k i [] h = tt
rows-below n k i (x ∷ l) h = go (eqb x k) refl (rows-below n k (suc i) l (omega arith))
  where
    go : (b : Bool) → eqb x k ≡ b → Below n (rows_at k (suc i) l) → Below n (rows_at k i (x ∷ l))
    go true e ih = rw (e, rows_at) (omega arith, ih)
    go false e ih = rw (e, rows_at) ih

up-below : (ls : List ℕ) (k : ℕ) → Below (length ls) (up_to ls k)
unfolding up_to
up-below ls zero = tt
up-below ls (suc k) = below-append (length ls) (up_to ls k) (rows_at k 0 ls) (up-below ls k) (rows-below (length ls) k 0 ls (omega arith))

pub order-listed : (patterns : List ℕ) (k : ℕ)
    → Listed (up_to (levels (patterns_of patterns)) k) (length (up_to (levels (patterns_of patterns)) k)) (pattern_count patterns)
order-listed patterns k =
    record {
      long = omega arith;
      rows = λ j h.
          omega (arith, below_at (length ls) (up_to ls k) (up-below ls k) j h, length-levels (patterns_of patterns), length-patterns patterns);
    }
  where
    ls : List ℕ
    ls = levels (patterns_of patterns)

-- ---- the values

module _ (rows : List Row) (rep : ℕ → ℕ) (ps : List Pattern) (chosen : List ℕ) where
  stages-done : (k : ℕ) → (stages rows rep 65536 ps chosen k).done ≡ up_to (levels ps) (suc k)
  unfolding stages up_to
  stages-done zero = number-done rows rep 65536 ps chosen (record { numbers = replicate (length ps) 0; done = [] }) (rows_at 0 0 (levels ps))
  stages-done (suc k) =
      number-done rows rep 65536 ps chosen (stages rows rep 65536 ps chosen k) (rows_at (suc k) 0 (levels ps)) ∙ ap (◌++ rows_at (suc k) 0 (levels ps)) (stages-done k)

  -- what follows some rows of an order is read after them
  read-rest : (values first rest : List ℕ)
      → read_of rows rep ps (first ++ rest) chosen values (length first) (length (first ++ rest)) ≡ (number rows rep 65536 ps chosen (record { numbers = values; done = first }) rest).numbers
  unfolding read_of
  read-rest values first rest =
      ap₂ (λ (d rs : List ℕ). (number rows rep 65536 ps chosen (record { numbers = values; done = d }) rs).numbers) (take-append_seam first rest)
      (ap (drop (length first)) (take-length (first ++ rest)) ∙ drop-append_seam first rest)

  pub planned-first : read_of rows rep ps (up_to (levels ps) 1) chosen (replicate (length ps) 0) 0 (length (up_to (levels ps) 1)) ≡ (stages rows rep 65536 ps chosen 0).numbers
  unfolding stages up_to
  planned-first = read-rest (replicate (length ps) 0) [] (rows_at 0 0 (levels ps))

  pub planned-more : (k : ℕ)
      → read_of rows rep ps (up_to (levels ps) (suc (suc k))) chosen (stages rows rep 65536 ps chosen k).numbers (length (up_to (levels ps) (suc k))) (length (up_to (levels ps) (suc (suc k))))
      ≡ (stages rows rep 65536 ps chosen (suc k)).numbers
  unfolding stages up_to
  planned-more k =
      read-rest (stages rows rep 65536 ps chosen k).numbers (up_to (levels ps) (suc k)) (rows_at (suc k) 0 (levels ps))
      ∙ ap (λ (d : List ℕ). (number rows rep 65536 ps chosen (record { numbers = (stages rows rep 65536 ps chosen k).numbers; done = d }) (rows_at (suc k) 0 (levels ps))).numbers) (sym (stages-done k))
