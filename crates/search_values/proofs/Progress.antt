-- Some rows of an order read, row by row.
--     Reading, reading-start .. reading-done     the rest of the rows is left to read
--     mine                                       what the reading leaves to show
-- Assumes nothing.
use mathlib.Core.List.{List, [], ◌∷◌, ◌++◌}
use mathlib.Core.Path.{◌≡◌, refl, sym, ap, ap₂, ◌∙◌}
use Prim.Native.Nat.{ℕ, suc, ◌+◌, ◌≤◌, ◌<◌}
use native.Mathlib.Omega.{arith}
use native.Mathlib.Numerals.{add-one}
use borrow.Author.Rules.{rules}
use lib.ListN.{length, get_or, set, take, length-set, length-take, drop_of_length-le}
use lib.Seq.{take-suc, slice, slice-cons}
use Rattle.meaning.specs.Context.{Row}
use Rattle.meaning.specs.Rules.{Pattern}
use Rattle.meaning.specs.Values.{pattern_at, Numbering, number_of, step, number}
use Rattle.runs.specs.Runs.{pattern_count}
use Rattle.search_values.specs.Reading.{Asked, state_of, term_of, read_of}

pub record Reading (rows : List Row) (rep : ℕ → ℕ) (ps : List Pattern) (order chosen values₀ : List ℕ) (from : ℕ) (values : List ℕ) (n j : ℕ) : Type 0 where
  pub count : n ≡ length order
  pub long : length values ≡ length values₀
  pub same : read_of rows rep ps order chosen values₀ from n ≡ read_of rows rep ps order chosen values j n

module _ (rows : List Row) (rep : ℕ → ℕ) (ps : List Pattern) (order chosen values₀ : List ℕ) (from : ℕ) where
  pub reading-start : (n : ℕ) → n ≡ length order → Reading rows rep ps order chosen values₀ from values₀ n from
  reading-start n e = record { count = e; long = refl; same = refl }

  module _ (values : List ℕ) (n j : ℕ) (w : Reading rows rep ps order chosen values₀ from values n j) where
    pub reading-inside : j < n → j < length order
    reading-inside h = omega (arith, w.count)

    module _ (row v : ℕ) (h : j < n) (e : row ≡ get_or order j 0) (q : v ≡ term_of rows rep ps order chosen values j row) where
      term_fresh : term_of rows rep ps order chosen values j row ≡ number_of rows rep 65536 ps chosen (state_of values order j) (65536 + row) (pattern_at ps row)
      unfolding term_of
      term_fresh = refl

      state-next : step rows rep 65536 ps chosen (state_of values order j) row ≡ state_of (set values row v) order (suc j)
      unfolding step
      state-next = ap₂ made (sym (q ∙ term_fresh)) (ap (λ (x : ℕ). take j order ++ (x ∷ [])) e ∙ sym (take-suc order j 0 (reading-inside h)))
        where
          made : ℕ → List ℕ → Numbering
          made x l = record { numbers = set values row x; done = l }

      pub reading_step : Reading rows rep ps order chosen values₀ from (set values row v) n (j + 1)
      unfolding read_of number
      reading_step =
          record {
            count = w.count;
            long = length-set values row v ∙ w.long;
            same =
                w.same
                ∙ ap (λ (x : List ℕ). (number rows rep 65536 ps chosen (state_of values order j) x).numbers)
                (slice-cons j n order 0 h (omega (arith, w.count)) ∙ ap (◌∷ slice (suc j) n order) (sym e))
                ∙ ap (λ (x : Numbering). (number rows rep 65536 ps chosen x (slice (suc j) n order)).numbers) state-next
                ∙ ap (λ (x : ℕ). (number rows rep 65536 ps chosen (state_of (set values row v) order x) (slice x n order)).numbers) (sym (add-one j));
          }

    pub reading-done : n ≤ j → values ≡ read_of rows rep ps order chosen values₀ from (length order)
    unfolding read_of number
    reading-done h =
        sym
        (ap (read_of rows rep ps order chosen values₀ from) (sym w.count) ∙ w.same
        ∙ ap (λ (x : List ℕ). (number rows rep 65536 ps chosen (state_of values order j) x).numbers) none)
      where
        none : slice j n order ≡ []
        none = let l : length (take n order) ≤ j = omega (arith, length-take n order) in drop_of_length-le (take n order) l

-- ---- what the reading of one row asks

module _ (rows table keys patterns order values₀ values : List ℕ) (n j : ℕ) (e : n ≡ length order)
    (a : Asked rows table keys patterns order (length order) (length values₀)) (long : length values ≡ length values₀) (h : j < n) where
  pub reading-asked : Asked rows table keys patterns order j (length values)
  reading-asked =
      record {
        ledger = a.ledger;
        reading =
            record {
              rule = a.reading.rule;
              listed = record { long = omega arith; rows = λ i l. a.reading.listed.rows i (omega arith) };
              valued = omega (arith, a.reading.valued);
            };
      }

  pub reading-row : (row : ℕ) → row ≡ get_or order j 0 → row < pattern_count patterns
  reading-row row q = omega (arith, a.reading.listed.rows j (omega arith))

  pub reading-known : (row : ℕ) → row ≡ get_or order j 0 → row < length values
  reading-known row q = omega (arith, reading-row row q, a.reading.valued)

pub ruleset mine = (rules, reading-start, reading-inside, reading_step, reading-done, reading-asked, reading-row, reading-known)
