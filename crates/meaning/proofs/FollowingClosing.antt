-- A table that is closed, closed further for one equation more: the way goes on from the classes that are there, and leads where a closing from own
-- numbers leads.
--     Grown                                rows that have one representative go on to have one
--     closed-sofar, with-given             a closed table is a good start, and the two rows are equal
--     lower-sofar                          one class goes to another that is lower
--     further-closed, further-promise      where the two rows, and each two rows that agree, have one representative, the table is closed again
--     close_from, close_from-closed          rounds from a table on end in a closed one
--     close_from-represents, close_from-same which has the classes of a closing from own numbers
-- Assumes nothing.
use mathlib.Core.Bool.{Bool, true, false}
use mathlib.Core.List.{List, ◌∷◌, map}
use mathlib.Core.Path.{◌≡◌, refl}
use Prim.Native.Nat.{ℕ, zero, suc, ◌≤◌, ◌<◌}
use native.Mathlib.Omega.{arith}
use lib.Dec.{eqb}
use borrow.Author.Tests.{eqb-true, eqb-false}
use lib.ListN.{length}
use Rattle.meaning.specs.Context.{Row, Term, row_at, term_at, Context, equations_of, equations, left_at, right_at}
use Rattle.meaning.specs.Equality.{Equal, Representatives, Promise, rep_at, given}
use Rattle.meaning.specs.Formed.{Ordered, Within, Fit}
use Rattle.meaning.specs.Following.{with_equation}
use Rattle.meaning.specs.Closing.{Sofar, move, total, round, rounds, close}
use Rattle.meaning.proofs.Model.{Closed}
use Rattle.meaning.proofs.Progress.{merge_keeps}
use Rattle.meaning.proofs.Closes.{Going, sum, going_on, going-ends}
use Rattle.meaning.proofs.Promised.{representatives-one, representatives-closed, closed-representatives, closing-represents}
use Rattle.meaning.proofs.Pairs.{same-mono}
use Rattle.meaning.proofs.Following.{with-fit}

abbrev pub Grown : ℕ → (ℕ → ℕ) → (ℕ → ℕ) → Type 0
Grown n rep rep' = (x y : ℕ) → x < n → y < n → rep x ≡ rep y → rep' x ≡ rep' y

module _ (rows : List Row) (eqs : List (ℕ × ℕ)) (i j : ℕ) where
  equal-with : {s t : Term} → Equal rows eqs s t → Equal rows ((i, j) ∷ eqs) s t
  equal-with = same-mono (λ s t g. given (suc g.0, omega (arith, g.1), g.2, g.3))

  -- the equation itself
  pub with-given : Equal rows ((i, j) ∷ eqs) (term_at rows i) (term_at rows j)
  with-given = given (0, omega arith, refl, refl)

  -- ---- by a table as a function on the rows

  module _ (rep : ℕ → ℕ) (closed : Closed rows eqs rep) where
    pub closed-sofar : Sofar rows ((i, j) ∷ eqs) rep
    closed-sofar = record { low = closed.low; settled = closed.settled; sound = λ r h. equal-with (closed.sound r h) }

    -- the one class goes to the other, which is lower
    module _ (lo hi : ℕ) (less : lo < hi) (inside : hi < length rows) (at-lo : rep lo ≡ lo) (at-hi : rep hi ≡ hi)
        (same : Equal rows ((i, j) ∷ eqs) (term_at rows hi) (term_at rows lo)) where
      pub lower-sofar : Sofar rows ((i, j) ∷ eqs) (λ r. move lo hi (rep r))
      lower-sofar = merge_keeps rows ((i, j) ∷ eqs) rep (λ r. move lo hi (rep r)) lo hi closed-sofar less inside at-lo at-hi same (λ r h. refl)

    -- the equations that were there stay met
    pub further-closed : Within (length rows) eqs → (rep' : ℕ → ℕ) → Sofar rows ((i, j) ∷ eqs) rep' → Grown (length rows) rep rep' → rep' i ≡ rep' j
        → ((r s : ℕ) → r < length rows → s < length rows → (row_at rows r).symbol ≡ (row_at rows s).symbol
        → map rep' (row_at rows r).args ≡ map rep' (row_at rows s).args → rep' r ≡ rep' s)
        → Closed rows ((i, j) ∷ eqs) rep'
    further-closed within rep' so grown e alike = record { low = so.low; settled = so.settled; joined = each; alike = alike; sound = so.sound }
      where
        each : (k : ℕ) → k < suc (length eqs) → rep' (left_at ((i, j) ∷ eqs) k) ≡ rep' (right_at ((i, j) ∷ eqs) k)
        each zero h = e
        each (suc k) h =
            let l : k < length eqs = omega arith in
            grown (left_at eqs k) (right_at eqs k) (within k l).0 (within k l).1 (closed.joined k l)

-- ---- what is promised of a table of n places

module _ (c : Context) (fit : Fit c) (i j : ℕ) (hi : i < length c.rows) (hj : j < length c.rows) (n : ℕ) (t : List ℕ) (old : Promise c n t) where
  pub further-promise : (u : List ℕ) → length u ≡ n → Sofar c.rows ((i, j) ∷ equations c) (rep_at u) → Grown (length c.rows) (rep_at t) (rep_at u)
      → rep_at u i ≡ rep_at u j
      → ((r s : ℕ) → r < length c.rows → s < length c.rows → (row_at c.rows r).symbol ≡ (row_at c.rows s).symbol
      → map (rep_at u) (row_at c.rows r).args ≡ map (rep_at u) (row_at c.rows s).args → rep_at u r ≡ rep_at u s)
      → ((r : ℕ) → length c.rows ≤ r → r < n → rep_at u r ≡ r)
      → Promise (with_equation c i j) n u
  unfolding equations_of
  further-promise u long so grown e alike others =
      record {
        long = long;
        rows = closed-representatives (with_equation c i j) (with-fit c fit i j hi hj) (rep_at u)
            (further-closed c.rows (equations c) i j (rep_at t) (representatives-closed c fit (rep_at t) old.rows) fit.within (rep_at u) so grown e alike);
        others = others;
      }

-- ---- in rounds

unfoldable pub close_from : List Row → List (ℕ × ℕ) → List ℕ → List ℕ
close_from rows eqs l = rounds rows eqs (suc (total (length rows) (rep_at l))) l

module _ (rows : List Row) (eqs : List (ℕ × ℕ)) (ordered : Ordered rows) (within : Within (length rows) eqs) where
  rounds-closed : (fuel : ℕ) (l : List ℕ) → Going rows eqs l → sum rows eqs l < fuel → Closed rows eqs (rep_at (rounds rows eqs fuel l))
  unfolding rounds
  rounds-closed zero l g h = absurd (omega arith)
  rounds-closed (suc fuel) l g h = go (eqb (sum rows eqs (round rows eqs l)) (sum rows eqs l)) refl (rounds-closed fuel (round rows eqs l))
    where
      next : List ℕ
      next = round rows eqs l

      go : (b : Bool) → eqb (sum rows eqs next) (sum rows eqs l) ≡ b
          → (Going rows eqs next → sum rows eqs next < fuel → Closed rows eqs (rep_at (rounds rows eqs fuel next)))
          → Closed rows eqs (rep_at (rounds rows eqs (suc fuel) l))
      go true e ih = rw (e, rounds) (going-ends rows eqs ordered within l g (eqb-true (sum rows eqs next) (sum rows eqs l) e))
      go false e ih =
          let w : Going rows eqs next × (sum rows eqs next < sum rows eqs l) = going_on rows eqs ordered within l g (eqb-false (sum rows eqs next) (sum rows eqs l) e) in
          rw (e, rounds) (ih w.0 (omega (arith, w.1)))

  pub close_from-closed : (l : List ℕ) → Going rows eqs l → Closed rows eqs (rep_at (close_from rows eqs l))
  unfolding close_from
  close_from-closed l g = rounds-closed (suc (sum rows eqs l)) l g (omega arith)

module _ (c : Context) (fit : Fit c) (i j : ℕ) (hi : i < length c.rows) (hj : j < length c.rows)
    (l : List ℕ) (long : length l ≡ length c.rows) (closed : Closed c.rows (equations c) (rep_at l)) where
  pub close_from-represents : Representatives (with_equation c i j) (rep_at (close_from c.rows ((i, j) ∷ equations c) l))
  unfolding equations_of
  close_from-represents =
      closed-representatives (with_equation c i j) (with-fit c fit i j hi hj) (rep_at (close_from c.rows ((i, j) ∷ equations c) l))
      (close_from-closed c.rows ((i, j) ∷ equations c) fit.ordered (with-fit c fit i j hi hj).within l
      (record { long = long; so = closed-sofar c.rows (equations c) i j (rep_at l) closed }))

  pub close_from-same : (r : ℕ) → r < length c.rows
      → rep_at (close_from c.rows ((i, j) ∷ equations c) l) r ≡ rep_at (close c.rows ((i, j) ∷ equations c)) r
  unfolding equations_of
  close_from-same =
      representatives-one (with_equation c i j) (rep_at (close_from c.rows ((i, j) ∷ equations c) l)) (rep_at (close c.rows ((i, j) ∷ equations c)))
      close_from-represents
      (closing-represents (with_equation c i j) (with-fit c fit i j hi hj))
