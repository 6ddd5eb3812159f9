-- What a closing promises: the tables of lowest rows are the closed tables, a context has one of them, and such a table decides equality.
--     representatives-same                            equal rows have one representative
--     representatives-closed, closed-representatives  each row has its lowest equal row just where the table is closed
--     representatives-one, promise-one                a promise determines the table
--     closing-represents, closing-promise             the closing keeps the promise
--     model, model-rows                               two terms, or two rows, are equal just where their values, or representatives, are
-- Assumes nothing.
use mathlib.Core.List.{List}
use mathlib.Core.Path.{◌≡◌, refl, sym, ◌∙◌}
use mathlib.Core.Logic.{◌↔◌}
use Prim.Native.Nat.{ℕ, ◌≤◌, ◌<◌}
use native.Mathlib.Omega.{arith}
use native.Mathlib.Decide.{dec_lt}
use lib.ListN.{length}
use lib.Seq.{ext_get_or}
use Rattle.meaning.specs.Context.{Term, Context, term_at, equations}
use Rattle.meaning.specs.Equality.{EqualIn, given, reflexive, symmetric, transitive, Lowest, Representatives, Promise, rep_at}
use Rattle.meaning.specs.Formed.{Fit}
use Rattle.meaning.specs.Closing.{Sofar, close}
use Rattle.meaning.proofs.Model.{Closed, eval}
use Rattle.meaning.proofs.Meaning.{meaning, meaning-rows}
use Rattle.meaning.proofs.Closes.{agree-equal, close-closed, close-long}

-- ---- lowest rows

lowest-le : (c : Context) (i j p q : ℕ) → EqualIn c (term_at c.rows i) (term_at c.rows j) → Lowest c i p → Lowest c j q → p ≤ q
lowest-le c i j p q d a b = a.least q b.row (transitive d b.equal)

lowest-same : (c : Context) (i j p q : ℕ) → EqualIn c (term_at c.rows i) (term_at c.rows j) → Lowest c i p → Lowest c j q → p ≡ q
lowest-same c i j p q d a b = omega (arith, lowest-le c i j p q d a b, lowest-le c j i q p (symmetric d) b a)

pub representatives-same : (c : Context) (rep : ℕ → ℕ) → Representatives c rep → (i j : ℕ) → i < length c.rows → j < length c.rows
    → EqualIn c (term_at c.rows i) (term_at c.rows j) → rep i ≡ rep j
representatives-same c rep r i j hi hj d = lowest-same c i j (rep i) (rep j) d (r i hi) (r j hj)

pub representatives-one : (c : Context) (rep rep' : ℕ → ℕ) → Representatives c rep → Representatives c rep'
    → (i : ℕ) → i < length c.rows → rep i ≡ rep' i
representatives-one c rep rep' r r' i h = lowest-same c i i (rep i) (rep' i) reflexive (r i h) (r' i h)

pub promise-one : (c : Context) (n : ℕ) (t u : List ℕ) → Promise c n t → Promise c n u → t ≡ u
promise-one c n t u p q = ext_get_or 0 t u (p.long ∙ sym q.long) (λ i h. go i (omega arith) (dec_lt i (length c.rows)))
  where
    go : (i : ℕ) → i < n → Dec (i < length c.rows) → rep_at t i ≡ rep_at u i
    go i h (yes l) = representatives-one c (rep_at t) (rep_at u) p.rows q.rows i l
    go i h (no l) = p.others i (omega arith) h ∙ sym (q.others i (omega arith) h)

-- ---- lowest rows and closed tables

module _ (c : Context) (fit : Fit c) (rep : ℕ → ℕ) where
  represents-sofar : Representatives c rep → Sofar c.rows (equations c) rep
  represents-sofar r =
      record {
        low = λ i h. (r i h).least i h reflexive;
        settled = λ i h. sym (representatives-same c rep r i (rep i) h (r i h).row (r i h).equal);
        sound = λ i h. (r i h).equal;
      }

  pub representatives-closed : Representatives c rep → Closed c.rows (equations c) rep
  representatives-closed r =
      record {
        low = so.low;
        settled = so.settled;
        joined = λ k h. representatives-same c rep r _ _ (fit.within k h).0 (fit.within k h).1 (given (k, h, refl, refl));
        alike = λ i j hi hj e f. representatives-same c rep r i j hi hj (agree-equal c.rows (equations c) fit.ordered rep so i j hi hj e f);
        sound = so.sound;
      }
    where
      so : Sofar c.rows (equations c) rep
      so = represents-sofar r

  pub closed-representatives : Closed c.rows (equations c) rep → Representatives c rep
  closed-representatives w i h =
      record {
        row = omega (arith, w.low i h);
        equal = w.sound i h;
        least = λ j hj d. omega (arith, w.low j hj, (meaning-rows c.rows (equations c) rep fit.ordered fit.within w i j h hj).0 d);
      }

  -- ---- the model

  pub model : Representatives c rep → (s t : Term) → EqualIn c s t ↔ (eval c.rows rep s ≡ eval c.rows rep t)
  model r = meaning c.rows (equations c) rep fit.ordered fit.within (representatives-closed r)

  pub model-rows : Representatives c rep → (i j : ℕ) → i < length c.rows → j < length c.rows
      → EqualIn c (term_at c.rows i) (term_at c.rows j) ↔ (rep i ≡ rep j)
  model-rows r = meaning-rows c.rows (equations c) rep fit.ordered fit.within (representatives-closed r)

-- ---- the closing

pub closing-represents : (c : Context) → Fit c → Representatives c (rep_at (close c.rows (equations c)))
closing-represents c fit =
    closed-representatives c fit (rep_at (close c.rows (equations c))) (close-closed c.rows (equations c) fit.ordered fit.within)

pub closing-promise : (c : Context) → Fit c → Promise c (length c.rows) (close c.rows (equations c))
closing-promise c fit =
    record {
      long = close-long c.rows (equations c) fit.ordered fit.within;
      rows = closing-represents c fit;
      others = λ i h l. absurd (omega arith);
    }
