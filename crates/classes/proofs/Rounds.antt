-- The stated equations joined, and rounds over the rows till nothing changes: what a round does, and what is promised at their end.
--     mine     what `begin`, `round` and `settle` leave to show
-- Assumes nothing.
use mathlib.Core.Bool.{Bool, true, false}
use mathlib.Core.List.{List}
use mathlib.Core.Path.{◌≡◌, refl, ap, sym, ◌∙◌, subst}
use mathlib.Core.Logic.{⊎_elim}
use Prim.Native.Nat.{ℕ, zero, suc, ◌≤◌, ◌<◌}
use native.Mathlib.Omega.{arith}
use lib.Dec.{eqb}
use lib.ListN.{length, get_or}
use borrow.Author.Rules.{rules}
use borrow.Author.Tests.{eqb-true, eqb-false}
use Rattle.meaning.specs.Context.{Row, term_at, Context, equations, equations_of, left_at, right_at}
use Rattle.meaning.specs.Equality.{Equal, given, rep_at, Promise}
use Rattle.meaning.specs.Formed.{Ordered, Fit, Within}
use Rattle.meaning.specs.Closing.{total, upto, count}
use Rattle.meaning.proofs.Promised.{closed-representatives}
use Rattle.meaning.proofs.Closes.{length-count}
use Rattle.runs.specs.Runs.{row_count, said_count, kind_in, left_in, right_in, rows_of, statements_of, context_of}
use Rattle.runs.specs.Limits.{most_rows}
use Rattle.runs.proofs.Saying.{length-rows}
use Rattle.classes.specs.Steps.{Laid, merge, state_step, Kept, Grown, Outcome, Alike, Pass, PassOn, Met, Rounding}
use Rattle.classes.proofs.Merges.{kept-start, outcome-then, merge-outcome, merge-joins}
use Rattle.classes.proofs.Pairs.{pair_at, pairs_from, is_equation, equations-are, pairs-place, pairs-from}

-- ---- the pass over the statements

module _ (rows : List Row) (said : List ℕ) (m : ℕ) where
  abbrev eqs : List (ℕ × ℕ)
  eqs = pairs_from (is_equation said) said m

  abbrev One : List ℕ → ℕ → Type 0
  One l k = is_equation said k ≡ true → rep_at l (left_in said k) ≡ rep_at l (right_in said k)

  module _ (within : Within (length rows) eqs) where
    module _ (k : ℕ) (h : k < m) (e : is_equation said k ≡ true) where
      place : (p : ℕ) × (p < length eqs) × (get_or eqs p (0, 0) ≡ pair_at said k)
      place = pairs-place (is_equation said) said m k h e

      left : left_at eqs place.0 ≡ left_in said k
      left = ap (λ (d : ℕ × ℕ). d.0) place.2

      right : right_at eqs place.0 ≡ right_in said k
      right = ap (λ (d : ℕ × ℕ). d.1) place.2

      left-row : left_in said k < length rows
      left-row = subst (λ (x : ℕ). x < length rows) left (within place.0 place.1).0

      right-row : right_in said k < length rows
      right-row = subst (λ (x : ℕ). x < length rows) right (within place.0 place.1).1

      equation : Equal rows eqs (term_at rows (left_in said k)) (term_at rows (right_in said k))
      equation = given (place.0, place.1, ap (term_at rows) (sym left), ap (term_at rows) (sym right))

    -- one statement
    state-joins : (k : ℕ) → k < m → (l : List ℕ) → Kept rows eqs l
        → Kept rows eqs (state_step said k l) × Grown (length rows) l (state_step said k l) × One (state_step said k l) k
    unfolding state_step
    state-joins k h l kept = go (eqb (kind_in said k) 2) refl
      where
        go : (b : Bool) → eqb (kind_in said k) 2 ≡ b
            → Kept rows eqs (state_step said k l) × Grown (length rows) l (state_step said k l) × One (state_step said k l) k
        go false e = rw (e, state_step) (kept, λ x y hx hy q. q, λ t. absurd (let z : ◌≡◌ {A = ℕ} 0 1 = cc in omega arith))
        go true e =
            let o : Outcome rows eqs (rep_at l (left_in said k) ≡ rep_at l (right_in said k)) l (merge (left_in said k) (right_in said k) l) =
            merge-outcome rows eqs l kept (left_in said k) (right_in said k) (left-row k h e) (right-row k h e) (equation k h e) in
            rw (e, state_step) (
              o.kept,
              o.grown,
              λ t.
                  merge-joins rows eqs l kept (left_in said k) (right_in said k) (left-row k h e) (right-row k h e),
            )

    stated-to : (l : List ℕ) → Kept rows eqs l → (k : ℕ) → k ≤ m
        → Kept rows eqs (upto k (state_step said) l) × ((j : ℕ) → j < k → One (upto k (state_step said) l) j)
    unfolding upto
    stated-to l kept zero h = (kept, λ j j<. absurd (omega arith))
    stated-to l kept (suc k) h = step (stated-to l kept k (omega arith))
      where
        mid : List ℕ
        mid = upto k (state_step said) l

        step : Kept rows eqs mid × ((j : ℕ) → j < k → One mid j)
            → Kept rows eqs (state_step said k mid) × ((j : ℕ) → j < suc k → One (state_step said k mid) j)
        step (good, old) = (new.0, λ j j<. go j j< (eqb j k) refl)
          where
            new : Kept rows eqs (state_step said k mid) × Grown (length rows) mid (state_step said k mid) × One (state_step said k mid) k
            new = state-joins k (omega arith) mid good

            go : (j : ℕ) → j < suc k → (b : Bool) → eqb j k ≡ b → One (state_step said k mid) j
            go j j< true e = subst (λ (x : ℕ). One (state_step said k mid) x) (sym (eqb-true j k e)) new.2
            go j j< false e = λ t.
                new.1 (left_in said j) (right_in said j) (left-row j (omega arith) t) (right-row j (omega arith) t)
                (old j (omega (arith, eqb-false j k e)) t)

    stated-joins : (l : List ℕ) → Kept rows eqs l
        → Kept rows eqs (upto m (state_step said) l) × Met eqs (upto m (state_step said) l)
    stated-joins l kept =
        let w : Kept rows eqs (upto m (state_step said) l) × ((j : ℕ) → j < m → One (upto m (state_step said) l) j) =
        stated-to l kept m (omega arith) in
        (w.0, λ p h. go w.1 p (pairs-from (is_equation said) said m p h))
      where
        t : List ℕ
        t = upto m (state_step said) l

        go : ((j : ℕ) → j < m → One t j) → (p : ℕ)
            → ((k : ℕ) × (k < m) × (is_equation said k ≡ true) × (get_or eqs p (0, 0) ≡ pair_at said k))
            → rep_at t (left_at eqs p) ≡ rep_at t (right_at eqs p)
        go all p (k, h, e, q) = ap (λ (d : ℕ × ℕ). rep_at t d.0) q ∙ all k h e ∙ sym (ap (λ (d : ℕ × ℕ). rep_at t d.1) q)

met-promise : (c : Context) → Fit c → (n : ℕ) → length c.rows ≡ n → (l : List ℕ) → Kept c.rows (equations c) l → Met (equations c) l
    → Alike c.rows (length c.rows) l → Promise c n l
met-promise c fit n e l kept met alike =
    record {
      long = kept.long ∙ e;
      rows = closed-representatives c fit (rep_at l)
          (record { low = kept.so.low; settled = kept.so.settled; joined = met; alike = alike; sound = kept.so.sound });
      others = λ i h k. absurd (omega arith);
    }

-- ---- the equations joined

pub start_fits : (run l t : List ℕ) → Laid run → l ≡ count (row_count run) 0 → length t ≡ length l → length t ≤ 65535
start_fits run l t laid e h = omega (arith, laid.room, ap length e, length-count (row_count run) 0)

pub rounding-start : (run said l t : List ℕ) (sum : ℕ) → Laid run → Fit (context_of run said) → l ≡ count (row_count run) 0
    → t ≡ upto (said_count said) (state_step said) l → sum ≡ total (length t) (rep_at t) → Rounding run said t sum
rounding-start run said l t sum laid fit el et s = record { fit = fit; laid = laid; kept = w.0; met = w.1; so = s }
  where
    R : List Row
    R = rows_of run

    E : List (ℕ × ℕ)
    E = equations_of (statements_of said)

    start : Kept R (pairs_from (is_equation said) said (said_count said)) l
    start = rw (el, ← length-rows run) (kept-start R (pairs_from (is_equation said) said (said_count said)))

    w : Kept R E t × Met E t
    w = rw (et, equations-are said) (stated-joins R said (said_count said) (subst (Within (length R)) (equations-are said) fit.within) l start)

-- ---- a round: a pass, and where it changed something, one that follows up its merges

module _ {rows : List Row} {l u : List ℕ} {old fresh : ℕ} (p : Pass rows l u fresh) (so : old ≡ total (length l) (rep_at l)) where
  sums : {eqs : List (ℕ × ℕ)} {x : List ℕ} → Kept rows eqs x → total (length rows) (rep_at x) ≡ total (length x) (rep_at x)
  sums {eqs} {x} kept = ap (λ (n : ℕ). total n (rep_at x)) (sym kept.long)

  pub round-on : {v : List ℕ} {last : ℕ} → PassOn rows u v last → (fresh ≡ old → ⊥) → Pass rows l v last
  round-on {v} {last} q d = record { passed = record { outcome = λ eqs ordered kept. both eqs ordered kept }; sum = q.sum }
    where
      both : (eqs : List (ℕ × ℕ)) → Ordered rows → Kept rows eqs l → Outcome rows eqs (Alike rows (length rows) l) l v
      both eqs ordered kept =
          let one : Outcome rows eqs (Alike rows (length rows) l) l u = p.passed.outcome eqs ordered kept in
          let two : Outcome rows eqs (Unit {0}) u v = q.nearer.outcome eqs ordered one.kept in
          outcome-then rows eqs one two
          (λ e a t. absurd (d (p.sum ∙ ap (λ (x : List ℕ). total (length x) (rep_at x)) e ∙ sym so)))

-- ---- the loop of rounds

module _ {run said l u : List ℕ} {old fresh : ℕ} (r : Rounding run said l old) (p : Pass (rows_of run) l u fresh) where
  abbrev R : List Row
  R = rows_of run

  abbrev E : List (ℕ × ℕ)
  E = equations_of (statements_of said)

  outcome : Outcome R E (Alike R (length R) l) l u
  outcome = p.passed.outcome E r.fit.ordered r.kept

  -- equations that are met stay so
  met-then : Met E u
  met-then p h =
      let w : (left_at E p < length R) × (right_at E p < length R) = r.fit.within p h in
      outcome.grown (left_at E p) (right_at E p) w.0 w.1 (r.met p h)

  pub rounding-next : Rounding run said u fresh
  rounding-next = record { fit = r.fit; laid = r.laid; kept = outcome.kept; met = met-then; so = p.sum }

  pub rounding-less : (fresh ≡ old → ⊥) → fresh < old
  rounding-less d =
      ⊎_elim (λ w. absurd (d (p.sum ∙ ap (λ (x : List ℕ). total (length x) (rep_at x)) w.0 ∙ sym r.so)))
      (λ w. omega (arith, w, sums p r.so r.kept, sums p r.so outcome.kept, r.so, p.sum)) outcome.did

  pub rounding-ends : fresh ≡ old → Promise (context_of run said) (row_count run) u
  rounding-ends e =
      met-promise (context_of run said) r.fit (row_count run) (length-rows run) u outcome.kept met-then
      (⊎_elim (λ w. subst (Alike R (length R)) (sym w.0) w.1)
      (λ w. absurd (omega (arith, w, sums p r.so r.kept, sums p r.so outcome.kept, r.so, p.sum))) outcome.did)

pub rounding-fits : {run said t : List ℕ} {old : ℕ} → Rounding run said t old → length t ≤ most_rows
rounding-fits {run} r = omega (arith, r.kept.long, length-rows run, r.laid.room)

-- the table has as many places as it had at the start
pub rounding-stays : {run said t : List ℕ} {old : ℕ} (l u : List ℕ) → l ≡ count (row_count run) 0 → Rounding run said t old → length u ≡ length t → length u ≡ length l
rounding-stays {run} l u el r e = omega (arith, r.kept.long, length-rows run, ap length el, length-count (row_count run) 0)

pub ruleset mine = (rules, start_fits, rounding-start, round-on, rounding-next, rounding-less, rounding-ends, rounding-fits, rounding-stays)
