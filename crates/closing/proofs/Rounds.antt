-- The stated equations joined, and passes over the rows till nothing changes: what holds at the head of the loop, what a pass does there, and
-- what is promised at its end.
-- Assumes nothing.
use mathlib.Core.Bool.{Bool, true, false}
use mathlib.Core.List.{List}
use mathlib.Core.Path.{◌≡◌, refl, ap, sym, ◌∙◌, subst}
use mathlib.Core.Logic.{⊎_elim}
use Prim.Native.Nat.{ℕ, zero, suc, ◌*◌, ◌≤◌, ◌<◌}
use native.Mathlib.Omega.{arith}
use lib.Dec.{eqb}
use lib.ListN.{length, get_or}
use borrow.Author.Tests.{eqb-true, eqb-false}
use Rattle.meaning.specs.Context.{Row, term_at, Context, equations, equations_of, left_at, right_at}
use Rattle.meaning.specs.Equality.{Equal, given, rep_at, Promise}
use Rattle.meaning.specs.Formed.{Fit, Within}
use Rattle.meaning.specs.Columns.{rows_from, statements_from, context_from}
use Rattle.meaning.specs.Closing.{total, unite, upto, count}
use Rattle.meaning.proofs.Promised.{closed-representatives}
use Rattle.meaning.proofs.Built.{length-rows}
use Rattle.columns.specs.Fit.{FitContext}
use Rattle.closing.specs.Steps.{Laid, state_step, Kept, Grown, Outcome, Alike, Passed, Nearer}
use Rattle.closing.proofs.Merges.{kept-start, unite-outcome, unite-joins}
use Rattle.closing.proofs.Pairs.{pair_at, pairs_from, is_equation, equations-are, pairs-place, pairs-from}

-- the sides of each equation have one representative
abbrev pub Met : List (ℕ × ℕ) → List ℕ → Type 0
Met eqs l = (p : ℕ) → p < length eqs → rep_at l (left_at eqs p) ≡ rep_at l (right_at eqs p)

-- ---- the pass over the statements

module _ (rows : List Row) (room : length rows ≤ 255) (kinds lefts rights : List ℕ) (m : ℕ) where
  abbrev eqs : List (ℕ × ℕ)
  eqs = pairs_from (is_equation kinds) lefts rights m

  abbrev One : List ℕ → ℕ → Type 0
  One l k = is_equation kinds k ≡ true → rep_at l (get_or lefts k 0) ≡ rep_at l (get_or rights k 0)

  module _ (within : Within (length rows) eqs) where
    module _ (k : ℕ) (h : k < m) (e : is_equation kinds k ≡ true) where
      place : (p : ℕ) × (p < length eqs) × (get_or eqs p (0, 0) ≡ pair_at lefts rights k)
      place = pairs-place (is_equation kinds) lefts rights m k h e

      left : left_at eqs place.0 ≡ get_or lefts k 0
      left = ap (λ (d : ℕ × ℕ). d.0) place.2

      right : right_at eqs place.0 ≡ get_or rights k 0
      right = ap (λ (d : ℕ × ℕ). d.1) place.2

      left-row : get_or lefts k 0 < length rows
      left-row = subst (λ (x : ℕ). x < length rows) left (within place.0 place.1).0

      right-row : get_or rights k 0 < length rows
      right-row = subst (λ (x : ℕ). x < length rows) right (within place.0 place.1).1

      equation : Equal rows eqs (term_at rows (get_or lefts k 0)) (term_at rows (get_or rights k 0))
      equation = given (place.0, place.1, ap (term_at rows) (sym left), ap (term_at rows) (sym right))

    -- one statement
    state-joins : (k : ℕ) → k < m → (l : List ℕ) → Kept rows eqs l
        → Kept rows eqs (state_step kinds lefts rights k l) × Grown l (state_step kinds lefts rights k l) × One (state_step kinds lefts rights k l) k
    unfolding state_step
    state-joins k h l kept = go (eqb (get_or kinds k 0) 2) refl
      where
        go : (b : Bool) → eqb (get_or kinds k 0) 2 ≡ b
            → Kept rows eqs (state_step kinds lefts rights k l) × Grown l (state_step kinds lefts rights k l) × One (state_step kinds lefts rights k l) k
        go false e = rw (e, state_step) (kept, λ x y hx hy q. q, λ t. absurd (let z : ◌≡◌ {A = ℕ} 0 1 = cc in omega arith))
        go true e =
            let o : Outcome rows eqs (rep_at l (get_or lefts k 0) ≡ rep_at l (get_or rights k 0)) l (unite (get_or lefts k 0) (get_or rights k 0) l) =
            unite-outcome rows eqs l room kept (get_or lefts k 0) (get_or rights k 0) (left-row k h e) (right-row k h e) (equation k h e) in
            rw (e, state_step) (
              o.kept,
              o.grown,
              λ t.
                  unite-joins l (get_or lefts k 0) (get_or rights k 0) (omega (arith, left-row k h e, kept.long)) (omega (arith, right-row k h e, kept.long)),
            )

    stated-to : (l : List ℕ) → Kept rows eqs l → (k : ℕ) → k ≤ m
        → Kept rows eqs (upto k (state_step kinds lefts rights) l) × ((j : ℕ) → j < k → One (upto k (state_step kinds lefts rights) l) j)
    unfolding upto
    stated-to l kept zero h = (kept, λ j j<. absurd (omega arith))
    stated-to l kept (suc k) h = step (stated-to l kept k (omega arith))
      where
        mid : List ℕ
        mid = upto k (state_step kinds lefts rights) l

        step : Kept rows eqs mid × ((j : ℕ) → j < k → One mid j)
            → Kept rows eqs (state_step kinds lefts rights k mid) × ((j : ℕ) → j < suc k → One (state_step kinds lefts rights k mid) j)
        step (good, old) = (new.0, λ j j<. go j j< (eqb j k) refl)
          where
            new : Kept rows eqs (state_step kinds lefts rights k mid) × Grown mid (state_step kinds lefts rights k mid) × One (state_step kinds lefts rights k mid) k
            new = state-joins k (omega arith) mid good

            go : (j : ℕ) → j < suc k → (b : Bool) → eqb j k ≡ b → One (state_step kinds lefts rights k mid) j
            go j j< true e = subst (λ (x : ℕ). One (state_step kinds lefts rights k mid) x) (sym (eqb-true j k e)) new.2
            go j j< false e = λ t.
                new.1 (get_or lefts j 0) (get_or rights j 0) (omega (arith, left-row j (omega arith) t)) (omega (arith, right-row j (omega arith) t))
                (old j (omega (arith, eqb-false j k e)) t)

    stated-joins : (l : List ℕ) → Kept rows eqs l
        → Kept rows eqs (upto m (state_step kinds lefts rights) l) × Met eqs (upto m (state_step kinds lefts rights) l)
    stated-joins l kept =
        let w : Kept rows eqs (upto m (state_step kinds lefts rights) l) × ((j : ℕ) → j < m → One (upto m (state_step kinds lefts rights) l) j) =
        stated-to l kept m (omega arith) in
        (w.0, λ p h. go w.1 p (pairs-from (is_equation kinds) lefts rights m p h))
      where
        t : List ℕ
        t = upto m (state_step kinds lefts rights) l

        go : ((j : ℕ) → j < m → One t j) → (p : ℕ)
            → ((k : ℕ) × (k < m) × (is_equation kinds k ≡ true) × (get_or eqs p (0, 0) ≡ pair_at lefts rights k))
            → rep_at t (left_at eqs p) ≡ rep_at t (right_at eqs p)
        go all p (k, h, e, q) = ap (λ (d : ℕ × ℕ). rep_at t d.0) q ∙ all k h e ∙ sym (ap (λ (d : ℕ × ℕ). rep_at t d.1) q)

met-promise : (c : Context) → Fit c → (l : List ℕ) → Kept c.rows (equations c) l → Met (equations c) l → Alike c.rows (length c.rows) l
    → Promise c 255 l
met-promise c fit l kept met alike =
    record {
      long = kept.long;
      rows = closed-representatives c fit (rep_at l)
          (record { low = kept.so.low; settled = kept.so.settled; joined = met; alike = alike; sound = kept.so.sound });
      others = kept.others;
    }

-- ---- the loop of passes over the rows
pub record Rounding (symbols counts args : List ℕ) (n : ℕ) (kinds lefts rights : List ℕ) (m : ℕ) (t : List ℕ) (old : ℕ) : Type 0 where
  pub fit : FitContext symbols counts args n kinds lefts rights m
  pub laid : Laid counts args n
  pub kept : Kept (rows_from symbols counts args n) (equations_of (statements_from kinds lefts rights m)) t
  pub met : Met (equations_of (statements_from kinds lefts rights m)) t
  pub so : old ≡ total n (rep_at t)

module _ (symbols counts args : List ℕ) (n : ℕ) (kinds lefts rights : List ℕ) (m : ℕ) where
  abbrev R : List Row
  R = rows_from symbols counts args n

  abbrev E : List (ℕ × ℕ)
  E = equations_of (statements_from kinds lefts rights m)

  -- each side of an equation is a row
  sides : FitContext symbols counts args n kinds lefts rights m → Within (length R) E
  unfolding context_from
  sides f = f.fit.within

  pub rounding-start : (l t : List ℕ) (old : ℕ) → FitContext symbols counts args n kinds lefts rights m → n * 4 ≤ length args → l ≡ count 255 0
      → t ≡ upto m (state_step kinds lefts rights) l → old ≡ total n (rep_at t) → Rounding symbols counts args n kinds lefts rights m t old
  rounding-start l t old fit long el et s =
      record { fit = fit; laid = record { long = long; room = fit.rows_few; few = fit.counts-few }; kept = w.0; met = w.1; so = s }
    where
      room : length R ≤ 255
      room = omega (arith, length-rows symbols counts args n, fit.rows_few)

      w : Kept R E t × Met E t
      w =
          rw (et, el, equations-are kinds lefts rights m)
          (stated-joins R room kinds lefts rights m (subst (Within (length R)) (equations-are kinds lefts rights m) (sides fit)) (count 255 0) (kept-start R _ room))

module _ {symbols counts args : List ℕ} {n : ℕ} {kinds lefts rights : List ℕ} {m : ℕ} {l u : List ℕ} {old fresh : ℕ}
    (r : Rounding symbols counts args n kinds lefts rights m l old) (passed : Passed (rows_from symbols counts args n) l u)
    (es : fresh ≡ total n (rep_at u)) where
  abbrev R' : List Row
  R' = rows_from symbols counts args n

  abbrev E' : List (ℕ × ℕ)
  E' = equations_of (statements_from kinds lefts rights m)

  outcome : Outcome R' E' (Alike R' (length R') l) l u
  unfolding context_from
  outcome = passed.outcome E' r.fit.fit.ordered r.kept

  met-on : Met E' u
  met-on p h =
      let w : (left_at E' p < length R') × (right_at E' p < length R') = sides symbols counts args n kinds lefts rights m r.fit p h in
      let long : length R' ≤ 255 = omega (arith, length-rows symbols counts args n, r.fit.rows_few) in
      outcome.grown (left_at E' p) (right_at E' p) (omega (arith, w.0)) (omega (arith, w.1)) (r.met p h)

  sums : (x : List ℕ) → total (length R') (rep_at x) ≡ total n (rep_at x)
  sums x = ap (λ (k : ℕ). total k (rep_at x)) (length-rows symbols counts args n)

  pub rounding-next : Rounding symbols counts args n kinds lefts rights m u fresh
  rounding-next = record { fit = r.fit; laid = r.laid; kept = outcome.kept; met = met-on; so = es }

  pub rounding-ends : fresh ≡ old → Promise (context_from symbols counts args n kinds lefts rights m) 255 u
  unfolding context_from
  rounding-ends e =
      met-promise (context_from symbols counts args n kinds lefts rights m) r.fit.fit u outcome.kept met-on
      (⊎_elim (λ w. subst (Alike R' (length R')) (sym w.0) w.1) (λ w. absurd (omega (arith, w, sums l, sums u, r.so))) outcome.did)

  -- a pass that changed something, and the merges that follow
  module _ {v : List ℕ} {last : ℕ} (nearer : Nearer R' u v) (el : last ≡ total n (rep_at v)) where
    then : Outcome R' E' (Unit {0}) u v
    unfolding context_from
    then = nearer.outcome E' r.fit.fit.ordered outcome.kept

    falls : total n (rep_at v) ≤ total n (rep_at u)
    falls = ⊎_elim (λ w. let e : total n (rep_at v) ≡ total n (rep_at u) = ap (λ (x : List ℕ). total n (rep_at x)) w.0 in omega arith) (λ w. omega (arith, w, sums u, sums v)) then.did

    pub rounding-less : (fresh ≡ old → ⊥) → last < old
    rounding-less d =
        ⊎_elim (λ w. absurd (d (es ∙ ap (λ (x : List ℕ). total n (rep_at x)) w.0 ∙ sym r.so))) (λ w. omega (arith, w, sums l, sums u, r.so, falls)) outcome.did

    pub rounding-again : Rounding symbols counts args n kinds lefts rights m v last
    rounding-again =
        record { fit = r.fit; laid = r.laid; kept = then.kept; met = met-after; so = el }
      where
        met-after : Met E' v
        met-after p h =
            let w : (left_at E' p < length R') × (right_at E' p < length R') = sides symbols counts args n kinds lefts rights m r.fit p h in
            let long : length R' ≤ 255 = omega (arith, length-rows symbols counts args n, r.fit.rows_few) in
            then.grown (left_at E' p) (right_at E' p) (omega (arith, w.0)) (omega (arith, w.1)) (met-on p h)
