-- Two rows get one representative, and passes over the rows follow till nothing changes: what holds at the head of the loop, what a pass does there, and
-- what is promised at its end.
--     Turning     the head of the loop
--     mine        what `turns` and `settle_with` leave to show
-- Assumes nothing.
use mathlib.Core.List.{List, ◌∷◌}
use mathlib.Core.Path.{◌≡◌, ap, sym, ◌∙◌, subst}
use mathlib.Core.Logic.{⊎_elim}
use Prim.Native.Nat.{ℕ, ◌≤◌, ◌<◌}
use native.Mathlib.Omega.{arith}
use lib.ListN.{length}
use borrow.Author.Rules.{rules}
use Rattle.meaning.specs.Context.{Row, equations_of}
use Rattle.meaning.specs.Equality.{rep_at, Promise}
use Rattle.meaning.specs.Columns.{rows_from}
use Rattle.meaning.specs.Following.{with_equation}
use Rattle.meaning.specs.Closing.{total, unite}
use Rattle.meaning.proofs.FollowingClosing.{with-given}
use Rattle.meaning.proofs.Built.{length-rows}
use Rattle.closing.specs.Steps.{Laid, Kept, Grown, Outcome, Alike, Passed, Nearer}
use Rattle.closing.proofs.Merges.{unite-outcome, unite-joins}
use Rattle.further.specs.Claims.{Startable, standing, standing_in, FitRows, Underway, Settled}
use Rattle.further.proofs.Standing.{standing-kept, standing-ends}

-- from l on u is reached, and `old` is its sum
pub record Turning (symbols counts args : List ℕ) (n : ℕ) (l u : List ℕ) (old : ℕ) : Type 0 where
  pub rows : FitRows symbols counts args n
  pub start : Underway (rows_from symbols counts args n) l
  pub keeps : (eqs : List (ℕ × ℕ)) → Kept (rows_from symbols counts args n) eqs l → Kept (rows_from symbols counts args n) eqs u
  pub grown : Grown l u
  pub so : old ≡ total n (rep_at u)

pub turning-start : (symbols counts args : List ℕ) (n : ℕ) (l : List ℕ) (old : ℕ) → FitRows symbols counts args n
    → Underway (rows_from symbols counts args n) l → old ≡ total n (rep_at l) → Turning symbols counts args n l l old
turning-start symbols counts args n l old rows start e =
    record { rows = rows; start = start; keeps = λ eqs k. k; grown = λ a b ha hb q. q; so = e }

module _ {symbols counts args : List ℕ} {n : ℕ} {t l u : List ℕ} {old fresh : ℕ}
    (r : Turning symbols counts args n t l old) (passed : Passed (rows_from symbols counts args n) l u) (es : fresh ≡ total n (rep_at u)) where
  abbrev R : List Row
  R = rows_from symbols counts args n

  by : (eqs : List (ℕ × ℕ)) → Kept R eqs t → Outcome R eqs (Alike R (length R) l) l u
  by eqs k = passed.outcome eqs r.rows.ordered (r.keeps eqs k)

  outcome : Outcome R r.start.eqs (Alike R (length R) l) l u
  outcome = by r.start.eqs r.start.kept

  grown-on : Grown t u
  grown-on a b ha hb q = outcome.grown a b ha hb (r.grown a b ha hb q)

  sums : (v : List ℕ) → total (length R) (rep_at v) ≡ total n (rep_at v)
  sums v = ap (λ (k : ℕ). total k (rep_at v)) (length-rows symbols counts args n)

  pub turning-ends : fresh ≡ old → Settled R t u
  turning-ends e =
      record {
        keeps = λ eqs k. (by eqs k).kept;
        grown = grown-on;
        alike = ⊎_elim (λ w. subst (Alike R (length R)) (sym w.0) w.1) (λ w. absurd (omega (arith, w, sums l, sums u, r.so))) outcome.did;
      }

  -- a pass that changed something, and the merges that follow
  module _ {v : List ℕ} {last : ℕ} (nearer : Nearer R u v) (el : last ≡ total n (rep_at v)) where
    then : (eqs : List (ℕ × ℕ)) → Kept R eqs t → Outcome R eqs (Unit {0}) u v
    then eqs k = nearer.outcome eqs r.rows.ordered (by eqs k).kept

    falls : total n (rep_at v) ≤ total n (rep_at u)
    falls =
        ⊎_elim (λ w. let e : total n (rep_at v) ≡ total n (rep_at u) = ap (λ (k : List ℕ). total n (rep_at k)) w.0 in omega arith) (λ w. omega (arith, w, sums u, sums v))
        (then r.start.eqs r.start.kept).did

    pub turning-less : (fresh ≡ old → ⊥) → last < old
    turning-less d =
        ⊎_elim (λ w. absurd (d (es ∙ ap (λ (k : List ℕ). total n (rep_at k)) w.0 ∙ sym r.so))) (λ w. omega (arith, w, sums l, sums u, r.so, falls)) outcome.did

    pub turning-again : Turning symbols counts args n t v last
    turning-again =
        record {
          rows = r.rows;
          start = r.start;
          keeps = λ eqs k. (then eqs k).kept;
          grown = λ a b ha hb q. (then r.start.eqs r.start.kept).grown a b ha hb (grown-on a b ha hb q);
          so = el;
        }

-- ---- the two rows first

module _ (symbols counts args : List ℕ) (n : ℕ) (t : List ℕ) (x y : ℕ) (rows : FitRows symbols counts args n) (s : Startable n t x y) where
  abbrev R' : List Row
  R' = rows_from symbols counts args n

  abbrev E : List (ℕ × ℕ)
  E = (x, y) ∷ equations_of (standing t (length R'))

  room : length R' ≤ 255
  room = omega (arith, length-rows symbols counts args n, rows.laid.room)

  start : Startable (length R') t x y
  start = subst (λ (k : ℕ). Startable k t x y) (sym (length-rows symbols counts args n)) s

  united : Outcome R' E (rep_at t x ≡ rep_at t y) t (unite x y t)
  united =
      unite-outcome R' E t room (standing-kept R' rows.ordered room t x y start) x y start.first start.second
      (with-given R' (equations_of (standing t (length R'))) x y)

  one : rep_at (unite x y t) x ≡ rep_at (unite x y t) y
  one = unite-joins t x y (omega (arith, start.first, room, s.table.long)) (omega (arith, start.second, room, s.table.long))

  pub two-underway : (l : List ℕ) → l ≡ unite x y t → Underway R' l
  two-underway l e = rw e (record { eqs = E; kept = united.kept })

  pub two-settled : (l u : List ℕ) → l ≡ unite x y t → Settled R' l u → Promise (with_equation (standing_in R' t) x y) 255 u
  two-settled l u e d =
      standing-ends R' rows.ordered room t x y start u (d.keeps E (rw e united.kept))
      (λ a b ha hb q. d.grown a b ha hb (rw e (united.grown a b ha hb q)))
      (d.grown x y (omega (arith, start.first, room)) (omega (arith, start.second, room)) (rw e one))
      d.alike

pub turning-laid : {symbols counts args : List ℕ} {n : ℕ} {t u : List ℕ} {old : ℕ} → Turning symbols counts args n t u old → Laid counts args n
turning-laid r = r.rows.laid

pub rows-laid : {symbols counts args : List ℕ} {n : ℕ} → FitRows symbols counts args n → Laid counts args n
rows-laid r = r.laid

pub laid-few : {counts args : List ℕ} {n : ℕ} → Laid counts args n → n ≤ 255
laid-few l = l.room

pub ruleset mine = (rules, turning-start, turning-less, turning-again, turning-ends, two-underway, two-settled, turning-laid, rows-laid, laid-few)
