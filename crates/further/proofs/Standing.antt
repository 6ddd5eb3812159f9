-- What a table says, as equations: each row is the same as its representative.
--     standing-in, in-standing            these equations, one by one
--     standing-fit, standing-kept         a context of them, and the table where one starts
--     standing-ends                       where the two rows, and each two rows that agree, have one representative, the table is closed
--     standing-equal, equal-standing      where the table is a context's, they say what the context states
--     standing-adds                       so what is closed further is the context with the equation
--     promise-orderly, promise-startable  and one can start from its table
-- Assumes nothing.
use mathlib.Core.Bool.{Bool, true, false}
use mathlib.Core.List.{List, [], ◌∷◌}
use mathlib.Core.Path.{◌≡◌, refl, ap, sym, ◌∙◌, subst}
use mathlib.Core.Logic.{◌⊎◌, inl, inr}
use Prim.Native.Nat.{ℕ, zero, suc, ◌≤◌, ◌<◌}
use native.Mathlib.Omega.{arith}
use native.Mathlib.Decide.{dec_lt}
use lib.Dec.{eqb}
use lib.ListN.{length, get_or}
use borrow.Author.Tests.{eqb-true, eqb-false}
use Rattle.meaning.specs.Context.{Row, Statement, Term, term_at, Context, equations_of, equations, differences_of}
use Rattle.meaning.specs.Equality.{Equal, reflexive, symmetric, transitive, Lowest, Promise, rep_at}
use Rattle.meaning.specs.Formed.{Ordered, Fit}
use Rattle.meaning.specs.Following.{with_equation}
use Rattle.meaning.specs.Members.{In}
use Rattle.meaning.proofs.Sorted.{in-at}
use Rattle.meaning.proofs.Pairs.{in-equal, equal_by, within_in, in_within}
use Rattle.meaning.proofs.Promised.{representatives-same, representatives-closed, closed-representatives}
use Rattle.meaning.proofs.Following.{with-fit}
use Rattle.closing.specs.Steps.{Kept, Grown, Alike}
use Rattle.further.specs.Claims.{OrderlyAt, Orderly, Startable, standing, standing_in}

-- ---- one by one

module _ (t : List ℕ) where
  pub standing-in : (n i : ℕ) → i < n → In (i, rep_at t i) (equations_of (standing t n))
  unfolding standing equations_of
  standing-in zero i h = absurd (omega arith)
  standing-in (suc n) i h = go (eqb i n) refl (standing-in n i)
    where
      go : (b : Bool) → eqb i n ≡ b → (i < n → In (i, rep_at t i) (equations_of (standing t n)))
          → ◌≡◌ {A = ℕ × ℕ} (i, rep_at t i) (n, rep_at t n) ⊎ In (i, rep_at t i) (equations_of (standing t n))
      go true e ih = inl (ap (λ (k : ℕ). (k, rep_at t k)) (eqb-true i n e))
      go false e ih = inr (ih (omega (arith, eqb-false i n e)))

  pub in-standing : (n : ℕ) (d : ℕ × ℕ) → In d (equations_of (standing t n)) → (d.0 < n) × (d.1 ≡ rep_at t d.0)
  unfolding standing equations_of
  in-standing zero d m = absurd m
  in-standing (suc n) d (inl e) =
      let k : d.0 ≡ n = ap (λ (q : ℕ × ℕ). q.0) e in
      (omega arith, ap (λ (q : ℕ × ℕ). q.1) e ∙ ap (rep_at t) (sym k))
  in-standing (suc n) d (inr m) = let w : (d.0 < n) × (d.1 ≡ rep_at t d.0) = in-standing n d m in (omega (arith, w.0), w.1)

  standing_apart : (n : ℕ) → differences_of (standing t n) ≡ []
  unfolding standing differences_of
  standing_apart zero = refl
  standing_apart (suc n) = standing_apart n

-- ---- from such a table on

module _ (rows : List Row) (ordered : Ordered rows) (room : length rows ≤ 255) (t : List ℕ) (x y : ℕ) (s : Startable (length rows) t x y) where
  abbrev pub stated : List (ℕ × ℕ)
  stated = (x, y) ∷ equations_of (standing t (length rows))

  at : (i : ℕ) → i < length rows → OrderlyAt (length rows) t i
  at i h = s.table.places.each i (omega arith)

  pub standing-fit : Fit (standing_in rows t)
  standing-fit =
      record {
        ordered = ordered;
        within = in_within (length rows) (equations_of (standing t (length rows))) each;
        apart = λ k h. absurd (omega (arith, ap length (standing_apart t (length rows))));
      }
    where
      each : (d : ℕ × ℕ) → In d (equations_of (standing t (length rows))) → (d.0 < length rows) × (d.1 < length rows)
      each d m =
          let w : (d.0 < length rows) × (d.1 ≡ rep_at t d.0) = in-standing t (length rows) d m in
          (w.0, omega (arith, w.0, w.1, (at d.0 w.0).low))

  pub standing-kept : Kept rows stated t
  standing-kept =
      record {
        long = s.table.long;
        so = record {
          low = λ i h. (at i h).low;
          settled = λ i h. (at i h).settled;
          sound = λ i h. in-equal rows stated (i, rep_at t i) (inr (standing-in t (length rows) i h));
        };
        others = λ i h l. (s.table.places.each i l).other h;
      }

  module _ (u : List ℕ) (kept : Kept rows stated u) (grown : Grown t u) (one : rep_at u x ≡ rep_at u y) (alike : Alike rows (length rows) u) where
    met : (d : ℕ × ℕ) → In d stated → rep_at u d.0 ≡ rep_at u d.1
    met d (inl e) = ap (λ (q : ℕ × ℕ). rep_at u q.0) e ∙ one ∙ sym (ap (λ (q : ℕ × ℕ). rep_at u q.1) e)
    met d (inr m) =
        let w : (d.0 < length rows) × (d.1 ≡ rep_at t d.0) = in-standing t (length rows) d m in
        let o : OrderlyAt (length rows) t d.0 = at d.0 w.0 in
        grown d.0 d.1 (omega (arith, w.0)) (omega (arith, w.0, w.1, o.low)) (sym o.settled ∙ sym (ap (rep_at t) w.1))

    pub standing-ends : Promise (with_equation (standing_in rows t) x y) 255 u
    unfolding equations_of
    standing-ends =
        record {
          long = kept.long;
          rows = closed-representatives (with_equation (standing_in rows t) x y) (with-fit (standing_in rows t) standing-fit x y s.first s.second) (rep_at u)
              (record { low = kept.so.low; settled = kept.so.settled; joined = λ k h. met (get_or stated k (0, 0)) (in-at stated k (0, 0) h); alike = alike; sound = kept.so.sound });
          others = kept.others;
        }

-- ---- a context's table

-- a promise goes over to what makes the same terms equal
promise-by : (rows : List Row) (ss ts : List Statement) → ((p q : Term) → Equal rows (equations_of ss) p q → Equal rows (equations_of ts) p q)
    → ((p q : Term) → Equal rows (equations_of ts) p q → Equal rows (equations_of ss) p q) → (n : ℕ) (u : List ℕ)
    → Promise (record { rows = rows; statements = ss }) n u → Promise (record { rows = rows; statements = ts }) n u
promise-by rows ss ts to back n u p = record { long = p.long; rows = λ i h. each i (p.rows i h); others = p.others }
  where
    each : (i : ℕ) → Lowest (record { rows = rows; statements = ss }) i (rep_at u i) → Lowest (record { rows = rows; statements = ts }) i (rep_at u i)
    each i l = record { row = l.row; equal = to _ _ l.equal; least = λ j h d. l.least j h (back _ _ d) }

pub promise-orderly : (c : Context) → Fit c → (t : List ℕ) → Promise c 255 t → Orderly (length c.rows) t
promise-orderly c fit t p = record { long = p.long; places = record { each = λ i h. go i h (dec_lt i (length c.rows)) } }
  where
    go : (i : ℕ) → i < 255 → Dec (i < length c.rows) → OrderlyAt (length c.rows) t i
    go i h (yes l) =
        record {
          low = (p.rows i l).least i l reflexive;
          settled = (representatives-closed c fit (rep_at t) p.rows).settled i l;
          other = λ o. absurd (omega arith);
        }
    go i h (no l) = let e : rep_at t i ≡ i = p.others i (omega arith) h in record { low = omega arith; settled = ap (rep_at t) e; other = λ o. e }

module _ (c : Context) (fit : Fit c) (t : List ℕ) (p : Promise c 255 t) (x y : ℕ) where
  abbrev by-table : List (ℕ × ℕ)
  by-table = (x, y) ∷ equations_of (standing t (length c.rows))

  abbrev by-context : List (ℕ × ℕ)
  by-context = (x, y) ∷ equations c

  pub standing-equal : (a b : Term) → Equal c.rows by-table a b → Equal c.rows by-context a b
  standing-equal = equal_by c.rows by-table by-context each
    where
      each : (d : ℕ × ℕ) → In d by-table → Equal c.rows by-context (term_at c.rows d.0) (term_at c.rows d.1)
      each d (inl e) = in-equal c.rows by-context d (inl e)
      each d (inr m) =
          let w : (d.0 < length c.rows) × (d.1 ≡ rep_at t d.0) = in-standing t (length c.rows) d m in
          subst (λ (r : ℕ). Equal c.rows by-context (term_at c.rows d.0) (term_at c.rows r)) (sym w.1)
          (equal_by c.rows (equations c) by-context (λ q l. in-equal c.rows by-context q (inr l)) _ _ (p.rows d.0 w.0).equal)

  pub equal-standing : (a b : Term) → Equal c.rows by-context a b → Equal c.rows by-table a b
  equal-standing = equal_by c.rows by-context by-table each
    where
      stands : (i : ℕ) → i < length c.rows → Equal c.rows by-table (term_at c.rows i) (term_at c.rows (rep_at t i))
      stands i h = in-equal c.rows by-table (i, rep_at t i) (inr (standing-in t (length c.rows) i h))

      rows-of : (d : ℕ × ℕ) → In d (equations c) → (d.0 < length c.rows) × (d.1 < length c.rows)
      rows-of = within_in (length c.rows) (equations c) fit.within

      met : (d : ℕ × ℕ) → In d (equations c) → rep_at t d.0 ≡ rep_at t d.1
      met d m = representatives-same c (rep_at t) p.rows d.0 d.1 (rows-of d m).0 (rows-of d m).1 (in-equal c.rows (equations c) d m)

      each : (d : ℕ × ℕ) → In d by-context → Equal c.rows by-table (term_at c.rows d.0) (term_at c.rows d.1)
      each d (inl e) = in-equal c.rows by-table d (inl e)
      each d (inr m) =
          transitive (stands d.0 (rows-of d m).0)
          (subst (λ (r : ℕ). Equal c.rows by-table (term_at c.rows r) (term_at c.rows d.1)) (sym (met d m)) (symmetric (stands d.1 (rows-of d m).1)))

  pub standing-adds : (u : List ℕ) → Promise (with_equation (standing_in c.rows t) x y) 255 u → Promise (with_equation c x y) 255 u
  unfolding equations_of
  standing-adds u = promise-by c.rows _ _ standing-equal equal-standing 255 u

  pub promise-startable : x < length c.rows → y < length c.rows → Startable (length c.rows) t x y
  promise-startable hx hy = record { first = hx; second = hy; table = promise-orderly c fit t p }
