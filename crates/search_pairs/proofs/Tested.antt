-- A small context and its sets, tested by computing.
--     every, every-at                a test of each number below a bound
--     formed_by .. free_by             a context that is well-formed and does not contradict itself, and its table
--     over_by, beside_by, liveBy, apart_is_by    its sets
--     ready_by                       what passes is ready
-- Assumes nothing.
use mathlib.Core.Bool.{Bool, true, false, ◌&&◌, ◌||◌, not}
use mathlib.Core.List.{List, [], ◌∷◌}
use mathlib.Core.Path.{◌≡◌, refl, sym, subst}
use mathlib.Core.Logic.{⊎_elim}
use Prim.Native.Nat.{ℕ, zero, suc, ◌<◌}
use native.Mathlib.Omega.{arith}
use lib.Dec.{eqb, ltb}
use lib.ListN.{length}
use borrow.Author.Tests.{eqb-true, eqb-false, eq-eqb, ltb-true, not-true}
use Rattle.meaning.specs.Context.{Row, row_at, Context, equations, differences, left_at, right_at}
use Rattle.meaning.specs.Equality.{Representatives, rep_at}
use Rattle.meaning.specs.Rules.{Below}
use Rattle.meaning.specs.Formed.{Within, Fit}
use Rattle.meaning.specs.ByTable.{clear, clash_of, apart_by}
use Rattle.meaning.specs.Closing.{close}
use Rattle.meaning.proofs.Logic.{false-true, or_cases, and-true-left, and-true-right, and_both}
use Rattle.meaning.proofs.Apartness.{clash-clear}
use Rattle.meaning.proofs.Promised.{closing-represents}
use Rattle.runs.specs.Runs.{row_count, rows_of, context_of}
use Rattle.search_pairs.specs.Ready.{arg_of, arg_count, Over, Beside, Live, over_at, beside_at, apart_at, live_at, Prepared, Ready}

unfoldable pub every : ℕ → (ℕ → Bool) → Bool
every zero f = true
every (suc n) f = f n && every n f

pub every-at : (n : ℕ) (f : ℕ → Bool) → every n f ≡ true → (i : ℕ) → i < n → f i ≡ true
unfolding every
every-at zero f e i h = absurd (omega arith)
every-at (suc n) f e i h = go (eqb i n) refl (λ l. every-at n f (and-true-right (f n) (every n f) e) i l)
  where
    go : (b : Bool) → eqb i n ≡ b → (i < n → f i ≡ true) → f i ≡ true
    go true q rest = subst (λ (v : ℕ). f v ≡ true) (sym (eqb-true i n q)) (and-true-left (f n) (every n f) e)
    go false q rest = rest (omega (arith, eqb-false i n q))

-- ---- the context

unfoldable pub below_by : ℕ → List ℕ → Bool
below_by n [] = true
below_by n (a ∷ l) = ltb a n && below_by n l

below_by_lem : (n : ℕ) (l : List ℕ) → below_by n l ≡ true → Below n l
unfolding below_by
below_by_lem n [] e = tt
below_by_lem n (a ∷ l) e = (ltb-true a n (and-true-left (ltb a n) (below_by n l) e), below_by_lem n l (and-true-right (ltb a n) (below_by n l) e))

unfoldable pub within_by : ℕ → List (ℕ × ℕ) → Bool
within_by n pairs = every (length pairs) (λ k. ltb (left_at pairs k) n && ltb (right_at pairs k) n)

within_by_lem : (n : ℕ) (pairs : List (ℕ × ℕ)) → within_by n pairs ≡ true → Within n pairs
unfolding within_by
within_by_lem n pairs e k h =
    let w : (ltb (left_at pairs k) n && ltb (right_at pairs k) n) ≡ true = every-at (length pairs) (λ k. ltb (left_at pairs k) n && ltb (right_at pairs k) n) e k h in
    (ltb-true _ _ (and-true-left (ltb (left_at pairs k) n) (ltb (right_at pairs k) n) w), ltb-true _ _ (and-true-right (ltb (left_at pairs k) n) (ltb (right_at pairs k) n) w))

unfoldable pub ordered_by : List Row → Bool
ordered_by rows = every (length rows) (λ i. below_by i (row_at rows i).args)

fit-by : (c : Context) → ordered_by c.rows ≡ true → within_by (length c.rows) (equations c) ≡ true → within_by (length c.rows) (differences c) ≡ true → Fit c
unfolding ordered_by
fit-by c o e d =
    record {
      ordered = λ i h. below_by_lem i (row_at c.rows i).args (every-at (length c.rows) (λ i. below_by i (row_at c.rows i).args) o i h);
      within = within_by_lem (length c.rows) (equations c) e;
      apart = within_by_lem (length c.rows) (differences c) d;
    }

-- ---- the sets

unfoldable pub over_by : List Row → (ℕ → ℕ) → (ℕ → ℕ → Bool) → Bool
over_by rows rep over = every (length rows) (λ r. every (arg_count rows r) (λ k. over (rep (arg_of rows r k)) r))

over_by_lem : (rows : List Row) (rep : ℕ → ℕ) (over : ℕ → ℕ → Bool) → over_by rows rep over ≡ true → Over rows rep over
unfolding over_by
over_by_lem rows rep over e =
    record {
      each = λ r k h l.
          every-at (arg_count rows r) (λ k. over (rep (arg_of rows r k)) r)
          (every-at (length rows) (λ r. every (arg_count rows r) (λ k. over (rep (arg_of rows r k)) r)) e r h) k l;
    }

unfoldable pub beside_by : List Row → (ℕ → ℕ) → (ℕ → ℕ → Bool) → Bool
beside_by rows rep beside =
    every (length rows)
    (λ r. every (length rows)
    (λ s. not (eqb (row_at rows r).symbol (row_at rows s).symbol && eqb (arg_count rows r) (arg_count rows s))
    || every (arg_count rows r) (λ k. beside (rep (arg_of rows r k)) (rep (arg_of rows s k)))))

beside-by : (rows : List Row) (rep : ℕ → ℕ) (beside : ℕ → ℕ → Bool) → beside_by rows rep beside ≡ true → Beside rows rep beside
unfolding beside_by
beside-by rows rep beside e =
    record {
      each = λ r s k h i es ec l.
          ⊎_elim
          (λ u. false-true (and_both _ _ (eq-eqb _ _ es) (eq-eqb _ _ ec)) (not-true (same r s) u))
          (λ u. every-at (arg_count rows r) (λ k. beside (rep (arg_of rows r k)) (rep (arg_of rows s k))) u k l)
          (or_cases (not (same r s)) (all r s) (every-at (length rows) (λ s. not (same r s) || all r s) (every-at (length rows) (λ r. every (length rows) (λ s. not (same r s) || all r s)) e r h) s i));
    }
  where
    same : ℕ → ℕ → Bool
    same r s = eqb (row_at rows r).symbol (row_at rows s).symbol && eqb (arg_count rows r) (arg_count rows s)

    all : ℕ → ℕ → Bool
    all r s = every (arg_count rows r) (λ k. beside (rep (arg_of rows r k)) (rep (arg_of rows s k)))

unfoldable pub sides_by : List (ℕ × ℕ) → (ℕ → ℕ) → (ℕ → Bool) → Bool
sides_by pairs rep live = every (length pairs) (λ k. live (rep (left_at pairs k)) && live (rep (right_at pairs k)))

unfoldable pub under_by : List Row → (ℕ → ℕ) → (ℕ → Bool) → Bool
under_by rows rep live = every (length rows) (λ r. not (live (rep r)) || every (arg_count rows r) (λ k. live (rep (arg_of rows r k))))

live-by : (rows : List Row) (pairs : List (ℕ × ℕ)) (rep : ℕ → ℕ) (live : ℕ → Bool) → sides_by pairs rep live ≡ true → under_by rows rep live ≡ true → Live rows pairs rep live
unfolding sides_by under_by
live-by rows pairs rep live s u =
    record {
      left = λ k h. and-true-left (live (rep (left_at pairs k))) (live (rep (right_at pairs k))) (both k h);
      right = λ k h. and-true-right (live (rep (left_at pairs k))) (live (rep (right_at pairs k))) (both k h);
      under = λ r k h l e.
          ⊎_elim
          (λ v. false-true e (not-true (live (rep r)) v))
          (λ v. every-at (arg_count rows r) (λ k. live (rep (arg_of rows r k))) v k l)
          (or_cases (not (live (rep r))) (all r) (every-at (length rows) (λ r. not (live (rep r)) || all r) u r h));
    }
  where
    both : (k : ℕ) → k < length pairs → (live (rep (left_at pairs k)) && live (rep (right_at pairs k))) ≡ true
    both k h = every-at (length pairs) (λ k. live (rep (left_at pairs k)) && live (rep (right_at pairs k))) s k h

    all : ℕ → Bool
    all r = every (arg_count rows r) (λ k. live (rep (arg_of rows r k)))

unfoldable pub same_bool : Bool → Bool → Bool
same_bool true b = b
same_bool false b = not b

same_bool_lem : (a b : Bool) → same_bool a b ≡ true → a ≡ b
unfolding same_bool
same_bool_lem true b e = sym e
same_bool_lem false b e = sym (not-true b e)

unfoldable pub apart_is_by : ℕ → (ℕ → ℕ → Bool) → (ℕ → ℕ → Bool) → Bool
apart_is_by n apart so = every n (λ a. every n (λ b. same_bool (apart a b) (so a b)))

apart_by_lem : (n : ℕ) (apart so : ℕ → ℕ → Bool) → apart_is_by n apart so ≡ true → (a b : ℕ) → a < n → b < n → apart a b ≡ so a b
unfolding apart_is_by
apart_by_lem n apart so e a b ha hb =
    same_bool_lem (apart a b) (so a b) (every-at n (λ b. same_bool (apart a b) (so a b)) (every-at n (λ a. every n (λ b. same_bool (apart a b) (so a b))) e a ha) b hb)

-- ---- all of it

unfoldable pub fits_by : List ℕ → List ℕ → Bool
fits_by rows said =
    ordered_by (rows_of rows) && (within_by (length (rows_of rows)) (equations (context_of rows said)) && within_by (length (rows_of rows)) (differences (context_of rows said)))

unfoldable pub prepared_by : List ℕ → List ℕ → List ℕ → List ℕ → Bool
prepared_by rows said table sets =
    over_by (rows_of rows) (rep_at table) (over_at (row_count rows) sets)
    && (beside_by (rows_of rows) (rep_at table) (beside_at (row_count rows) sets)
    && (sides_by (differences (context_of rows said)) (rep_at table) (live_at (row_count rows) sets)
    && (under_by (rows_of rows) (rep_at table) (live_at (row_count rows) sets)
    && apart_is_by (row_count rows) (apart_at (row_count rows) sets) (apart_by (rep_at table) (differences (context_of rows said))))))

fits-by : (rows said : List ℕ) → fits_by rows said ≡ true → Fit (context_of rows said)
unfolding fits_by
fits-by rows said e =
    let w : (a && (b && d)) ≡ true = e in
    fit-by (context_of rows said) (and-true-left a (b && d) w) (and-true-left b d (and-true-right a (b && d) w)) (and-true-right b d (and-true-right a (b && d) w))
  where
    a : Bool
    a = ordered_by (rows_of rows)

    b : Bool
    b = within_by (length (rows_of rows)) (equations (context_of rows said))

    d : Bool
    d = within_by (length (rows_of rows)) (differences (context_of rows said))

prepared-by : (rows said table sets : List ℕ) → prepared_by rows said table sets ≡ true → Prepared rows said table sets
unfolding prepared_by
prepared-by rows said table sets e =
    let e₁ : (b && (c && (d && f))) ≡ true = and-true-right a (b && (c && (d && f))) e in
    let e₂ : (c && (d && f)) ≡ true = and-true-right b (c && (d && f)) e₁ in
    let e₃ : (d && f) ≡ true = and-true-right c (d && f) e₂ in
    record {
      over = over_by_lem _ _ _ (and-true-left a (b && (c && (d && f))) e);
      beside = beside-by _ _ _ (and-true-left b (c && (d && f)) e₁);
      live = live-by _ _ _ _ (and-true-left c (d && f) e₂) (and-true-left d f e₃);
      apart = apart_by_lem _ (apart_at (row_count rows) sets) (apart_by (rep_at table) (differences (context_of rows said))) (and-true-right d f e₃);
    }
  where
    a : Bool
    a = over_by (rows_of rows) (rep_at table) (over_at (row_count rows) sets)

    b : Bool
    b = beside_by (rows_of rows) (rep_at table) (beside_at (row_count rows) sets)

    c : Bool
    c = sides_by (differences (context_of rows said)) (rep_at table) (live_at (row_count rows) sets)

    d : Bool
    d = under_by (rows_of rows) (rep_at table) (live_at (row_count rows) sets)

    f : Bool
    f = apart_is_by (row_count rows) (apart_at (row_count rows) sets) (apart_by (rep_at table) (differences (context_of rows said)))

pub ready_by : (rows said table sets : List ℕ) → fits_by rows said ≡ true → close (rows_of rows) (equations (context_of rows said)) ≡ table
    → clash_of (rep_at table) (differences (context_of rows said)) ≡ clear → prepared_by rows said table sets ≡ true → Ready rows said table sets
ready_by rows said table sets e t k p =
    record { fit = fit; free = clash-clear (context_of rows said) fit (rep_at table) classes k; classes = classes; prepared = prepared-by rows said table sets p }
  where
    fit : Fit (context_of rows said)
    fit = fits-by rows said e

    classes : Representatives (context_of rows said) (rep_at table)
    classes = subst (λ (v : List ℕ). Representatives (context_of rows said) (rep_at v)) t (closing-represents (context_of rows said) fit)
