-- Differences that follow, as tables of representatives tell them.
--     follows_by-true, follows-first, follows-clear   what the computed test says of the table, and by the computed clash
--     differ-decided                                  two rows differ just where some stated difference has one representative by their equation
--     stated-apart                                   rows that are kept apart differ
--     occurs-at                                      what it says that a class occurs nowhere
--     unused-differ                                   where the class of one of two rows occurs nowhere, they do not differ: one merge closes the table
--                                                    again, and it makes no other two classes one
-- Assumes nothing.
use mathlib.Core.Bool.{Bool, true, false, ◌||◌}
use mathlib.Core.List.{List, [], ◌∷◌, map}
use mathlib.Core.Path.{◌≡◌, refl, ap, ap₂, sym, ◌∙◌, subst}
use mathlib.Core.Logic.{◌⊎◌, inl, inr, ⊎_elim, ◌↔◌}
use Prim.Native.Nat.{ℕ, zero, suc, ◌<◌}
use native.Mathlib.Omega.{arith}
use native.Mathlib.Decide.{dec_lt}
use lib.Dec.{eqb}
use borrow.Author.Tests.{eqb-true, eqb-false, eq-eqb}
use lib.ListN.{length}
use Rattle.meaning.specs.Context.{Row, row_at, term_at, Context, equations_of, equations, differences_of, differences, left_at, right_at}
use Rattle.meaning.specs.Equality.{Equal, Consistent, Clash, Representatives, symmetric, transitive}
use Rattle.meaning.specs.Rules.{Differ}
use Rattle.meaning.specs.Formed.{Fit}
use Rattle.meaning.specs.ByTable.{first, clear, clash_of, apart_by}
use Rattle.meaning.specs.Following.{with_equation, follows_by, among_by, argument_by, side_by, occurs_by}
use Rattle.meaning.specs.Closing.{Sofar, move}
use Rattle.meaning.proofs.Logic.{or_cases, or_left, or_right, or-none}
use Rattle.meaning.proofs.Model.{Closed}
use Rattle.meaning.proofs.Progress.{move-cases}
use Rattle.meaning.proofs.Promised.{representatives-closed, closed-representatives, model-rows}
use Rattle.meaning.proofs.Apartness.{Hits, Told, clash-told, apart-rows}
use Rattle.meaning.proofs.Following.{apart-differ, consistent-differ, differ-symmetric, with-fit, differ-rows}
use Rattle.meaning.proofs.FollowingClosing.{closed-sofar, lower-sofar, with-given, further-closed}

-- ---- the computed test, whatever the table

pub follows_by-true : (rep : ℕ → ℕ) (ds : List (ℕ × ℕ)) → (follows_by rep ds ≡ true) ↔ ((n : ℕ) × Hits rep ds n)
unfolding follows_by
follows_by-true rep [] = (λ e. absurd (let z : ◌≡◌ {A = ℕ} 0 1 = cc in omega arith), λ w. absurd (omega (arith, w.1.0)))
follows_by-true rep (d ∷ ds) = (
  λ e. there (follows_by-true rep ds).0 (or_cases (eqb (rep d.0) (rep d.1)) (follows_by rep ds) e),
  λ w. back (follows_by-true rep ds).1 w.0 w.1,
)
  where
    Some : List (ℕ × ℕ) → Type 0
    Some l = (n : ℕ) × Hits rep l n

    there : (follows_by rep ds ≡ true → Some ds) → (eqb (rep d.0) (rep d.1) ≡ true) ⊎ (follows_by rep ds ≡ true) → Some (d ∷ ds)
    there i (inl e) = (0, (omega arith, eqb-true (rep d.0) (rep d.1) e))
    there i (inr e) = let w : Some ds = i e in (suc w.0, (omega (arith, w.1.0), w.1.1))

    back : (Some ds → follows_by rep ds ≡ true) → (n : ℕ) → Hits rep (d ∷ ds) n → (eqb (rep d.0) (rep d.1) || follows_by rep ds) ≡ true
    back i zero h = or_left (eqb (rep d.0) (rep d.1)) (follows_by rep ds) (eq-eqb (rep d.0) (rep d.1) h.1)
    back i (suc n) h = or_right (eqb (rep d.0) (rep d.1)) (follows_by rep ds) (i (n, (omega (arith, h.0), h.1)))

pub follows-first : (rep : ℕ → ℕ) (ds : List (ℕ × ℕ)) (n : ℕ) → clash_of rep ds ≡ first n → follows_by rep ds ≡ true
follows-first rep ds n e =
    let t : Told rep 0 ds (first n) = subst (Told rep 0 ds) e (clash-told rep ds) in
    (follows_by-true rep ds).1 (t.0, t.2)

pub follows-clear : (rep : ℕ → ℕ) (ds : List (ℕ × ℕ)) → clash_of rep ds ≡ clear → follows_by rep ds ≡ false
follows-clear rep ds e = go (follows_by rep ds) refl
  where
    go : (b : Bool) → follows_by rep ds ≡ b → follows_by rep ds ≡ false
    go false f = f
    go true f = let w : (n : ℕ) × Hits rep ds n = (follows_by-true rep ds).0 f in absurd (subst (Told rep 0 ds) e (clash-told rep ds) w.0 w.1)

-- ---- two rows, by a closing with their equation

pub differ-decided : (c : Context) → Fit c → (i j : ℕ) → i < length c.rows → j < length c.rows
    → (rep : ℕ → ℕ) → Representatives (with_equation c i j) rep
    → Differ c (term_at c.rows i) (term_at c.rows j) ↔ (follows_by rep (differences c) ≡ true)
unfolding differences_of
differ-decided c fit i j hi hj rep r = (
  λ w.
      let x : (n : ℕ) × Clash (with_equation c i j) n = (differ-rows c i j).0 w in
      (follows_by-true rep (differences c)).1 (x.0, (x.1.0, (hits x.0 x.1.0).0 x.1.1)),
  λ e.
      let x : (n : ℕ) × Hits rep (differences c) n = (follows_by-true rep (differences c)).0 e in
      (differ-rows c i j).1 (x.0, (x.1.0, (hits x.0 x.1.0).1 x.1.1)),
)
  where
    hits : (n : ℕ) → n < length (differences c)
        → Equal c.rows (equations (with_equation c i j)) (term_at c.rows (left_at (differences c) n)) (term_at c.rows (right_at (differences c) n))
        ↔ (rep (left_at (differences c) n) ≡ rep (right_at (differences c) n))
    hits n h = model-rows (with_equation c i j) (with-fit c fit i j hi hj) rep r _ _ (fit.apart n h).0 (fit.apart n h).1

-- ---- the pair is stated apart

pub stated-apart : (c : Context) → Fit c → (rep : ℕ → ℕ) → Representatives c rep → (i j : ℕ) → i < length c.rows → j < length c.rows
    → apart_by rep (differences c) (rep i) (rep j) ≡ true → Differ c (term_at c.rows i) (term_at c.rows j)
stated-apart c fit rep r i j hi hj e = apart-differ c _ _ ((apart-rows c fit rep r i j hi hj).1 e)

-- ---- a class that occurs nowhere

module _ (rep : ℕ → ℕ) (a : ℕ) where
  argument-at : (rows : List Row) → argument_by rep rows a ≡ false → (k : ℕ) → k < length rows → among_by rep (row_at rows k).args a ≡ false
  unfolding argument_by
  argument-at [] e k h = absurd (omega arith)
  argument-at (r ∷ rs) e zero h = (or-none (among_by rep r.args a) (argument_by rep rs a) e).0
  argument-at (r ∷ rs) e (suc k) h = argument-at rs (or-none (among_by rep r.args a) (argument_by rep rs a) e).1 k (omega arith)

  side-at : (ds : List (ℕ × ℕ)) → side_by rep ds a ≡ false → (k : ℕ) → k < length ds → (rep (left_at ds k) ≡ a → ⊥) × (rep (right_at ds k) ≡ a → ⊥)
  unfolding side_by
  side-at [] e k h = absurd (omega arith)
  side-at (d ∷ ds) e zero h =
      let w : (eqb (rep d.0) a ≡ false) × (eqb (rep d.1) a ≡ false) =
      or-none (eqb (rep d.0) a) (eqb (rep d.1) a) (or-none (eqb (rep d.0) a || eqb (rep d.1) a) (side_by rep ds a) e).0 in
      (eqb-false (rep d.0) a w.0, eqb-false (rep d.1) a w.1)
  side-at (d ∷ ds) e (suc k) h = side-at ds (or-none (eqb (rep d.0) a || eqb (rep d.1) a) (side_by rep ds a) e).1 k (omega arith)

  pub occurs-at : (rows : List Row) (ds : List (ℕ × ℕ)) → occurs_by rep rows ds a ≡ false
      → ((k : ℕ) → k < length rows → among_by rep (row_at rows k).args a ≡ false)
      × ((k : ℕ) → k < length ds → (rep (left_at ds k) ≡ a → ⊥) × (rep (right_at ds k) ≡ a → ⊥))
  unfolding occurs_by
  occurs-at rows ds e =
      let w : (argument_by rep rows a ≡ false) × (side_by rep ds a ≡ false) = or-none (argument_by rep rows a) (side_by rep ds a) e in
      (argument-at rows w.0, side-at ds w.1)

  -- a merge with the class a makes no two others one
  module _ (lo hi : ℕ) (one : (a ≡ lo) ⊎ (a ≡ hi)) where
    move-other : (x y : ℕ) → (x ≡ a → ⊥) → (y ≡ a → ⊥) → move lo hi x ≡ move lo hi y → x ≡ y
    move-other x y nx ny e = go (move-cases lo hi x) (move-cases lo hi y) one
      where
        go : ((x ≡ hi) × (move lo hi x ≡ lo)) ⊎ ((x ≡ hi → ⊥) × (move lo hi x ≡ x))
            → ((y ≡ hi) × (move lo hi y ≡ lo)) ⊎ ((y ≡ hi → ⊥) × (move lo hi y ≡ y))
            → (a ≡ lo) ⊎ (a ≡ hi) → x ≡ y
        go (inl p) (inl q) o = p.0 ∙ sym q.0
        go (inl p) (inr q) (inl o) = absurd (ny (sym q.1 ∙ sym e ∙ p.1 ∙ sym o))
        go (inl p) (inr q) (inr o) = absurd (nx (p.0 ∙ sym o))
        go (inr p) (inl q) (inl o) = absurd (nx (sym p.1 ∙ e ∙ q.1 ∙ sym o))
        go (inr p) (inl q) (inr o) = absurd (ny (q.0 ∙ sym o))
        go (inr p) (inr q) o = sym p.1 ∙ e ∙ q.1

    args-other : (l m : List ℕ) → among_by rep l a ≡ false → among_by rep m a ≡ false
        → map (λ r. move lo hi (rep r)) l ≡ map (λ r. move lo hi (rep r)) m → map rep l ≡ map rep m
    unfolding among_by
    args-other [] [] p q e = refl
    args-other [] (y ∷ m) p q e = cc
    args-other (x ∷ l) [] p q e = cc
    args-other (x ∷ l) (y ∷ m) p q e =
        let u : (eqb (rep x) a ≡ false) × (among_by rep l a ≡ false) = or-none (eqb (rep x) a) (among_by rep l a) p in
        let v : (eqb (rep y) a ≡ false) × (among_by rep m a ≡ false) = or-none (eqb (rep y) a) (among_by rep m a) q in
        let h : move lo hi (rep x) ≡ move lo hi (rep y) = cc in
        let t : map (λ r. move lo hi (rep r)) l ≡ map (λ r. move lo hi (rep r)) m = cc in
        ap₂ ◌∷◌ (move-other (rep x) (rep y) (eqb-false (rep x) a u.0) (eqb-false (rep y) a v.0) h) (args-other l m u.1 v.1 t)

module _ (c : Context) (fit : Fit c) (rep : ℕ → ℕ) (r : Representatives c rep) (i j : ℕ) (hi : i < length c.rows) (hj : j < length c.rows) where
  closed : Closed c.rows (equations c) rep
  closed = representatives-closed c fit rep r

  -- the two representatives, the lower one first
  abbrev Two : ℕ → ℕ → Type 0
  Two lo up = ((rep i ≡ lo) × (rep j ≡ up)) ⊎ ((rep i ≡ up) × (rep j ≡ lo))

  module _ (lo up : ℕ) (two : Two lo up) (less : lo < up) where
    abbrev merged : ℕ → ℕ
    merged x = move lo up (rep x)

    same : Equal c.rows ((i, j) ∷ equations c) (term_at c.rows up) (term_at c.rows lo)
    same = ⊎_elim (λ w. rw (sym w.0, sym w.1) (symmetric across)) (λ w. rw (sym w.0, sym w.1) across) two
      where
        so : Sofar c.rows ((i, j) ∷ equations c) rep
        so = closed-sofar c.rows (equations c) i j rep closed

        across : Equal c.rows ((i, j) ∷ equations c) (term_at c.rows (rep i)) (term_at c.rows (rep j))
        across = transitive (symmetric (so.sound i hi)) (transitive (with-given c.rows (equations c) i j) (so.sound j hj))

    inside : up < length c.rows
    inside = ⊎_elim (λ w. omega (arith, closed.low j hj)) (λ w. omega (arith, closed.low i hi)) two

    at-lo : rep lo ≡ lo
    at-lo = ⊎_elim (λ w. rw (sym w.0) (closed.settled i hi)) (λ w. rw (sym w.1) (closed.settled j hj)) two

    at_up : rep up ≡ up
    at_up = ⊎_elim (λ w. rw (sym w.1) (closed.settled j hj)) (λ w. rw (sym w.0) (closed.settled i hi)) two

    joined : merged i ≡ merged j
    joined = ⊎_elim (λ w. ap (move lo up) w.0 ∙ from ∙ sym (ap (move lo up) w.1 ∙ to)) (λ w. ap (move lo up) w.0 ∙ to ∙ sym (ap (move lo up) w.1 ∙ from)) two
      where
        to : move lo up up ≡ lo
        to = ⊎_elim (λ x. x.1) (λ x. absurd (x.0 refl)) (move-cases lo up up)

        from : move lo up lo ≡ lo
        from = ⊎_elim (λ x. x.1) (λ x. x.1) (move-cases lo up lo)

    one : (rep i ≡ lo) ⊎ (rep i ≡ up)
    one = ⊎_elim (λ w. inl w.0) (λ w. inr w.0) two

    -- one merge is enough
    unused-closed : occurs_by rep c.rows (differences c) (rep i) ≡ false → Closed c.rows ((i, j) ∷ equations c) merged
    unused-closed e =
        further-closed c.rows (equations c) i j rep closed fit.within merged
        (lower-sofar c.rows (equations c) i j rep closed lo up less inside at-lo at_up same)
        (λ x y hx hy q. ap (move lo up) q)
        joined
        (λ x y hx hy s m.
        ap (move lo up)
        (closed.alike x y hx hy s (args-other rep (rep i) lo up one (row_at c.rows x).args (row_at c.rows y).args (free.0 x hx) (free.0 y hy) m)))
      where
        free : ((k : ℕ) → k < length c.rows → among_by rep (row_at c.rows k).args (rep i) ≡ false)
            × ((k : ℕ) → k < length (differences c) → (rep (left_at (differences c) k) ≡ rep i → ⊥) × (rep (right_at (differences c) k) ≡ rep i → ⊥))
        free = occurs-at rep (rep i) c.rows (differences c) e

    unused-differs : Consistent c → occurs_by rep c.rows (differences c) (rep i) ≡ false → Differ c (term_at c.rows i) (term_at c.rows j) → ⊥
    unfolding equations_of
    unused-differs k e w =
        let m : Representatives (with_equation c i j) merged =
        closed-representatives (with_equation c i j) (with-fit c fit i j hi hj) merged (unused-closed e) in
        let x : (n : ℕ) × Hits merged (differences c) n = (follows_by-true merged (differences c)).0 ((differ-decided c fit i j hi hj merged m).0 w) in
        let f : (rep (left_at (differences c) x.0) ≡ rep i → ⊥) × (rep (right_at (differences c) x.0) ≡ rep i → ⊥) =
        (occurs-at rep (rep i) c.rows (differences c) e).1 x.0 x.1.0 in
        k x.0 (
          x.1.0,
          (model-rows c fit rep r _ _ (fit.apart x.0 x.1.0).0 (fit.apart x.0 x.1.0).1).1
              (move-other rep (rep i) lo up one _ _ f.0 f.1 x.1.1),
        )

  unused-left : Consistent c → occurs_by rep c.rows (differences c) (rep i) ≡ false → Differ c (term_at c.rows i) (term_at c.rows j) → ⊥
  unused-left k e = go (dec_lt (rep i) (rep j)) (dec_lt (rep j) (rep i))
    where
      go : Dec (rep i < rep j) → Dec (rep j < rep i) → Differ c (term_at c.rows i) (term_at c.rows j) → ⊥
      go (yes h) d = unused-differs (rep i) (rep j) (inl (refl, refl)) h k e
      go (no h) (yes l) = unused-differs (rep j) (rep i) (inr (refl, refl)) l k e
      go (no h) (no l) = consistent-differ c k _ _ ((model-rows c fit rep r i j hi hj).1 (omega arith))

pub unused-differ : (c : Context) → Fit c → Consistent c → (rep : ℕ → ℕ) → Representatives c rep → (i j : ℕ) → i < length c.rows → j < length c.rows
    → (occurs_by rep c.rows (differences c) (rep i) ≡ false) ⊎ (occurs_by rep c.rows (differences c) (rep j) ≡ false)
    → Differ c (term_at c.rows i) (term_at c.rows j) → ⊥
unused-differ c fit k rep r i j hi hj (inl e) w = unused-left c fit rep r i j hi hj k e w
unused-differ c fit k rep r i j hi hj (inr e) w = unused-left c fit rep r j i hj hi k e (differ-symmetric c _ _ w)
