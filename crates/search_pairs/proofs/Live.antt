-- Classes from which no side of a stated difference is reached through the rows over them: their equation makes no two sides equal.
--     least-so        the lowest number that passes a test
--     live-differ      two rows of such classes do not differ
-- All rows of such classes are taken for one. What then agrees did before, or is among them; so whatever the equation makes equal has one place in that
-- table, and the sides keep theirs.
-- Assumes nothing.
use mathlib.Core.Bool.{Bool, true, false, not}
use mathlib.Core.List.{List, [], ◌∷◌, map}
use mathlib.Core.Path.{◌≡◌, refl, ap, ap₂, sym, ◌∙◌, subst}
use mathlib.Core.Logic.{◌⊎◌, inl, inr, ⊎_elim}
use Prim.Native.Nat.{ℕ, zero, suc, ◌+◌, ◌≤◌, ◌<◌}
use native.Mathlib.Nat.{eq-or-lt_of_le, le_of_suc-le-suc}
use native.Mathlib.Omega.{arith}
use native.Mathlib.Decide.{dec_lt}
use lib.ListN.{length, get_or, length-map}
use Rattle.meaning.specs.Context.{Term, row_at, term_at, Context, equations_of, equations, differences_of, differences, left_at, right_at}
use Rattle.meaning.specs.Equality.{Equal, Clash, Stated, Consistent, Representatives, given}
use Rattle.meaning.specs.Formed.{Fit, Within}
use Rattle.meaning.specs.Closing.{count}
use Rattle.meaning.specs.Following.{with_equation, differ_by}
use Rattle.meaning.proofs.Closes.{length-count, rep_at-count}
use Rattle.meaning.proofs.Logic.{false-true}
use Rattle.meaning.proofs.Meaning.{meaning-rows}
use Rattle.meaning.proofs.Model.{Closed}
use Rattle.meaning.proofs.Pairs.{same-mono}
use Rattle.meaning.proofs.Promised.{representatives-closed, model-rows}
use Rattle.meaning.proofs.Following.{differ-rows}
use Rattle.meaning.proofs.FollowingNumbers.{differ_by-rows}
use Rattle.search_pairs.specs.Ready.{Live}

abbrev Least : (ℕ → Bool) → ℕ → ℕ → Type 0
Least test n m = (m ≤ n) × (test m ≡ true) × ((k : ℕ) → k < m → test k ≡ false)

least-from : (test : ℕ → Bool) (n : ℕ) → test n ≡ true → (fuel m : ℕ) → m + fuel ≡ n → ((k : ℕ) → k < m → test k ≡ false) → (x : ℕ) × Least test n x
least-from test n e zero m q f = (m, (omega arith, subst (λ (x : ℕ). test x ≡ true) (omega arith) e, f))
least-from test n e (suc fuel) m q f = go (test m) refl (least-from test n e fuel (suc m) (omega arith))
  where
    go : (b : Bool) → test m ≡ b → (((k : ℕ) → k < suc m → test k ≡ false) → (x : ℕ) × Least test n x) → (x : ℕ) × Least test n x
    go true w r = (m, (omega arith, w, f))
    go false w r = r (λ k h. ⊎_elim (λ z. rw z w) (λ l. f k l) (last k h))
      where
        last : (k : ℕ) → k < suc m → (k ≡ m) ⊎ (k < m)
        last k h = eq-or-lt_of_le (le_of_suc-le-suc h)

pub least-so : (test : ℕ → Bool) (n : ℕ) → test n ≡ true → (x : ℕ) × Least test n x
least-so test n e = least-from test n e n 0 (omega arith) (λ k h. absurd (omega arith))

-- ---- a table as equations

standing : (ℕ → ℕ) → ℕ → List (ℕ × ℕ)
standing v n = map (λ r. (r, v r)) (count n 0)

at_pair : (f : ℕ → ℕ × ℕ) (l : List ℕ) (k : ℕ) → k < length l → get_or (map f l) k (0, 0) ≡ f (get_or l k 0)
at_pair f [] k h = absurd (omega arith)
at_pair f (x ∷ l) zero h = refl
at_pair f (x ∷ l) (suc k) h = at_pair f l k (omega arith)

standing-at : (v : ℕ → ℕ) (n k : ℕ) → k < n → get_or (standing v n) k (0, 0) ≡ (k, v k)
unfolding standing
standing-at v n k h =
    at_pair (λ r. (r, v r)) (count n 0) k (omega (arith, length-count n 0))
    ∙ ap (λ (r : ℕ). (r, v r)) (rep_at-count n 0 k h ∙ omega arith)

standing-long : (v : ℕ → ℕ) (n : ℕ) → length (standing v n) ≡ n
unfolding standing
standing-long v n = length-map (count n 0) (λ r. (r, v r)) ∙ length-count n 0

module _ (c : Context) (fit : Fit c) (free : Consistent c) (rep : ℕ → ℕ) (reps : Representatives c rep) (i j : ℕ) (hi : i < length c.rows) (hj : j < length c.rows)
    (live : ℕ → Bool) (lives : Live c.rows (differences c) rep live) (no-i : live (rep i) ≡ false) (no-j : live (rep j) ≡ false) where
  closed : Closed c.rows (equations c) rep
  closed = representatives-closed c fit rep reps

  dead : ℕ → Bool
  dead r = not (live (rep r))

  dead-true : (r : ℕ) → live (rep r) ≡ false → dead r ≡ true
  unfolding dead
  dead-true r e = rw e refl

  dead-live : (r : ℕ) → dead r ≡ true → live (rep r) ≡ false
  unfolding dead
  dead-live r e = go (live (rep r)) refl
    where
      go : (b : Bool) → live (rep r) ≡ b → live (rep r) ≡ false
      go false f = f
      go true f = let z : not (live (rep r)) ≡ false = rw f refl in false-true e z

  -- the lowest row of all such classes
  low : (x : ℕ) × Least dead i x
  low = least-so dead i (dead-true i no-i)

  d : ℕ
  d = low.0

  d-row : d < length c.rows
  unfolding d
  d-row = omega (arith, low.1.0)

  d-dead : live (rep d) ≡ false
  unfolding d
  d-dead = dead-live low.0 low.1.1

  d-low : (r : ℕ) → live (rep r) ≡ false → d ≤ r
  unfolding d
  d-low r e = go (dec_lt r low.0)
    where
      go : Dec (r < low.0) → low.0 ≤ r
      go (yes h) = false-true (dead-true r e) (low.1.2 r h)
      go (no h) = omega arith

  d-own : rep d ≡ d
  d-own = omega (arith, closed.low d d-row, d-low (rep d) (rw (closed.settled d d-row) d-dead))

  -- these rows are taken for one
  v : ℕ → ℕ
  v r = elim (live (rep r)) [ true ↦ rep r | false ↦ d ]

  v-live : (r : ℕ) → live (rep r) ≡ true → v r ≡ rep r
  unfolding v
  v-live r e = rw (e, v) refl

  v-dead : (r : ℕ) → live (rep r) ≡ false → v r ≡ d
  unfolding v
  v-dead r e = rw (e, v) refl

  state : (r : ℕ) → (live (rep r) ≡ true) ⊎ (live (rep r) ≡ false)
  state r = go (live (rep r)) refl
    where
      go : (b : Bool) → live (rep r) ≡ b → (live (rep r) ≡ true) ⊎ (live (rep r) ≡ false)
      go true e = inl e
      go false e = inr e

  v-rep : (x y : ℕ) → rep x ≡ rep y → v x ≡ v y
  unfolding v
  v-rep x y e = ap (λ (a : ℕ). elim (live a) [ true ↦ a | false ↦ d ]) e

  v-same : (x y : ℕ) → live (rep x) ≡ true → v x ≡ v y → rep x ≡ rep y
  v-same x y e f =
      ⊎_elim
      (λ l. sym (v-live x e) ∙ f ∙ v-live y l)
      (λ l. false-true (subst (λ (z : ℕ). live z ≡ true) (sym (v-live x e) ∙ f ∙ v-dead y l ∙ sym d-own) e) d-dead)
      (state y)

  v-args : (l m : List ℕ) → ((k : ℕ) → k < length l → live (rep (get_or l k 0)) ≡ true) → map v l ≡ map v m → map rep l ≡ map rep m
  v-args [] [] f e = refl
  v-args [] (y ∷ m) f e = absurd (let z : ◌≡◌ {A = ℕ} 0 1 = cc in omega arith)
  v-args (x ∷ l) [] f e = absurd (let z : ◌≡◌ {A = ℕ} 0 1 = cc in omega arith)
  v-args (x ∷ l) (y ∷ m) f e =
      let h : v x ≡ v y = cc in
      let t : map v l ≡ map v m = cc in
      ap₂ ◌∷◌ (v-same x y (f 0 (omega arith)) h) (v-args l m (λ k g. f (suc k) (omega arith)) t)

  v-alike : (r s : ℕ) → r < length c.rows → s < length c.rows → (row_at c.rows r).symbol ≡ (row_at c.rows s).symbol
      → map v (row_at c.rows r).args ≡ map v (row_at c.rows s).args → v r ≡ v s
  v-alike r s h l e f = go (state r) (state s)
    where
      go : (live (rep r) ≡ true) ⊎ (live (rep r) ≡ false) → (live (rep s) ≡ true) ⊎ (live (rep s) ≡ false) → v r ≡ v s
      go (inl p) q = v-rep r s (closed.alike r s h l e (v-args (row_at c.rows r).args (row_at c.rows s).args (λ k g. lives.under r k h g p) f))
      go (inr p) (inl q) = v-rep r s (sym (closed.alike s r l h (sym e) (v-args (row_at c.rows s).args (row_at c.rows r).args (λ k g. lives.under s k l g q) (sym f))))
      go (inr p) (inr q) = v-dead r p ∙ sym (v-dead s q)

  said : List (ℕ × ℕ)
  said = standing v (length c.rows)

  v_low : (r : ℕ) → r < length c.rows → v r ≤ r
  v_low r h = ⊎_elim (λ e. omega (arith, v-live r e, closed.low r h)) (λ e. omega (arith, v-dead r e, d-low r e)) (state r)

  v-settled : (r : ℕ) → r < length c.rows → v (v r) ≡ v r
  v-settled r h =
      ⊎_elim
      (λ e. ap v (v-live r e) ∙ v-live (rep r) (rw (closed.settled r h) e) ∙ closed.settled r h ∙ sym (v-live r e))
      (λ e. ap v (v-dead r e) ∙ v-dead d d-dead ∙ sym (v-dead r e))
      (state r)

  left-at : (k : ℕ) → k < length c.rows → left_at said k ≡ k
  unfolding said
  left-at k h = ap (λ (x : ℕ × ℕ). x.0) (standing-at v (length c.rows) k h)

  right-at : (k : ℕ) → k < length c.rows → right_at said k ≡ v k
  unfolding said
  right-at k h = ap (λ (x : ℕ × ℕ). x.1) (standing-at v (length c.rows) k h)

  said-long : length said ≡ length c.rows
  unfolding said
  said-long = standing-long v (length c.rows)

  stated-so : (r : ℕ) → r < length c.rows → Equal c.rows said (term_at c.rows r) (term_at c.rows (v r))
  stated-so r h = given (r, omega (arith, said-long), ap (term_at c.rows) (sym (left-at r h)), ap (term_at c.rows) (sym (right-at r h)))

  v-closed : Closed c.rows said v
  v-closed =
      record {
        low = v_low;
        settled = v-settled;
        joined = λ k h.
            let l : k < length c.rows = omega (arith, said-long) in
            rw (left-at k l, right-at k l) (sym (v-settled k l));
        alike = v-alike;
        sound = stated-so;
      }

  within : Within (length c.rows) said
  within k h =
      let l : k < length c.rows = omega (arith, said-long) in
      (rw (left-at k l) l, rw (right-at k l) (omega (arith, v_low k l)))

  v-equal : (x y : ℕ) → x < length c.rows → y < length c.rows → v x ≡ v y → Equal c.rows said (term_at c.rows x) (term_at c.rows y)
  v-equal x y hx hy e = (meaning-rows c.rows said v fit.ordered within v-closed x y hx hy).1 e

  each : (s t : Term) → Stated c.rows ((i, j) ∷ equations c) s t → Equal c.rows said s t
  each s t (zero, h, e, f) = rw (e, f) (v-equal i j hi hj (v-dead i no-i ∙ sym (v-dead j no-j)))
  each s t (suc k, h, e, f) =
      let l : k < length (equations c) = omega arith in
      rw (e, f) (v-equal _ _ (fit.within k l).0 (fit.within k l).1 (v-rep _ _ (closed.joined k l)))

  never : (n : ℕ) → Clash (with_equation c i j) n → ⊥
  unfolding equations_of differences_of
  never n (h, e) =
      let p : left_at (differences c) n < length c.rows = (fit.apart n h).0 in
      let q : right_at (differences c) n < length c.rows = (fit.apart n h).1 in
      let w : v (left_at (differences c) n) ≡ v (right_at (differences c) n) =
      (meaning-rows c.rows said v fit.ordered within v-closed _ _ p q).0 (same-mono each e) in
      free n (h, (model-rows c fit rep reps _ _ p q).1 (v-same _ _ (lives.left n h) w))

  pub live-differ : differ_by c i j ≡ false
  live-differ = go (differ_by c i j) refl
    where
      go : (b : Bool) → differ_by c i j ≡ b → differ_by c i j ≡ false
      go false e = e
      go true e = let w : (n : ℕ) × Clash (with_equation c i j) n = (differ-rows c i j).0 ((differ_by-rows c fit i j hi hj).1 e) in absurd (never w.0 w.1)
