-- The equation of a term that is equal to no row makes no two rows equal that were not. Its value in the model of a closed table is an application
-- outside the table; where the value of the other term is no bigger, a model that gives the one the other's value is as good for all rows.
--     size                    how many symbols a value has outside the table
--     redirect, valued        one value gives way to another; the value of a term then
--     outside-keeps           an equation of a term outside adds nothing between rows
--     outside-differ           in a context that does not contradict itself a term outside differs from nothing
-- Assumes nothing.
use mathlib.Core.List.{List, [], ◌∷◌}
use mathlib.Core.Path.{◌≡◌, refl, ap, ap₂, sym, ◌∙◌, subst}
use mathlib.Core.Logic.{◌⊎◌, inl, inr, ⊎_elim}
use Prim.Native.Nat.{ℕ, suc, ◌+◌, ◌≤◌, ◌<◌}
use native.Mathlib.Omega.{arith}
use native.Mathlib.Decide.{ℕ_discrete, dec_lt}
use lib.ListN.{length}
use Rattle.meaning.specs.Context.{Row, Term, Terms, node, stop, more, term_at, Context, equations}
use Rattle.meaning.specs.Equality.{EqualIn, Equal, Same, Adding, stated, added, EqualAdding, Consistent, rep_at, given, symmetric}
use Rattle.meaning.specs.Rules.{Differ}
use Rattle.meaning.specs.Formed.{Ordered, Within, Fit}
use Rattle.meaning.specs.Closing.{close}
use Rattle.meaning.proofs.Model.{Closed, Val, Vals, Val-discrete, at_row, app, vstop, vmore, row_vals, settle, eval, evals, reify}
use Rattle.meaning.proofs.Meaning.{Answer, answer, eval-row, named, meaning-rows}
use Rattle.meaning.proofs.Least.{Each, least}
use Rattle.meaning.proofs.Closes.{close-closed}
use Rattle.meaning.proofs.Following.{adding-by, differ-symmetric}

-- ---- sizes

unfoldable mutual
  size : Val → ℕ
  size (at_row a) = 0
  size (app f vs) = suc (sizes vs)

  sizes : Vals → ℕ
  sizes vstop = 0
  sizes (vmore v vs) = size v + sizes vs

rows-small : (l : List ℕ) → sizes (row_vals l) ≡ 0
unfolding size row_vals
rows-small [] = refl
rows-small (a ∷ l) = omega (arith, rows-small l)

-- the arguments of a value have less than it has, or none
settle-size : (rows : List Row) (rep : ℕ → ℕ) (f : ℕ) (vs : Vals) → (sizes vs ≡ 0) ⊎ (size (settle rep f vs 0 rows) ≡ suc (sizes vs))
unfolding size
settle-size rows rep f vs = ⊎_elim (λ a. inl (ap sizes a.2.1 ∙ rows-small _)) (λ a. inr (ap size a.0)) (answer rep f vs 0 rows)

-- ---- v gives way to w

unfoldable either : {P : Type 0} → Dec P → Val → Val → Val
either (yes p) w x = w
either (no p) w x = x

unfoldable redirect : Val → Val → Val → Val
redirect v w x = either (Val-discrete ℕ_discrete x v) w x

redirect-cases : (v w x : Val) → ((x ≡ v) × (redirect v w x ≡ w)) ⊎ ((x ≡ v → ⊥) × (redirect v w x ≡ x))
unfolding redirect either
redirect-cases v w x = go (Val-discrete ℕ_discrete x v)
  where
    go : (d : Dec (x ≡ v)) → ((x ≡ v) × (either d w x ≡ w)) ⊎ ((x ≡ v → ⊥) × (either d w x ≡ x))
    go (yes e) = inl (e, refl)
    go (no n) = inr (n, refl)

redirect-small : (v w x : Val) → size x < size v → redirect v w x ≡ x
redirect-small v w x h = ⊎_elim (λ a. absurd (omega (arith, ap size a.0))) (λ a. a.1) (redirect-cases v w x)

redirect-from : (v w : Val) → redirect v w v ≡ w
redirect-from v w = ⊎_elim (λ a. a.1) (λ a. absurd (a.0 refl)) (redirect-cases v w v)

redirect-to : (v w : Val) → redirect v w w ≡ w
redirect-to v w = ⊎_elim (λ a. a.1) (λ a. a.1) (redirect-cases v w w)

-- ---- the model in which it has

module _ (rows : List Row) (rep : ℕ → ℕ) (v w : Val) where
  unfoldable mutual
    valued : Term → Val
    valued (node f ts) = redirect v w (settle rep f (valueds ts) 0 rows)

    valueds : Terms → Vals
    valueds stop = vstop
    valueds (more t ts) = vmore (valued t) (valueds ts)

  valueds-each : (ss ts : Terms) → Each (λ s t. valued s ≡ valued t) ss ts → valueds ss ≡ valueds ts
  unfolding valued
  valueds-each stop stop e = refl
  valueds-each stop (more t ts) e = absurd e
  valueds-each (more s ss) stop e = absurd e
  valueds-each (more s ss) (more t ts) e = ap₂ vmore e.0 (valueds-each ss ts e.1)

  module _ (outer : 0 < size v) where
    -- a term with a value no bigger than v keeps it, or has w for v
    mutual
      unfolding valued eval size

      moved : (x : Term) → size (eval rows rep x) ≤ size v → valued x ≡ redirect v w (eval rows rep x)
      moved (node f ts) h =
          let small : sizes (evals rows rep ts) < size v = ⊎_elim (λ e. omega arith) (λ e. omega arith) (settle-size rows rep f (evals rows rep ts)) in
          ap (λ (vs : Vals). redirect v w (settle rep f vs 0 rows)) (moveds ts small)

      moveds : (ts : Terms) → sizes (evals rows rep ts) < size v → valueds ts ≡ evals rows rep ts
      moveds stop h = refl
      moveds (more t ts) h = ap₂ vmore (moved t (omega arith) ∙ redirect-small v w (eval rows rep t) (omega arith)) (moveds ts (omega arith))

    module _ (eqs : List (ℕ × ℕ)) (ordered : Ordered rows) (within : Within (length rows) eqs) (closed : Closed rows eqs rep) where
      moved_row : (i : ℕ) → i < length rows → valued (term_at rows i) ≡ at_row (rep i)
      unfolding size
      moved_row i h =
          let e : eval rows rep (term_at rows i) ≡ at_row (rep i) = eval-row rows eqs rep ordered within closed i h in
          let z : size (eval rows rep (term_at rows i)) ≡ 0 = ap size e in
          moved (term_at rows i) (omega arith) ∙ redirect-small v w (eval rows rep (term_at rows i)) (omega arith) ∙ e

      module _ (t u : Term) (at-v : eval rows rep t ≡ v) (at-w : eval rows rep u ≡ w) (no-bigger : size w ≤ size v) where
        given-same : (p q : Term) → Adding rows eqs t u p q → valued p ≡ valued q
        given-same p q (stated (k, h, e, f)) =
            rw (e, f) (moved_row _ (within k h).0 ∙ ap at_row (closed.joined k h) ∙ sym (moved_row _ (within k h).1))
        given-same p q added =
            moved t (omega (arith, ap size at-v)) ∙ ap (redirect v w) at-v ∙ redirect-from v w
            ∙ sym (moved u (omega (arith, ap size at-w)) ∙ ap (redirect v w) at-w ∙ redirect-to v w)

        adding-same : {p q : Term} → Same (Adding rows eqs t u) p q → valued p ≡ valued q
        unfolding valued
        adding-same =
            least (record {
              contains = given-same;
              reflects = λ s. refl;
              turns = λ p q e. sym e;
              joins = λ p q r e f. e ∙ f;
              lifts = λ f ss ts e. ap (λ (vs : Vals). redirect v w (settle rep f vs 0 rows)) (valueds-each ss ts e);
            })

        adding-rows : (i j : ℕ) → i < length rows → j < length rows → Same (Adding rows eqs t u) (term_at rows i) (term_at rows j)
            → Equal rows eqs (term_at rows i) (term_at rows j)
        adding-rows i j hi hj d =
            (meaning-rows rows eqs rep ordered within closed i j hi hj).1 (at_row-inj (sym (moved_row i hi) ∙ adding-same d ∙ moved_row j hj))
          where
            at_row-inj : {a b : ℕ} → at_row a ≡ at_row b → a ≡ b
            at_row-inj e = cc

-- ---- a term outside

-- t is equal to no row
abbrev pub Outside : Context → Term → Type 0
Outside c t = (i : ℕ) → i < length c.rows → EqualIn c t (term_at c.rows i) → ⊥

module _ (c : Context) (fit : Fit c) (rep : ℕ → ℕ) (closed : Closed c.rows (equations c) rep) where
  outside-size : (t : Term) → Outside c t → 0 < size (eval c.rows rep t)
  unfolding eval size reify
  outside-size (node f ts) out = go (answer rep f (evals c.rows rep ts) 0 c.rows)
    where
      go : Answer rep f (evals c.rows rep ts) 0 c.rows → 0 < size (settle rep f (evals c.rows rep ts) 0 c.rows)
      go (inl a) =
          let l : rep (0 + a.0) < length c.rows = omega (arith, closed.low (0 + a.0) (omega (arith, a.1)), a.1) in
          absurd (out (rep (0 + a.0)) l (subst (λ (v : Val). EqualIn c (node f ts) (reify c.rows v)) a.3 (named c.rows (equations c) rep fit.ordered fit.within closed (node f ts))))
      go (inr a) = omega (arith, ap size a.0)

  keeps-by : (t u : Term) → Outside c t → (i j : ℕ) → i < length c.rows → j < length c.rows
      → EqualAdding c t u (term_at c.rows i) (term_at c.rows j) → EqualIn c (term_at c.rows i) (term_at c.rows j)
  keeps-by t u out i j hi hj d = go (dec_lt (size v) (size w))
    where
      v : Val
      v = eval c.rows rep t

      w : Val
      w = eval c.rows rep u

      go : Dec (size v < size w) → EqualIn c (term_at c.rows i) (term_at c.rows j)
      go (no h) =
          adding-rows c.rows rep v w (outside-size t out) (equations c) fit.ordered fit.within closed t u refl refl (omega arith) i j hi hj d
      go (yes h) =
          adding-rows c.rows rep w v (omega arith) (equations c) fit.ordered fit.within closed u t refl refl (omega arith) i j hi hj
          (adding-by c t u u t (symmetric (given added)) d)

pub outside-keeps : (c : Context) → Fit c → (t u : Term) → Outside c t → (i j : ℕ) → i < length c.rows → j < length c.rows
    → EqualAdding c t u (term_at c.rows i) (term_at c.rows j) → EqualIn c (term_at c.rows i) (term_at c.rows j)
outside-keeps c fit = keeps-by c fit (rep_at (close c.rows (equations c))) (close-closed c.rows (equations c) fit.ordered fit.within)

pub outside-differ : (c : Context) → Fit c → Consistent c → (t : Term) → Outside c t → (u : Term) → (Differ c t u → ⊥) × (Differ c u t → ⊥)
outside-differ c fit k t out u = (never, λ w. never (differ-symmetric c u t w))
  where
    never : Differ c t u → ⊥
    never w =
        k w.0 (w.1, outside-keeps c fit t u out _ _ (fit.apart w.0 w.1).0 (fit.apart w.0 w.1).1 w.2)
