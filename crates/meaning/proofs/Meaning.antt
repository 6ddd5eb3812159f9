-- Two ground terms are equal just where a closed table gives them one value.
-- Assumes nothing.
use mathlib.Core.Bool.{Bool, true, false, ◌&&◌}
use mathlib.Core.List.{List, [], ◌∷◌, map}
use mathlib.Core.Path.{◌≡◌, refl, ap, ap₂, sym, ◌∙◌, subst}
use mathlib.Core.Logic.{◌⊎◌, inl, inr, ◌↔◌}
use Prim.Native.Nat.{ℕ, zero, suc, ◌+◌, ◌≤◌, ◌<◌}
use native.Mathlib.Omega.{arith}
use lib.Dec.{eqb}
use borrow.Author.Tests.{eqb-true, eq-eqb}
use lib.ListN.{length}
use Rattle.meaning.specs.Context.{Row, stop, more, row_at, pick, term_at, terms, Term, Terms, node}
use Rattle.meaning.specs.Equality.{Equal, given, reflexive, symmetric, transitive, congruent, Sames, Stated, same_stop, same_more}
use Rattle.meaning.specs.Rules.{Below}
use Rattle.meaning.specs.Formed.{Ordered, Within}
use Rattle.meaning.proofs.Logic.{and-true-left, and-true-right}
use Rattle.meaning.proofs.Table.{term-at}
use Rattle.meaning.proofs.Model.{row_vals, Vals, Val, is_row, at_row, app, are_rows, vstop, vmore, settle, Closed, eval, evals, reifys, reify}

-- ---- values of rows

pub row_vals-inj : (l m : List ℕ) → row_vals l ≡ row_vals m → l ≡ m
unfolding row_vals
row_vals-inj [] [] e = refl
row_vals-inj [] (b ∷ m) e = cc
row_vals-inj (a ∷ l) [] e = cc
row_vals-inj (a ∷ l) (b ∷ m) e =
    let h : a ≡ b = cc in
    let t : row_vals l ≡ row_vals m = cc in
    ap₂ ◌∷◌ h (row_vals-inj l m t)

is_row-true : (v : Val) (a : ℕ) → is_row v a ≡ true → v ≡ at_row a
unfolding is_row
is_row-true (at_row b) a e = ap at_row (eqb-true b a e)
is_row-true (app f vs) a e = cc

pub are_rows-true : (vs : Vals) (l : List ℕ) → are_rows vs l ≡ true → vs ≡ row_vals l
unfolding are_rows row_vals
are_rows-true vstop [] e = refl
are_rows-true vstop (a ∷ l) e = cc
are_rows-true (vmore v vs) [] e = cc
are_rows-true (vmore v vs) (a ∷ l) e =
    ap₂ vmore (is_row-true v a (and-true-left (is_row v a) (are_rows vs l) e)) (are_rows-true vs l (and-true-right (is_row v a) (are_rows vs l) e))

pub are_rows-self : (l : List ℕ) → are_rows (row_vals l) l ≡ true
unfolding are_rows row_vals is_row
are_rows-self [] = refl
are_rows-self (a ∷ l) = rw (eq-eqb a a refl) (are_rows-self l)

-- ---- the search in the table

abbrev pub Hit : (ℕ → ℕ) → ℕ → Vals → Row → Type 0
Hit rep f vs r = (f ≡ r.symbol) × (vs ≡ row_vals (map rep r.args))

hit : (rep : ℕ → ℕ) (f : ℕ) (vs : Vals) (r : Row) → (eqb f r.symbol && are_rows vs (map rep r.args)) ≡ true → Hit rep f vs r
hit rep f vs r e =
    let a : Bool = eqb f r.symbol in
    let b : Bool = are_rows vs (map rep r.args) in
    (eqb-true _ _ (and-true-left a b e), are_rows-true _ _ (and-true-right a b e))

hit-back : (rep : ℕ → ℕ) (f : ℕ) (vs : Vals) (r : Row) → Hit rep f vs r → (eqb f r.symbol && are_rows vs (map rep r.args)) ≡ true
hit-back rep f vs r h = rw (eq-eqb f r.symbol h.0, h.1) (are_rows-self _)

-- what the search answers
abbrev pub Answer : (ℕ → ℕ) → ℕ → Vals → ℕ → List Row → Type 0
Answer rep f vs i rs =
    ((k : ℕ) × (k < length rs) × Hit rep f vs (row_at rs k) × (settle rep f vs i rs ≡ at_row (rep (i + k))))
    ⊎ ((settle rep f vs i rs ≡ app f vs) × ((k : ℕ) → k < length rs → Hit rep f vs (row_at rs k) → ⊥))

pub answer : (rep : ℕ → ℕ) (f : ℕ) (vs : Vals) (i : ℕ) (rs : List Row) → Answer rep f vs i rs
unfolding settle
answer rep f vs i [] = inr (refl, λ k h _. omega arith)
answer rep f vs i (r ∷ rs) = go (eqb f r.symbol && are_rows vs (map rep r.args)) refl (answer rep f vs (suc i) rs)
  where
    go : (b : Bool) → (eqb f r.symbol && are_rows vs (map rep r.args)) ≡ b → Answer rep f vs (suc i) rs → Answer rep f vs i (r ∷ rs)
    go true e a = inl (0, omega arith, hit rep f vs r e, rw (e, settle) (ap (λ (n : ℕ). at_row (rep n)) (omega arith)))
    go false e (inl a) =
        inl (suc a.0, omega (arith, a.1), a.2, rw (e, settle) (a.3 ∙ ap (λ (n : ℕ). at_row (rep n)) (omega arith)))
    go false e (inr a) = inr (rw (e, settle) a.0, other)
      where
        other : (k : ℕ) → k < suc (length rs) → Hit rep f vs (row_at (r ∷ rs) k) → ⊥
        other zero h w = let z : true ≡ false = sym (hit-back rep f vs r w) ∙ e in let y : ◌≡◌ {A = ℕ} 0 1 = cc in omega arith
        other (suc k) h w = a.1 k (omega arith) w

-- ---- completeness: what is derivable has one value

module _ (rows : List Row) (eqs : List (ℕ × ℕ)) (rep : ℕ → ℕ) (ordered : Ordered rows) (within : Within (length rows) eqs) (closed : Closed rows eqs rep) where
  -- rows that agree as the search sees them
  settle-row : (i : ℕ) → i < length rows → settle rep (row_at rows i).symbol (row_vals (map rep (row_at rows i).args)) 0 rows ≡ at_row (rep i)
  settle-row i h = go (answer rep (row_at rows i).symbol (row_vals (map rep (row_at rows i).args)) 0 rows)
    where
      go : Answer rep (row_at rows i).symbol (row_vals (map rep (row_at rows i).args)) 0 rows
          → settle rep (row_at rows i).symbol (row_vals (map rep (row_at rows i).args)) 0 rows ≡ at_row (rep i)
      go (inl a) =
          a.3
          ∙ ap (λ (n : ℕ). at_row (rep n)) (omega arith)
          ∙ ap at_row (sym (closed.alike i a.0 h a.1 a.2.0 (row_vals-inj _ _ a.2.1)))
      go (inr a) = absurd (a.1 i h (refl, refl))

  -- a row's term has its representative for a value, by the rows before it
  eval-picked : (m : ℕ) (l : List ℕ) → Below m l → ((i : ℕ) → i < m → eval rows rep (term_at rows i) ≡ at_row (rep i))
      → evals rows rep (pick (terms rows) l) ≡ row_vals (map rep l)
  unfolding evals pick row_vals
  eval-picked m [] b ih = refl
  eval-picked m (a ∷ l) b ih = ap₂ vmore (ih a b.0) (eval-picked m l b.1 ih)

  eval-below : (m i : ℕ) → i < m → i < length rows → eval rows rep (term_at rows i) ≡ at_row (rep i)
  unfolding eval
  eval-below zero i l h = absurd (omega arith)
  eval-below (suc m) i l h =
      ap (eval rows rep) (term-at rows ordered i h)
      ∙ ap (λ (vs : Vals). settle rep (row_at rows i).symbol vs 0 rows)
      (eval-picked i (row_at rows i).args (ordered i h) (λ j hj. eval-below m j (omega arith) (omega arith)))
      ∙ settle-row i h

  pub eval-row : (i : ℕ) → i < length rows → eval rows rep (term_at rows i) ≡ at_row (rep i)
  eval-row i h = eval-below (suc i) i (omega arith) h

  mutual
    unfolding eval

    pub complete : {s t : Term} → Equal rows eqs s t → eval rows rep s ≡ eval rows rep t
    complete (given {s} {t} g) =
        rw (g.2, g.3) (eval-row _ (within g.0 g.1).0 ∙ ap at_row (closed.joined g.0 g.1) ∙ sym (eval-row _ (within g.0 g.1).1))
    complete reflexive = refl
    complete (symmetric d) = sym (complete d)
    complete (transitive d e) = complete d ∙ complete e
    complete (congruent {f} ds) = ap (λ (vs : Vals). settle rep f vs 0 rows) (completes ds)

    pub completes : {ss ts : Terms} → Sames (Stated rows eqs) ss ts → evals rows rep ss ≡ evals rows rep ts
    completes same_stop = refl
    completes (same_more d ds) = ap₂ vmore (complete d) (completes ds)

  -- ---- soundness: a term is equal to the term that its value stands for

  same_of : {s t : Term} → s ≡ t → Equal rows eqs s t
  same_of {s} e = subst (λ (u : Term). Equal rows eqs s u) e reflexive

  picked_same : (m : ℕ) (l : List ℕ) → Below m l → m ≤ length rows → Sames (Stated rows eqs) (reifys rows (row_vals (map rep l))) (pick (terms rows) l)
  unfolding reifys row_vals pick
  picked_same m [] b h = same_stop
  picked_same m (a ∷ l) b h = same_more (symmetric (closed.sound a (omega (arith, b.0)))) (picked_same m l b.1 h)

  settle-sound : (f : ℕ) (vs : Vals) → Equal rows eqs (node f (reifys rows vs)) (reify rows (settle rep f vs 0 rows))
  unfolding reify
  settle-sound f vs = go (answer rep f vs 0 rows)
    where
      go : Answer rep f vs 0 rows → Equal rows eqs (node f (reifys rows vs)) (reify rows (settle rep f vs 0 rows))
      go (inl a) =
          let k : ℕ = a.0 in
          let h : k < length rows = a.1 in
          let z : k ≡ 0 + k = omega arith in
          rw (a.3, a.2.0, a.2.1)
          (transitive (congruent (picked_same k (row_at rows k).args (ordered k h) (omega arith)))
          (transitive (same_of (sym (term-at rows ordered k h)))
          (transitive (closed.sound k h) (same_of (ap (λ (n : ℕ). term_at rows (rep n)) z)))))
      go (inr a) = rw a.0 reflexive

  mutual
    unfolding eval reify

    pub named : (s : Term) → Equal rows eqs s (reify rows (eval rows rep s))
    named (node f ts) = transitive (congruent (nameds ts)) (settle-sound f (evals rows rep ts))

    pub nameds : (ss : Terms) → Sames (Stated rows eqs) ss (reifys rows (evals rows rep ss))
    nameds stop = same_stop
    nameds (more t ts) = same_more (named t) (nameds ts)

  pub meaning : (s t : Term) → Equal rows eqs s t ↔ (eval rows rep s ≡ eval rows rep t)
  meaning s t = (
    complete,
    λ e. transitive (named s) (transitive (same_of (ap (reify rows) e)) (symmetric (named t))),
  )

  -- two rows are equal just where their representatives are
  pub meaning-rows : (i j : ℕ) → i < length rows → j < length rows → Equal rows eqs (term_at rows i) (term_at rows j) ↔ (rep i ≡ rep j)
  meaning-rows i j hi hj = (
    λ d. at_row-inj (sym (eval-row i hi) ∙ complete d ∙ eval-row j hj),
    λ e. transitive (closed.sound i hi) (transitive (same_of (ap (term_at rows) e)) (symmetric (closed.sound j hj))),
  )
    where
      at_row-inj : {a b : ℕ} → at_row a ≡ at_row b → a ≡ b
      at_row-inj e = cc
