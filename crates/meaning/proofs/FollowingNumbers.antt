-- Differences that follow, as a test of two numbers: a class below the number of rows, and from there on a term outside the table, which differs from
-- nothing.
--     differ_by-rows, differ_by-table     it decides of rows, and any closing with their equation tells it
--     differ_by-inside, differ_by-outside what it says yes to are rows, and it says no of a number that is no row
--     differ_by-symmetric, differ_by-rep  it turns round, and asks of representatives as of rows
--     differ_by-stated, differ_by-unused  yes of rows that are kept apart, and no where the class of one occurs nowhere
--     differ-numbers                   instances of pattern rows, by any test that is right of rows
--     differ-instances                 and by this one
-- Assumes nothing.
use mathlib.Core.Bool.{Bool, true, false, ◌&&◌}
use mathlib.Core.List.{List, ◌∷◌}
use mathlib.Core.Path.{◌≡◌, refl, sym, ◌∙◌, subst}
use mathlib.Core.Logic.{◌⊎◌, inl, inr, ⊎_elim, ◌↔◌}
use Prim.Native.Nat.{ℕ, ◌≤◌, ◌<◌}
use native.Mathlib.Omega.{arith}
use native.Mathlib.Decide.{dec_lt}
use lib.Dec.{ltb}
use borrow.Author.Tests.{ltb-true, lt-ltb}
use lib.ListN.{length, get_or}
use Rattle.meaning.specs.Context.{Term, term₀, term_at, Context, equations_of, equations, differences}
use Rattle.meaning.specs.Equality.{EqualIn, Consistent, Representatives, rep_at, symmetric}
use Rattle.meaning.specs.Rules.{Pattern, variables, instances, Differ}
use Rattle.meaning.specs.Formed.{Fit, AllPlaced}
use Rattle.meaning.specs.ByTable.{apart_by}
use Rattle.meaning.specs.Values.{number_at, numbers, stages}
use Rattle.meaning.specs.Following.{with_equation, follows_by, occurs_by, differ_by}
use Rattle.meaning.specs.Closing.{close}
use Rattle.meaning.proofs.Logic.{and-true-left, and-true-right, false-true, bool_same}
use Rattle.meaning.proofs.Model.{Closed, Val, at_row, eval, reify}
use Rattle.meaning.proofs.Meaning.{named}
use Rattle.meaning.proofs.Promised.{closing-represents}
use Rattle.meaning.proofs.Prefix.{levels-most}
use Rattle.meaning.proofs.Levels.{stages-read}
use Rattle.meaning.proofs.Numbered.{Means, NamedBy, numbered-stages, equal-row}
use Rattle.meaning.proofs.Following.{differ-symmetric, differ-respects, with-fit}
use Rattle.meaning.proofs.FollowingOutside.{Outside, outside-differ}
use Rattle.meaning.proofs.FollowingTable.{differ-decided, stated-apart, unused-differ}

-- ---- the test

pub differ_by-inside : (c : Context) (n m : ℕ) → differ_by c n m ≡ true → (n < length c.rows) × (m < length c.rows)
unfolding differ_by
differ_by-inside c n m e =
    let a : Bool = ltb n (length c.rows) in
    let b : Bool = ltb m (length c.rows) in
    let w : (a && b) ≡ true = and-true-left (a && b) (follows_by (rep_at (close c.rows ((n, m) ∷ equations c))) (differences c)) e in
    (ltb-true n (length c.rows) (and-true-left a b w), ltb-true m (length c.rows) (and-true-right a b w))

pub differ_by-outside : (c : Context) (n m : ℕ) → (length c.rows ≤ n) ⊎ (length c.rows ≤ m) → differ_by c n m ≡ false
differ_by-outside c n m out = go (differ_by c n m) refl
  where
    go : (b : Bool) → differ_by c n m ≡ b → differ_by c n m ≡ false
    go false e = e
    go true e =
        let w : (n < length c.rows) × (m < length c.rows) = differ_by-inside c n m e in
        absurd (⊎_elim (λ h. omega (arith, w.0)) (λ h. omega (arith, w.1)) out)

module _ (c : Context) (fit : Fit c) where
  abbrev row : ℕ → Term
  row i = term_at c.rows i

  abbrev Inside : ℕ → Type 0
  Inside i = i < length c.rows

  by-closing : (i j : ℕ) → Inside i → Inside j → differ_by c i j ≡ follows_by (rep_at (close c.rows ((i, j) ∷ equations c))) (differences c)
  unfolding differ_by
  by-closing i j hi hj = rw (lt-ltb i (length c.rows) hi, lt-ltb j (length c.rows) hj) refl

  pub differ_by-rows : (i j : ℕ) → Inside i → Inside j → Differ c (row i) (row j) ↔ (differ_by c i j ≡ true)
  unfolding equations_of
  differ_by-rows i j hi hj =
      let w : Differ c (row i) (row j) ↔ (follows_by (rep_at (close c.rows ((i, j) ∷ equations c))) (differences c) ≡ true) =
      differ-decided c fit i j hi hj (rep_at (close c.rows ((i, j) ∷ equations c))) (closing-represents (with_equation c i j) (with-fit c fit i j hi hj)) in
      (λ d. by-closing i j hi hj ∙ w.0 d, λ e. w.1 (sym (by-closing i j hi hj) ∙ e))

  -- two tests that both decide it are one
  differ_by-one : (i j : ℕ) → Inside i → Inside j → (b : Bool) → Differ c (row i) (row j) ↔ (b ≡ true) → differ_by c i j ≡ b
  differ_by-one i j hi hj b w = bool_same (differ_by c i j) b (λ e. w.0 ((differ_by-rows i j hi hj).1 e)) (λ e. (differ_by-rows i j hi hj).0 (w.1 e))

  pub differ_by-table : (i j : ℕ) → Inside i → Inside j → (rep : ℕ → ℕ) → Representatives (with_equation c i j) rep
      → differ_by c i j ≡ follows_by rep (differences c)
  differ_by-table i j hi hj rep r = differ_by-one i j hi hj (follows_by rep (differences c)) (differ-decided c fit i j hi hj rep r)

  pub differ_by-symmetric : (i j : ℕ) → Inside i → Inside j → differ_by c i j ≡ differ_by c j i
  differ_by-symmetric i j hi hj =
      differ_by-one i j hi hj (differ_by c j i)
      (λ d. (differ_by-rows j i hj hi).0 (differ-symmetric c _ _ d), λ e. differ-symmetric c _ _ ((differ_by-rows j i hj hi).1 e))

  module _ (rep : ℕ → ℕ) (r : Representatives c rep) where
    pub differ_by-rep : (i j : ℕ) → Inside i → Inside j → differ_by c i j ≡ differ_by c (rep i) (rep j)
    differ_by-rep i j hi hj =
        differ_by-one i j hi hj (differ_by c (rep i) (rep j)) (
          λ d. (differ_by-rows (rep i) (rep j) (r i hi).row (r j hj).row).0 (differ-respects c _ _ _ _ (r i hi).equal (r j hj).equal d),
          λ e. differ-respects c _ _ _ _ (symmetric (r i hi).equal) (symmetric (r j hj).equal) ((differ_by-rows (rep i) (rep j) (r i hi).row (r j hj).row).1 e),
        )

    pub differ_by-stated : (i j : ℕ) → Inside i → Inside j → apart_by rep (differences c) (rep i) (rep j) ≡ true → differ_by c i j ≡ true
    differ_by-stated i j hi hj e = (differ_by-rows i j hi hj).0 (stated-apart c fit rep r i j hi hj e)

    pub differ_by-unused : Consistent c → (i j : ℕ) → Inside i → Inside j
        → (occurs_by rep c.rows (differences c) (rep i) ≡ false) ⊎ (occurs_by rep c.rows (differences c) (rep j) ≡ false)
        → differ_by c i j ≡ false
    differ_by-unused k i j hi hj e = go (differ_by c i j) refl
      where
        go : (b : Bool) → differ_by c i j ≡ b → differ_by c i j ≡ false
        go false f = f
        go true f = absurd (unused-differ c fit k rep r i j hi hj e ((differ_by-rows i j hi hj).1 f))

-- ---- instances

module _ (c : Context) (fit : Fit c) (free : Consistent c) (rep : ℕ → ℕ) (closed : Closed c.rows (equations c) rep)
    (offset : ℕ) (fits : length c.rows ≤ offset) (ps : List Pattern) (placed : AllPlaced 0 ps) (given : List ℕ) (chosen : List Term)
    (means : (v : ℕ) → v < variables ps → Means c.rows rep given chosen v) where
  abbrev inst : ℕ → Term
  inst p = get_or (instances ps chosen) p term₀

  abbrev num : ℕ → ℕ
  num p = number_at (numbers c.rows rep offset ps given) p

  -- a number below the number of rows is that of a row that is equal to the instance
  number-row : (p : ℕ) → p < length ps → num p < length c.rows → EqualIn c (inst p) (term_at c.rows (num p))
  unfolding numbers reify
  number-row p hp h =
      subst (λ (v : Val). EqualIn c (inst p) (reify c.rows v)) value (named c.rows (equations c) rep fit.ordered fit.within closed (inst p))
    where
      Named : ℕ → Val → Type 0
      Named = NamedBy c.rows rep offset ps given chosen (stages c.rows rep offset ps given (variables ps))

      of_row : Named (num p) (eval c.rows rep (inst p))
      of_row = inr (p, (stages-read c.rows rep offset ps given (variables ps) p).1 (hp, omega (arith, levels-most ps p)), refl, refl)

      value : eval c.rows rep (inst p) ≡ at_row (num p)
      value =
          ((numbered-stages c.rows rep offset ps given chosen closed.low fit.ordered fits placed (variables ps) means).fair
          (num p) (num p) (eval c.rows rep (inst p)) (at_row (num p)) of_row (inl (h, refl))).0 refl

  number-outside : (p : ℕ) → p < length ps → (num p < length c.rows → ⊥) → Outside c (inst p)
  number-outside p hp n r hr d =
      n (omega (arith, closed.low r hr, (equal-row c.rows (equations c) rep fit.ordered fit.within closed offset fits ps placed given chosen means p r hp hr).0 d))

  pub differ-numbers : (differs : ℕ → ℕ → Bool)
      → ((i j : ℕ) → i < length c.rows → j < length c.rows → Differ c (term_at c.rows i) (term_at c.rows j) ↔ (differs i j ≡ true))
      → ((n m : ℕ) → (length c.rows ≤ n) ⊎ (length c.rows ≤ m) → differs n m ≡ false)
      → (p q : ℕ) → p < length ps → q < length ps → Differ c (inst p) (inst q) ↔ (differs (num p) (num q) ≡ true)
  differ-numbers differs right out p q hp hq = go (dec_lt (num p) (length c.rows)) (dec_lt (num q) (length c.rows))
    where
      go : Dec (num p < length c.rows) → Dec (num q < length c.rows) → Differ c (inst p) (inst q) ↔ (differs (num p) (num q) ≡ true)
      go (yes h) (yes l) = (
        λ d. (right (num p) (num q) h l).0 (differ-respects c _ _ _ _ (number-row p hp h) (number-row q hq l) d),
        λ e. differ-respects c _ _ _ _ (symmetric (number-row p hp h)) (symmetric (number-row q hq l)) ((right (num p) (num q) h l).1 e),
      )
      go (no h) d = (
        λ w. absurd ((outside-differ c fit free (inst p) (number-outside p hp h) (inst q)).0 w),
        λ e. false-true e (out (num p) (num q) (inl (omega arith))),
      )
      go (yes h) (no l) = (
        λ w. absurd ((outside-differ c fit free (inst q) (number-outside q hq l) (inst p)).1 w),
        λ e. false-true e (out (num p) (num q) (inr (omega arith))),
      )

  pub differ-instances : (p q : ℕ) → p < length ps → q < length ps → Differ c (inst p) (inst q) ↔ (differ_by c (num p) (num q) ≡ true)
  differ-instances = differ-numbers (differ_by c) (differ_by-rows c fit) (differ_by-outside c)
