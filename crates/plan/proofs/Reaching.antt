-- Literals looked at one by one: those that say p = p or that p and p differ, and those that reach a marked row.
--     idle-unequal, idle-equal, self-equal, self-unequal     one literal
--     first-marked, second-marked, reach-idle, reach-asked   whether it reaches a marked row
--     none_done, none-fails                                  whether no literal does
--     never-none, never-some                                 whether some literal never holds
--     FreesTo, free-at, frees-start, frees-next, frees-done  the marks of the variables
-- Assumes nothing.
use mathlib.Core.Bool.{Bool, true, false, not, ◌&&◌, ◌||◌}
use mathlib.Core.List.{List, [], ◌∷◌, ◌++◌}
use mathlib.Core.Path.{◌≡◌, refl, sym, ap, ap₂, ◌∙◌}
use Prim.Native.Nat.{ℕ, zero, suc, ◌+◌, ◌≤◌, ◌<◌}
use native.Mathlib.Omega.{arith}
use native.Mathlib.Decide.{ℕ_discrete}
use lib.Dec.{eqb}
use borrow.Author.Tests.{eqb-true, eqb-false, eq-eqb, ne_eqb}
use lib.ListN.{length, get_or, set, length-set}
use lib.Seq.{get_or-set_same, get_or-set_other}
use Rattle.meaning.specs.Rules.{Literal, Clause}
use Rattle.meaning.specs.Formed.{left_of, right_of}
use Rattle.meaning.specs.Columns.{literal_of, literals_from, patterns_from, clause_from}
use Rattle.meaning.specs.Pruning.{touches, none_touch}
use Rattle.meaning.proofs.Built.{literal_at}
use Rattle.columns.specs.Fit.{Every}
use Rattle.plan.specs.Reach.{idle, asked, free_by, self_unequal, never}
use Rattle.plan.specs.Plans.{mark_of, Frees}
use Rattle.plan.specs.Marks.{Marked, reaches, none_reaches}

-- ---- one literal

module _ (sign p q : ℕ) where
  pub idle-unequal : (sign ≡ 6 → ⊥) → false ≡ idle (literal_of sign p q)
  unfolding idle literal_of
  idle-unequal n = rw (ne_eqb sign 6 n, literal_of)

  pub idle-equal : sign ≡ 6 → eqb p q ≡ idle (literal_of sign p q)
  unfolding idle literal_of
  idle-equal e = rw (eq-eqb sign 6 e, literal_of)

  pub self-equal : sign ≡ 6 → false ≡ self_unequal (literal_of sign p q)
  unfolding self_unequal literal_of
  self-equal e = rw (eq-eqb sign 6 e, literal_of)

  pub self-unequal : (sign ≡ 6 → ⊥) → eqb p q ≡ self_unequal (literal_of sign p q)
  unfolding self_unequal literal_of
  self-unequal n = rw (ne_eqb sign 6 n, literal_of)

  sides : (left_of (literal_of sign p q) ≡ p) × (right_of (literal_of sign p q) ≡ q)
  unfolding literal_of
  sides = go (eqb sign 6) refl
    where
      go : (b : Bool) → eqb sign 6 ≡ b → (left_of (literal_of sign p q) ≡ p) × (right_of (literal_of sign p q) ≡ q)
      go true e = rw (e, literal_of) (refl, refl)
      go false e = rw (e, literal_of) (refl, refl)

  module _ (marks : List ℕ) (b : Bool) (e : b ≡ idle (literal_of sign p q)) where
    pub reach-idle : b ≡ true → false ≡ reaches marks (literal_of sign p q)
    unfolding reaches
    reach-idle t = rw (← e, t)

    pub reach-asked : (x y : ℕ) (r : Bool) → b ≡ false → x ≡ p → y ≡ q → r ≡ (eqb (get_or marks x 0) 1 || eqb (get_or marks y 0) 1)
        → r ≡ reaches marks (literal_of sign p q)
    unfolding reaches
    reach-asked x y r f ex ey h = rw (← e, f, sides.0, sides.1, ← ex, ← ey) h

pub first-marked : (x : ℕ) (b : Bool) → x ≡ 1 → true ≡ (eqb x 1 || b)
first-marked x b e = rw (eq-eqb x 1 e)

pub second-marked : (x : ℕ) (b : Bool) → (x ≡ 1 → ⊥) → b ≡ (eqb x 1 || b)
second-marked x b n = rw (ne_eqb x 1 n)

-- ---- all literals

or-true : (a : Bool) → (a || true) ≡ true
or-true true = refl
or-true false = refl

or-false : (a : Bool) → (a || false) ≡ a
or-false true = refl
or-false false = refl

and-false : (a : Bool) → (a && false) ≡ false
and-false true = refl
and-false false = refl

and-true : (a : Bool) → (a && true) ≡ a
and-true true = refl
and-true false = refl

and_assoc : (a b c : Bool) → (a && (b && c)) ≡ ((a && b) && c)
and_assoc true b c = refl
and_assoc false b c = refl

or_assoc : (a b c : Bool) → (a || (b || c)) ≡ ((a || b) || c)
or_assoc true b c = refl
or_assoc false b c = refl

none-snoc : (marks : List ℕ) (ls : List Literal) (l : Literal) → none_reaches marks (ls ++ (l ∷ [])) ≡ (none_reaches marks ls && not (reaches marks l))
unfolding none_reaches
none-snoc marks [] l = and-true (not (reaches marks l))
none-snoc marks (x ∷ ls) l = ap (not (reaches marks x) &&◌) (none-snoc marks ls l) ∙ and_assoc (not (reaches marks x)) (none_reaches marks ls) (not (reaches marks l))

never-snoc : (ls : List Literal) (l : Literal) → never (ls ++ (l ∷ [])) ≡ (never ls || self_unequal l)
unfolding never
never-snoc [] l = or-false (self_unequal l)
never-snoc (x ∷ ls) l = ap (self_unequal x ||◌) (never-snoc ls l) ∙ or_assoc (self_unequal x) (never ls) (self_unequal l)

module _ (signs firsts seconds : List ℕ) where
  abbrev first : ℕ → List Literal
  first m = literals_from signs firsts seconds m

  abbrev at : ℕ → Literal
  at j = literal_at signs firsts seconds j

  module _ (marks : List ℕ) where
    none-all : (m : ℕ) → ((j : ℕ) → j < m → reaches marks (at j) ≡ false) → none_reaches marks (first m) ≡ true
    unfolding literals_from none_reaches
    none-all zero h = refl
    none-all (suc m) h = none-snoc marks (first m) (at m) ∙ ap₂ (λ a b. a && not b) (none-all m (λ j l. h j (omega arith))) (h m (omega arith))

    pub none_done : (m n : ℕ) → Every n (λ j. reaches marks (at j) ≡ false) → m ≤ n → true ≡ none_reaches marks (first m)
    none_done m n e h = sym (none-all m (λ j l. e.each j (omega arith)))

    pub none-fails : (m j : ℕ) → j < m → reaches marks (at j) ≡ true → false ≡ none_reaches marks (first m)
    unfolding literals_from
    none-fails zero j h e = absurd (omega arith)
    none-fails (suc m) j h e = go (eqb j m) refl (λ l. none-fails m j l e)
      where
        go : (b : Bool) → eqb j m ≡ b → (j < m → false ≡ none_reaches marks (first m)) → false ≡ none_reaches marks (first (suc m))
        go true q ih =
            sym (none-snoc marks (first m) (at m) ∙ ap (λ b. none_reaches marks (first m) && not b) (ap (λ k. reaches marks (at k)) (sym (eqb-true j m q)) ∙ e) ∙ and-false (none_reaches marks (first m)))
        go false q ih = let l : j < m = omega (arith, eqb-false j m q) in sym (none-snoc marks (first m) (at m) ∙ ap (◌&& not (reaches marks (at m))) (sym (ih l)))

  never-all : (m : ℕ) → ((j : ℕ) → j < m → self_unequal (at j) ≡ false) → never (first m) ≡ false
  unfolding literals_from never
  never-all zero h = refl
  never-all (suc m) h = never-snoc (first m) (at m) ∙ ap₂ ◌||◌ (never-all m (λ j l. h j (omega arith))) (h m (omega arith))

  pub never-none : (m n : ℕ) → Every n (λ j. self_unequal (at j) ≡ false) → m ≤ n → false ≡ never (first m)
  never-none m n e h = sym (never-all m (λ j l. e.each j (omega arith)))

  pub never-some : (m j : ℕ) → j < m → self_unequal (at j) ≡ true → true ≡ never (first m)
  unfolding literals_from
  never-some zero j h e = absurd (omega arith)
  never-some (suc m) j h e = go (eqb j m) refl (λ l. never-some m j l e)
    where
      go : (b : Bool) → eqb j m ≡ b → (j < m → true ≡ never (first m)) → true ≡ never (first (suc m))
      go true q ih = sym (never-snoc (first m) (at m) ∙ ap (never (first m) ||◌) (ap (λ k. self_unequal (at k)) (sym (eqb-true j m q)) ∙ e) ∙ or-true (never (first m)))
      go false q ih = let l : j < m = omega (arith, eqb-false j m q) in sym (never-snoc (first m) (at m) ∙ ap (◌|| self_unequal (at m)) (sym (ih l)))

-- ---- the variables

mark-one : (b : Bool) → eqb (mark_of b) 1 ≡ b
unfolding mark_of
mark-one true = refl
mark-one false = refl

module _ (bs : List Bool) (marks : List ℕ) (m : Marked bs marks) where
  mark-at : (p : ℕ) → eqb (get_or marks p 0) 1 ≡ get_or bs p false
  mark-at p = ap (λ x. eqb x 1) (m.same p) ∙ mark-one (get_or bs p false)

  none_touch_lem : (ls : List Literal) → none_reaches marks ls ≡ none_touch bs (asked ls)
  unfolding none_reaches none_touch asked reaches
  none_touch_lem [] = refl
  none_touch_lem (l ∷ ls) = go (idle l) refl (none_touch_lem ls)
    where
      go : (b : Bool) → idle l ≡ b → none_reaches marks ls ≡ none_touch bs (asked ls) → none_reaches marks (l ∷ ls) ≡ none_touch bs (asked (l ∷ ls))
      go true e ih = rw (e, asked) ih
      go false e ih = rw (e, asked, mark-at (left_of l), mark-at (right_of l)) (ap (not (get_or bs (left_of l) false || get_or bs (right_of l) false) &&◌) ih)

pub free-at : (shapes heads arities subs : List ℕ) (patterns : ℕ) (signs firsts seconds : List ℕ) (literals v : ℕ) (marks : List ℕ) (b : Bool) (r : ℕ)
    → Marked (touches v (patterns_from shapes heads arities subs patterns)) marks → b ≡ none_reaches marks (literals_from signs firsts seconds literals) → r ≡ mark_of b
    → r ≡ mark_of (free_by (clause_from shapes heads arities subs patterns signs firsts seconds literals) v)
unfolding free_by clause_from
free-at shapes heads arities subs patterns signs firsts seconds literals v marks b r m e q =
    q ∙ ap mark_of (e ∙ none_touch_lem (touches v (patterns_from shapes heads arities subs patterns)) marks m (literals_from signs firsts seconds literals))

pub record FreesTo (k : Clause) (free : List ℕ) (n : ℕ) : Type 0 where
  pub long : length free ≡ 4
  pub each : (v : ℕ) → v < n → get_or free v 0 ≡ mark_of (free_by k v)

pub frees-start : (k : Clause) (free : List ℕ) → length free ≡ 4 → FreesTo k free 0
frees-start k free h = record { long = h; each = λ v l. absurd (omega arith) }

pub frees-next : (k : Clause) (free : List ℕ) (n x i : ℕ) → n < 4 → FreesTo k free n → i ≡ n → x ≡ mark_of (free_by k n) → FreesTo k (set free i x) (n + 1)
frees-next k free n x i h f e q = record { long = length-set free i x ∙ f.long; each = λ v l. go v l (ℕ_discrete v i) }
  where
    go : (v : ℕ) → v < n + 1 → Dec (v ≡ i) → get_or (set free i x) v 0 ≡ mark_of (free_by k v)
    go v l (yes w) = ap (λ z. get_or (set free i x) z 0) w ∙ get_or-set_same free i x 0 (omega (arith, f.long)) ∙ q ∙ ap (λ z. mark_of (free_by k z)) (sym (w ∙ e))
    go v l (no w) = get_or-set_other free i v x 0 w ∙ f.each v (omega arith)

pub frees-done : (k : Clause) (free : List ℕ) (n : ℕ) → FreesTo k free n → 4 ≤ n → Frees k free
frees-done k free n f h = record { long = f.long; each = λ v l. f.each v (omega arith) }
