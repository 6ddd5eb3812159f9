-- A variable that no literal reaches may take its first row alone: for each breach there is then one that is no later.
--     untouched      a row's instance rests on no variable that its term has not
--     free-breach    the pruning that gives such a variable its first open row keeps its promise for the breaches made of representatives
-- Assumes nothing.
use mathlib.Core.Bool.{Bool, true, false, not, ◌||◌}
use mathlib.Core.List.{List, [], ◌∷◌, ◌++◌}
use mathlib.Core.Path.{◌≡◌, refl, ap, ap₂}
use Prim.Native.Nat.{ℕ, zero, suc}
use native.Mathlib.Omega.{arith}
use borrow.Author.Tests.{eqb-false, not-true}
use lib.ListN.{length, get_or, length-append}
use Rattle.meaning.specs.Context.{Context, Term, node, more, term₀, pick}
use Rattle.meaning.specs.Rules.{Pattern, variable, apply, Literal, equal, unequal, Clause, instance, fill, instances, Holds, AllHold, range_of, choice}
use Rattle.meaning.specs.Formed.{left_of, right_of}
use Rattle.meaning.specs.Pruning.{any_of, touch, touches_from, touches, none_touch, free}
use Rattle.meaning.proofs.Logic.{and-true-left, and-true-right, or-none}
use Rattle.meaning.proofs.Box.{Mem, AllIn}
use Rattle.meaning.proofs.Search.{Prunes}
use Rattle.meaning.proofs.Prunings.{take_first, free-prunes}
use Rattle.meaning.proofs.Seek.{starts}
use Rattle.meaning.proofs.Finds.{LowBreach, starts-below}

-- ---- the rows that have a variable in their terms

-- two lists of terms are the same at the places that are not marked
data Agree : List Bool → List Term → List Term → Type 0 where
  agree-stop : Agree [] [] []
  agree-more : {b : Bool} {t u : Term} {bs : List Bool} {ts us : List Term} → (b ≡ false → t ≡ u) → Agree bs ts us → Agree (b ∷ bs) (t ∷ ts) (u ∷ us)

agree-snoc : {bs : List Bool} {ts us : List Term} → Agree bs ts us → (b : Bool) (t u : Term) → (b ≡ false → t ≡ u)
    → Agree (bs ++ (b ∷ [])) (ts ++ (t ∷ [])) (us ++ (u ∷ []))
agree-snoc agree-stop b t u f = agree-more f agree-stop
agree-snoc (agree-more g a) b t u f = agree-more g (agree-snoc a b t u f)

agree_at : {bs : List Bool} {ts us : List Term} → Agree bs ts us → (i : ℕ) → get_or bs i false ≡ false → get_or ts i term₀ ≡ get_or us i term₀
agree_at agree-stop i e = refl
agree_at (agree-more f a) zero e = f e
agree_at (agree-more f a) (suc i) e = agree_at a i e

agree-pick : {bs : List Bool} {ts us : List Term} → Agree bs ts us → (l : List ℕ) → any_of bs l ≡ false → pick ts l ≡ pick us l
unfolding any_of pick
agree-pick a [] e = refl
agree-pick {bs} a (x ∷ l) e = let w : (get_or bs x false ≡ false) × (any_of bs l ≡ false) = or-none (get_or bs x false) (any_of bs l) e in ap₂ more (agree_at a x w.0) (agree-pick a l w.1)

module _ (v : ℕ) (chosen other : List Term) (same : (w : ℕ) → (w ≡ v → ⊥) → get_or chosen w term₀ ≡ get_or other w term₀) where
  agree-instance : {bs : List Bool} {ts us : List Term} → Agree bs ts us → (p : Pattern) → touch v bs p ≡ false → instance chosen ts p ≡ instance other us p
  unfolding touch instance
  agree-instance a (variable w) e = same w (eqb-false w v e)
  agree-instance a (apply f l) e = ap (node f) (agree-pick a l e)

  agree-fill : {bs : List Bool} {ts us : List Term} → Agree bs ts us → (ps : List Pattern) → Agree (touches_from v bs ps) (fill chosen ts ps) (fill other us ps)
  unfolding touches_from fill
  agree-fill a [] = a
  agree-fill {bs} {ts} {us} a (p ∷ ps) =
      agree-fill {bs = bs ++ (touch v bs p ∷ [])} {ts = ts ++ (instance chosen ts p ∷ [])} {us = us ++ (instance other us p ∷ [])}
      (agree-snoc a (touch v bs p) (instance chosen ts p) (instance other us p) (agree-instance a p)) ps

  pub untouched : (ps : List Pattern) (p : ℕ) → get_or (touches v ps) p false ≡ false → get_or (instances ps chosen) p term₀ ≡ get_or (instances ps other) p term₀
  unfolding touches instances
  untouched ps p e = agree_at (agree-fill agree-stop ps) p e

-- ---- the variables that no literal reaches

holds_same : (c : Context) (ts us : List Term) (l : Literal) → get_or us (left_of l) term₀ ≡ get_or ts (left_of l) term₀ → get_or us (right_of l) term₀ ≡ get_or ts (right_of l) term₀
    → Holds c ts l → Holds c us l
holds_same c ts us (equal p q) e f h = rw (e, f) h
holds_same c ts us (unequal p q) e f h = rw (e, f) h

all-hold-same : (c : Context) (bs : List Bool) (ts us : List Term) → ((p : ℕ) → get_or bs p false ≡ false → get_or us p term₀ ≡ get_or ts p term₀)
    → (ls : List Literal) → none_touch bs ls ≡ true → AllHold c ts ls → AllHold c us ls
unfolding none_touch
all-hold-same c bs ts us f [] e h = tt
all-hold-same c bs ts us f (l ∷ ls) e h =
    let a : Bool = get_or bs (left_of l) false in
    let b : Bool = get_or bs (right_of l) false in
    let w : (a ≡ false) × (b ≡ false) = or-none a b (not-true (a || b) (and-true-left (not (a || b)) (none_touch bs ls) e)) in
    (holds_same c ts us l (f (left_of l) w.0) (f (right_of l) w.1) h.0, all-hold-same c bs ts us f ls (and-true-right (not (a || b)) (none_touch bs ls) e) h.1)

choice-other : (range : List Term) (c : List ℕ) (x y : ℕ) (r : List ℕ) (w : ℕ) → (w ≡ length c → ⊥)
    → get_or (choice range (c ++ x ∷ r)) w term₀ ≡ get_or (choice range (c ++ y ∷ r)) w term₀
choice-other range [] x y r zero n = absurd (n refl)
choice-other range [] x y r (suc w) n = refl
choice-other range (z ∷ c) x y r zero n = refl
choice-other range (z ∷ c) x y r (suc w) n = choice-other range c x y r w (λ e. n (ap suc e))

all-put : (rows c : List ℕ) (x y : ℕ) (r : List ℕ) → Mem x rows → AllIn rows (c ++ y ∷ r) → AllIn rows (c ++ x ∷ r)
all-put rows [] x y r m i = (m, i.1)
all-put rows (z ∷ c) x y r m i = (i.0, all-put rows c x y r m i.1)

module _ (c : Context) (k : Clause) (rep : ℕ → ℕ) where
  free-swap : (chosen : List ℕ) (x y : ℕ) (r : List ℕ) → free k (length chosen) ≡ true → Mem x (starts c.rows rep)
      → LowBreach c k rep (chosen ++ y ∷ r) → LowBreach c k rep (chosen ++ x ∷ r)
  unfolding free
  free-swap chosen x y r e m w =
      let i : AllIn (starts c.rows rep) (chosen ++ x ∷ r) = all-put (starts c.rows rep) chosen x y r m w.1 in (
        record {
          long = omega (arith, length-append chosen (x ∷ r), length-append chosen (y ∷ r), w.0.long);
          inside = starts-below c rep (chosen ++ x ∷ r) i;
          holds =
              all-hold-same c (touches (length chosen) k.patterns) (instances k.patterns (choice (range_of c) (chosen ++ y ∷ r)))
              (instances k.patterns (choice (range_of c) (chosen ++ x ∷ r)))
              (untouched (length chosen) (choice (range_of c) (chosen ++ x ∷ r)) (choice (range_of c) (chosen ++ y ∷ r)) (choice-other (range_of c) chosen x y r) k.patterns)
              k.literals
              e
              w.0.holds;
        },
        i,
      )

  pub free-breach : Prunes (LowBreach c k rep) (starts c.rows rep) (take_first (free k))
  free-breach = free-prunes (LowBreach c k rep) (starts c.rows rep) (free k) free-swap
