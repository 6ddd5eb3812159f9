-- The order of assignments, the first of a set of assignments, and parts of a set in which its first is found.
--     before-trans, before-not-self, before-cases    the order is strict, and total on assignments of one length
--     before-append, before-snoc                     two assignments that begin alike; one place more
--     Upto, upto_before, upto-append, upto-map       earlier or the same; behind the same places; place by place no later
--     first_one                                      a set whose members have one length has one first
--     Covers, covers-first, covers-trans             a part of a set that has, for each member, one that is no later
--     keeps-covers, same_first                       two sets with the same members
--     Split, split-found, split-later                a set in two parts, the one before the other
-- Assumes nothing.
use mathlib.Core.Bool.{Bool, true, false}
use mathlib.Core.List.{List, [], ◌∷◌, ◌++◌, map}
use mathlib.Core.Path.{◌≡◌, refl, ap, ap₂, sym, ◌∙◌, subst}
use mathlib.Core.Logic.{◌⊎◌, inl, inr, ⊎_elim, ◌↔◌}
use Prim.Native.Nat.{ℕ, ◌≤◌, ◌<◌}
use native.Mathlib.Omega.{arith}
use lib.Dec.{eqb, ltb}
use borrow.Author.Tests.{eqb-true, eqb-false, ltb-true, ltb-false}
use lib.ListN.{length, get_or, take}
use Rattle.meaning.specs.Rules.{Below, Before, Found, First, found, nothing}

pub before-trans : (a b c : List ℕ) → Before a b → Before b c → Before a c
before-trans [] b c p q = p
before-trans (x ∷ a) [] c p q = absurd p
before-trans (x ∷ a) (y ∷ b) [] p q = absurd q
before-trans (x ∷ a) (y ∷ b) (z ∷ c) (inl p) (inl q) = inl (omega arith)
before-trans (x ∷ a) (y ∷ b) (z ∷ c) (inl p) (inr q) = inl (omega (arith, q.0))
before-trans (x ∷ a) (y ∷ b) (z ∷ c) (inr p) (inl q) = inl (omega (arith, p.0))
before-trans (x ∷ a) (y ∷ b) (z ∷ c) (inr p) (inr q) = inr (p.0 ∙ q.0, before-trans a b c p.1 q.1)

pub before-not-self : (a : List ℕ) → Before a a → ⊥
before-not-self [] p = p
before-not-self (x ∷ a) (inl p) = omega arith
before-not-self (x ∷ a) (inr p) = before-not-self a p.1

-- two assignments of one length: one of three
pub before-cases : (a b : List ℕ) → length a ≡ length b → (a ≡ b) ⊎ (Before a b ⊎ Before b a)
before-cases [] [] e = inl refl
before-cases [] (y ∷ b) e = absurd (omega arith)
before-cases (x ∷ a) [] e = absurd (omega arith)
before-cases (x ∷ a) (y ∷ b) e = go (before-cases a b (omega arith)) (ltb x y) refl (eqb x y) refl
  where
    go : ((a ≡ b) ⊎ (Before a b ⊎ Before b a)) → (s : Bool) → ltb x y ≡ s → (t : Bool) → eqb x y ≡ t
        → ((x ∷ a) ≡ (y ∷ b)) ⊎ (Before (x ∷ a) (y ∷ b) ⊎ Before (y ∷ b) (x ∷ a))
    go w true p t q = inr (inl (inl (ltb-true x y p)))
    go w false p false q = inr (inr (inl (omega (arith, ltb-false x y p, eqb-false x y q))))
    go (inl w) false p true q = inl (ap₂ ◌∷◌ (eqb-true x y q) w)
    go (inr (inl w)) false p true q = inr (inl (inr (eqb-true x y q, w)))
    go (inr (inr w)) false p true q = inr (inr (inr (sym (eqb-true x y q), w)))

pub before-append : (c a b : List ℕ) → Before (c ++ a) (c ++ b) → Before a b
before-append [] a b h = h
before-append (x ∷ c) a b (inl h) = absurd (omega arith)
before-append (x ∷ c) a b (inr h) = before-append c a b h.1

-- with one place more it is earlier already, or agrees so far and has a lower place next
pub before-snoc : (c : List ℕ) (x : ℕ) (b : List ℕ) → Before (c ++ (x ∷ [])) b → Before c b ⊎ ((c ≡ take (length c) b) × (x < get_or b (length c) 0))
before-snoc [] x [] h = absurd h
before-snoc [] x (y ∷ b) (inl h) = inr (refl, h)
before-snoc [] x (y ∷ b) (inr h) = absurd h.1
before-snoc (z ∷ c) x [] h = absurd h
before-snoc (z ∷ c) x (y ∷ b) (inl h) = inl (inl h)
before-snoc (z ∷ c) x (y ∷ b) (inr h) =
    ⊎_elim (λ w. inl (inr (h.0, w))) (λ w. inr (ap₂ ◌∷◌ h.0 w.0, w.1)) (before-snoc c x b h.1)

-- earlier, or the same
abbrev pub Upto : List ℕ → List ℕ → Type 0
Upto a b = (a ≡ b) ⊎ Before a b

pub upto_before : (a b c : List ℕ) → Upto a b → Before b c → Before a c
upto_before a b c (inl e) q = subst (λ (x : List ℕ). Before x c) (sym e) q
upto_before a b c (inr p) q = before-trans a b c p q

pub upto-trans : (a b c : List ℕ) → Upto a b → Upto b c → Upto a c
upto-trans a b c p (inl e) = subst (Upto a) e p
upto-trans a b c p (inr q) = inr (upto_before a b c p q)

upto-cons : (x : ℕ) (a b : List ℕ) → Upto a b → Upto (x ∷ a) (x ∷ b)
upto-cons x a b (inl e) = inl (ap (x ∷◌) e)
upto-cons x a b (inr p) = inr (inr (refl, p))

pub upto-append : (c a b : List ℕ) → Upto a b → Upto (c ++ a) (c ++ b)
upto-append [] a b u = u
upto-append (x ∷ c) a b u = upto-cons x (c ++ a) (c ++ b) (upto-append c a b u)

-- place by place no later
pub upto-map : (low : ℕ → ℕ) (n : ℕ) → ((i : ℕ) → i < n → low i ≤ i) → (a : List ℕ) → Below n a → Upto (map low a) a
upto-map low n f [] h = inl refl
upto-map low n f (x ∷ a) h = go (upto-map low n f a h.1) (eqb (low x) x) refl
  where
    go : Upto (map low a) a → (t : Bool) → eqb (low x) x ≡ t → Upto (low x ∷ map low a) (x ∷ a)
    go w true q = rw (eqb-true (low x) x q) (upto-cons x (map low a) a w)
    go w false q = inr (inl (omega (arith, f x h.0, eqb-false (low x) x q)))

-- ---- the first of a set

-- the answer is one, where all have one length
pub first_one : (So : List ℕ → Type 0) (n : ℕ) → ((a : List ℕ) → So a → length a ≡ n) → (r s : Found) → First So r → First So s → r ≡ s
first_one So n l (found a) (found b) p q =
    ⊎_elim (λ e. ap found e) (⊎_elim (λ w. absurd (q.1 a p.0 w)) (λ w. absurd (p.1 b q.0 w)))
    (before-cases a b (l a p.0 ∙ sym (l b q.0)))
first_one So n l (found a) nothing p q = absurd (q a p.0)
first_one So n l nothing (found b) p q = absurd (p b q.0)
first_one So n l nothing nothing p q = refl

-- a part of the set that has, for each member of the set, one that is no later
pub record Covers (Old New : List ℕ → Type 0) : Type 0 where
  pub part : (a : List ℕ) → New a → Old a
  pub cover : (a : List ℕ) → Old a → (b : List ℕ) × New b × Upto b a

pub covers-first : {Old New : List ℕ → Type 0} → Covers Old New → (r : Found) → First New r → First Old r
covers-first {Old} {New} c (found a) f = (c.part a f.0, λ b o w. go b w (c.cover b o))
  where
    go : (b : List ℕ) → Before b a → ((x : List ℕ) × New x × Upto x b) → ⊥
    go b w k = f.1 k.0 k.1 (upto_before k.0 b a k.2 w)
covers-first c nothing f = λ b o. f (c.cover b o).0 (c.cover b o).1

pub covers-trans : {A B C : List ℕ → Type 0} → Covers A B → Covers B C → Covers A C
covers-trans {A} {B} {C} f g =
    record {
      part = λ a c. f.part a (g.part a c);
      cover = λ a x. two a (f.cover a x);
    }
  where
    two : (a : List ℕ) → ((b : List ℕ) × B b × Upto b a) → (b : List ℕ) × C b × Upto b a
    two a k = let l : (b : List ℕ) × C b × Upto b k.0 = g.cover k.0 k.1 in (l.0, l.1, upto-trans l.0 k.0 a l.2 k.2)

-- a part that drops no member
pub keeps-covers : {Old New : List ℕ → Type 0} → ((a : List ℕ) → Old a ↔ New a) → Covers Old New
keeps-covers f = record { part = λ a n. (f a).1 n; cover = λ a o. (a, (f a).0 o, inl refl) }

pub same_first : {Old New : List ℕ → Type 0} → ((a : List ℕ) → Old a ↔ New a) → (r : Found) → First New r → First Old r
same_first f r p = covers-first (keeps-covers f) r p

-- a set in two parts, the one before the other
pub record Split (All Here Later : List ℕ → Type 0) : Type 0 where
  pub here : (a : List ℕ) → Here a → All a
  pub later : (a : List ℕ) → Later a → All a
  pub cases : (a : List ℕ) → All a → Here a ⊎ Later a
  pub ordered : (a b : List ℕ) → Here a → Later b → Before b a → ⊥

pub split-found : {All Here Later : List ℕ → Type 0} → Split All Here Later → (a : List ℕ) → First Here (found a) → First All (found a)
split-found s a f = (s.here a f.0, λ b o w. ⊎_elim (λ h. f.1 b h w) (λ l. s.ordered a b f.0 l w) (s.cases b o))

pub split-later : {All Here Later : List ℕ → Type 0} → Split All Here Later → First Here nothing → (r : Found) → First Later r → First All r
split-later s n (found a) f = (s.later a f.0, λ b o w. ⊎_elim (λ h. n b h) (λ l. f.1 b l w) (s.cases b o))
split-later s n nothing f = λ b o. ⊎_elim (λ h. n b h) (λ l. f b l) (s.cases b o)
