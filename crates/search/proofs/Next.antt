-- The first breach after an assignment is the first at or after the assignment that comes next.
--     earlier-before, before-earlier     the computed order is the order
--     After, next-first                  what is sought after an assignment, and the first of it
--     bump, bump-after                   the assignment that comes next, and what stands at or after it
--     next-long, next-bump               the assignment to start from is the one that comes next
--     later-is                           as the code puts it
--     next-none                          with no variable nothing is after
--     next-from                          what gives the first at or after the one that comes next gives the first after an assignment
-- Assumes nothing.
use mathlib.Core.Bool.{Bool, true, false, ◌&&◌}
use mathlib.Core.List.{List, [], ◌∷◌}
use mathlib.Core.Path.{◌≡◌, refl, ap, sym, ◌∙◌}
use mathlib.Core.Logic.{inl, inr, ⊎_elim, ◌↔◌}
use Prim.Native.Nat.{ℕ, zero, suc, ◌+◌, ◌-◌, ◌≤◌, ◌<◌}
use native.Mathlib.Omega.{arith}
use native.Mathlib.Numerals.{add-one}
use lib.Dec.{eqb}
use borrow.Author.Tests.{eqb-true, eqb-false, eq-eqb, ne_eqb, ltb-true, lt-ltb}
use lib.ListN.{length, get_or, set, take, length-set}
use Rattle.meaning.specs.Context.{Row}
use Rattle.meaning.specs.Rules.{Clause, variables, Found, nothing, Before, First}
use Rattle.meaning.specs.FirstBy.{breaks}
use Rattle.meaning.proofs.Logic.{false-true, and_both, and-true-left, and-true-right}
use Rattle.meaning.proofs.Order.{Upto, first_one, same_first}
use Rattle.meaning.proofs.Box.{AllIn}
use Rattle.meaning.proofs.Seek.{seek-first, starts, starts-rising}
use Rattle.meaning.proofs.From.{AtOrAfter}
use Rattle.meaning.proofs.Pruned.{Sought}
use Rattle.meaning.specs.Next.{earlier, next_by}
use Rattle.search.specs.Finding.{next_of}

-- ---- the order

pub earlier-before : (b a : List ℕ) → earlier b a ≡ true → Before b a
unfolding earlier
earlier-before [] a e = false-true e refl
earlier-before (x ∷ b) [] e = false-true e refl
earlier-before (x ∷ b) (y ∷ a) e = go (eqb x y) refl (earlier-before b a)
  where
    go : (t : Bool) → eqb x y ≡ t → (earlier b a ≡ true → Before b a) → Before (x ∷ b) (y ∷ a)
    go true q ih = inr (eqb-true x y q, ih (rw (q, earlier) at e))
    go false q ih = inl (ltb-true x y (rw (q, earlier) at e))

pub before-earlier : (b a : List ℕ) → Before b a → earlier b a ≡ true
unfolding earlier
before-earlier [] a h = absurd h
before-earlier (x ∷ b) [] h = absurd h
before-earlier (x ∷ b) (y ∷ a) (inl h) = rw (ne_eqb x y (λ e. omega arith), earlier) (lt-ltb x y h)
before-earlier (x ∷ b) (y ∷ a) (inr h) = rw (eq-eqb x y h.0, earlier) (before-earlier b a h.1)

-- the assignment that comes next among those of one length
pub bump : List ℕ → List ℕ
bump [] = []
bump (x ∷ []) = suc x ∷ []
bump (x ∷ y ∷ l) = x ∷ bump (y ∷ l)

pub bump-after : (b a : List ℕ) → 0 < length b → length b ≡ length a → Before b a ↔ Upto (bump b) a
unfolding bump
bump-after [] a h e = absurd (omega arith)
bump-after (x ∷ b) [] h e = absurd (omega arith)
bump-after (x ∷ []) (y ∷ z ∷ a) h e = absurd (omega arith)
bump-after (x ∷ w ∷ b) (y ∷ []) h e = absurd (omega arith)
bump-after (x ∷ []) (y ∷ []) h e = (to, from)
  where
    to : Before (x ∷ []) (y ∷ []) → Upto (suc x ∷ []) (y ∷ [])
    to (inl l) = go (eqb (suc x) y) refl
      where
        go : (t : Bool) → eqb (suc x) y ≡ t → Upto (suc x ∷ []) (y ∷ [])
        go true q = inl (ap (λ (n : ℕ). n ∷ []) (eqb-true (suc x) y q))
        go false q = inr (inl (omega (arith, l, eqb-false (suc x) y q)))
    to (inr w) = absurd w.1

    from : Upto (suc x ∷ []) (y ∷ []) → Before (x ∷ []) (y ∷ [])
    from (inl q) = let w : suc x ≡ y = cc in inl (omega arith)
    from (inr (inl l)) = inl (omega arith)
    from (inr (inr w)) = absurd w.1
bump-after (x ∷ v ∷ b) (y ∷ z ∷ a) h e = (to (bump-after (v ∷ b) (z ∷ a) (omega arith) (omega arith)), from (bump-after (v ∷ b) (z ∷ a) (omega arith) (omega arith)))
  where
    to : (Before (v ∷ b) (z ∷ a) ↔ Upto (bump (v ∷ b)) (z ∷ a)) → Before (x ∷ v ∷ b) (y ∷ z ∷ a) → Upto (x ∷ bump (v ∷ b)) (y ∷ z ∷ a)
    to ih (inl l) = inr (inl l)
    to ih (inr w) = ⊎_elim (λ q. inl (cc (w.0, q))) (λ u. inr (inr (w.0, u))) (ih.0 w.1)

    from : (Before (v ∷ b) (z ∷ a) ↔ Upto (bump (v ∷ b)) (z ∷ a)) → Upto (x ∷ bump (v ∷ b)) (y ∷ z ∷ a) → Before (x ∷ v ∷ b) (y ∷ z ∷ a)
    from ih (inl q) = inr (cc, ih.1 (inl (cc)))
    from ih (inr (inl l)) = inl l
    from ih (inr (inr w)) = inr (w.0, ih.1 (inr w.1))

-- the assignment to start from, of four places of which n are read
pub next-long : (n : ℕ) (after : List ℕ) → length (next_of n after) ≡ length after
unfolding next_of
next-long n after = length-set after (n - 1) (get_or after (n - 1) 0 + 1)

pub next-bump : (n : ℕ) (after : List ℕ) → length after ≡ 4 → 0 < n → n ≤ 4 → take n (next_of n after) ≡ bump (take n after)
unfolding next_of bump
next-bump n [] l h m = absurd (omega arith)
next-bump n (a ∷ []) l h m = absurd (omega arith)
next-bump n (a ∷ b ∷ []) l h m = absurd (omega arith)
next-bump n (a ∷ b ∷ c ∷ []) l h m = absurd (omega arith)
next-bump n (a ∷ b ∷ c ∷ d ∷ e ∷ r) l h m = absurd (omega arith)
next-bump zero (a ∷ b ∷ c ∷ d ∷ []) l h m = absurd (omega arith)
next-bump (suc zero) (a ∷ b ∷ c ∷ d ∷ []) l h m = ap (λ x. x ∷ []) (add-one a)
next-bump (suc (suc zero)) (a ∷ b ∷ c ∷ d ∷ []) l h m = ap (λ x. a ∷ x ∷ []) (add-one b)
next-bump (suc (suc (suc zero))) (a ∷ b ∷ c ∷ d ∷ []) l h m = ap (λ x. a ∷ b ∷ x ∷ []) (add-one c)
next-bump (suc (suc (suc (suc zero)))) (a ∷ b ∷ c ∷ d ∷ []) l h m = ap (λ x. a ∷ b ∷ c ∷ x ∷ []) (add-one d)
next-bump (suc (suc (suc (suc (suc n))))) (a ∷ b ∷ c ∷ d ∷ []) l h m = absurd (omega arith)

pub later-is : (after : List ℕ) (n k a b c d e : ℕ) → length after ≡ 4 → a ≡ get_or after 0 0 → b ≡ get_or after 1 0 → c ≡ get_or after 2 0 → d ≡ get_or after 3 0
    → k ≡ n - 1 → e ≡ get_or after k 0 → set (a ∷ b ∷ c ∷ d ∷ []) k (e + 1) ≡ next_of n after
unfolding next_of
later-is [] n k a b c d e l p q r s h w = absurd (omega arith)
later-is (x ∷ []) n k a b c d e l p q r s h w = absurd (omega arith)
later-is (x ∷ y ∷ []) n k a b c d e l p q r s h w = absurd (omega arith)
later-is (x ∷ y ∷ z ∷ []) n k a b c d e l p q r s h w = absurd (omega arith)
later-is (x ∷ y ∷ z ∷ t ∷ u ∷ m) n k a b c d e l p q r s h w = absurd (omega arith)
later-is (x ∷ y ∷ z ∷ t ∷ []) n k a b c d e l p q r s h w = rw (p, q, r, s, w, h) refl

-- ---- what is sought

module _ (differs : ℕ → ℕ → Bool) (rows : List Row) (rep : ℕ → ℕ) (offset : ℕ) (k : Clause) (after : List ℕ) where
  abbrev pub After : List ℕ → Type 0
  After a = Sought differs rows rep offset k a × Before (take (length a) after) a

  after_test : (a : List ℕ)
      → After a ↔ ((length a ≡ variables k.patterns) × AllIn (starts rows rep) a × ((breaks differs rows rep offset k a && earlier (take (length a) after) a) ≡ true))
  after_test a = (
    λ w. (w.0.0, w.0.1, and_both (breaks differs rows rep offset k a) (earlier (take (length a) after) a) w.0.2 (before-earlier (take (length a) after) a w.1)),
    λ w. (
      (w.0, w.1, and-true-left (breaks differs rows rep offset k a) (earlier (take (length a) after) a) w.2),
      earlier-before (take (length a) after) a (and-true-right (breaks differs rows rep offset k a) (earlier (take (length a) after) a) w.2),
    ),
  )

  -- the plain search gives the first that is sought after the assignment
  pub next-first : First After (next_by differs rows rep offset k after)
  unfolding next_by
  next-first =
      same_first after_test (next_by differs rows rep offset k after)
      (seek-first (λ a. breaks differs rows rep offset k a && earlier (take (length a) after) a) (starts rows rep) (starts-rising rows rep) (variables k.patterns))

  pub next-none : variables k.patterns ≡ 0 → next_by differs rows rep offset k after ≡ nothing
  next-none e = first_one After (variables k.patterns) (λ a s. s.0.0) (next_by differs rows rep offset k after) nothing next-first none
    where
      none : First After nothing
      none [] s = s.1
      none (x ∷ a) s = absurd (omega (arith, s.0.0))

  module _ (some : 0 < variables k.patterns) (from : List ℕ) (is : from ≡ bump (take (variables k.patterns) after))
      (long : length (take (variables k.patterns) after) ≡ variables k.patterns) where
    after-from : (a : List ℕ) → After a ↔ AtOrAfter (Sought differs rows rep offset k) from a
    after-from a = (
      λ w. (w.0, to a w.0.0 w.1),
      λ w. (w.0, back a w.0.0 w.1),
    )
      where
        n : ℕ
        n = variables k.patterns

        both : (a : List ℕ) → length a ≡ n → Before (take n after) a ↔ Upto from a
        both a h = rw is (bump-after (take n after) a (omega arith) (long ∙ sym h))

        to : (a : List ℕ) → length a ≡ n → Before (take (length a) after) a → Upto from a
        to a h w = (both a h).0 (rw h at w)

        back : (a : List ℕ) → length a ≡ n → Upto from a → Before (take (length a) after) a
        back a h w = rw h ((both a h).1 w)

    pub next-from : (r : Found) → First (AtOrAfter (Sought differs rows rep offset k) from) r → r ≡ next_by differs rows rep offset k after
    next-from r f =
        first_one After (variables k.patterns) (λ a s. s.0.0) r (next_by differs rows rep offset k after) (same_first after-from r f) next-first
