-- How many steps an owner has, and how many places pass a test.
--     owned-more, owned-same    one step more, of the owner or of another
--     owned-each                where all steps have one owner it has all of them
--     passing                   how many of the first places pass a test
--     passing-most              at most all of them
--     passing-none              none where the test fails at each
--     passing-alike             as many by a test that is the same at each
--     passing-least, passing-rest    of more places no fewer, and at most one more for each
--     passing-past              no more, where the test fails at the others
--     passing-pace              one place more, where one test holds if another does
-- Assumes nothing.
use mathlib.Core.Bool.{Bool, true, false}
use mathlib.Core.List.{List, [], ◌∷◌, ◌++◌}
use mathlib.Core.Path.{◌≡◌, refl, ap, sym, ◌∙◌}
use Prim.Native.Nat.{ℕ, zero, suc, ◌+◌, ◌≤◌, ◌<◌}
use native.Mathlib.Omega.{arith}
use lib.Dec.{eqb}
use borrow.Author.Tests.{eq-eqb, ne_eqb}
use lib.ListN.{length}
use Rattle.meaning.specs.Grounds.{Step, step_at, Each}
use Rattle.grounds_batches.specs.Drawing.{owned_by}

-- ---- steps of an owner

module _ (o : ℕ) where
  pub owned-more : (steps : List Step) (z : Step) → z.owner ≡ o → owned_by o (steps ++ (z ∷ [])) ≡ suc (owned_by o steps)
  unfolding owned_by
  owned-more [] z e = rw (eq-eqb z.owner o e, owned_by)
  owned-more (s ∷ ss) z e = go (eqb s.owner o) refl (owned-more ss z e)
    where
      go : (b : Bool) → eqb s.owner o ≡ b → owned_by o (ss ++ (z ∷ [])) ≡ suc (owned_by o ss) → owned_by o (s ∷ (ss ++ (z ∷ []))) ≡ suc (owned_by o (s ∷ ss))
      go true q ih = rw (q, owned_by) (ap suc ih)
      go false q ih = rw (q, owned_by) ih

  pub owned-same : (steps : List Step) (z : Step) → (z.owner ≡ o → ⊥) → owned_by o (steps ++ (z ∷ [])) ≡ owned_by o steps
  unfolding owned_by
  owned-same [] z d = rw (ne_eqb z.owner o d, owned_by)
  owned-same (s ∷ ss) z d = go (eqb s.owner o) refl (owned-same ss z d)
    where
      go : (b : Bool) → eqb s.owner o ≡ b → owned_by o (ss ++ (z ∷ [])) ≡ owned_by o ss → owned_by o (s ∷ (ss ++ (z ∷ []))) ≡ owned_by o (s ∷ ss)
      go true q ih = rw (q, owned_by) (ap suc ih)
      go false q ih = rw (q, owned_by) ih

  pub owned-each : (steps : List Step) → Each (length steps) (λ i. (step_at steps i).owner ≡ o) → owned_by o steps ≡ length steps
  unfolding owned_by
  owned-each [] w = refl
  owned-each (s ∷ ss) w = rw (eq-eqb s.owner o (w 0 (omega arith)), owned_by) (ap suc (owned-each ss (λ i h. w (suc i) (omega arith))))

-- ---- places that pass a test

-- of the first n
unfoldable pub passing : (ℕ → Bool) → ℕ → ℕ
passing test zero = 0
passing test (suc n) = elim (test n) [ true ↦ suc (passing test n) | false ↦ passing test n ]

module _ (test : ℕ → Bool) where
  pub passing-true : (n : ℕ) → test n ≡ true → passing test (suc n) ≡ suc (passing test n)
  unfolding passing
  passing-true n e = rw (e, passing)

  pub passing-false : (n : ℕ) → test n ≡ false → passing test (suc n) ≡ passing test n
  unfolding passing
  passing-false n e = rw (e, passing)

  -- no fewer with one more, and at most one more
  passing_step : (n : ℕ) → (passing test n ≤ passing test (suc n)) × (passing test (suc n) ≤ suc (passing test n))
  passing_step n = go (test n) refl
    where
      go : (b : Bool) → test n ≡ b → (passing test n ≤ passing test (suc n)) × (passing test (suc n) ≤ suc (passing test n))
      go true e = (omega (arith, passing-true n e), omega (arith, passing-true n e))
      go false e = (omega (arith, passing-false n e), omega (arith, passing-false n e))

  pub passing-most : (n : ℕ) → passing test n ≤ n
  unfolding passing
  passing-most zero = omega arith
  passing-most (suc n) = omega (arith, (passing_step n).1, passing-most n)

  pub passing-none : (n : ℕ) → Each n (λ i. test i ≡ false) → passing test n ≡ 0
  unfolding passing
  passing-none zero w = refl
  passing-none (suc n) w = passing-false n (w n (omega arith)) ∙ passing-none n (λ i h. w i (omega arith))

  pub passing-least : (n m : ℕ) → passing test n ≤ passing test (n + m)
  passing-least n zero = let e : n + 0 ≡ n = omega arith in omega (arith, ap (passing test) e)
  passing-least n (suc m) =
      let e : n + suc m ≡ suc (n + m) = omega arith in omega (arith, ap (passing test) e, (passing_step (n + m)).0, passing-least n m)

  pub passing-rest : (n m : ℕ) → passing test (n + m) ≤ passing test n + m
  passing-rest n zero = let e : n + 0 ≡ n = omega arith in omega (arith, ap (passing test) e)
  passing-rest n (suc m) =
      let e : n + suc m ≡ suc (n + m) = omega arith in omega (arith, ap (passing test) e, (passing_step (n + m)).1, passing-rest n m)

  pub passing-past : (n m : ℕ) → ((i : ℕ) → n ≤ i → i < n + m → test i ≡ false) → passing test (n + m) ≡ passing test n
  passing-past n zero w = let e : n + 0 ≡ n = omega arith in ap (passing test) e
  passing-past n (suc m) w =
      let e : n + suc m ≡ suc (n + m) = omega arith in
      ap (passing test) e ∙ passing-false (n + m) (w (n + m) (omega arith) (omega arith)) ∙ passing-past n m (λ i h l. w i h (omega arith))

pub passing-alike : (test other : ℕ → Bool) (n : ℕ) → Each n (λ i. test i ≡ other i) → passing test n ≡ passing other n
unfolding passing
passing-alike test other zero w = refl
passing-alike test other (suc n) w = go (other n) refl (passing-alike test other n (λ i h. w i (omega arith)))
  where
    go : (b : Bool) → other n ≡ b → passing test n ≡ passing other n → passing test (suc n) ≡ passing other (suc n)
    go true e ih = passing-true test n (w n (omega arith) ∙ e) ∙ ap suc ih ∙ sym (passing-true other n e)
    go false e ih = passing-false test n (w n (omega arith) ∙ e) ∙ ih ∙ sym (passing-false other n e)

-- what passes the other test passes this one
pub passing-pace : (test other : ℕ → Bool) (n a b : ℕ) → a + passing other n ≤ b + passing test n → (other n ≡ true → test n ≡ true)
    → a + passing other (suc n) ≤ b + passing test (suc n)
passing-pace test other n a b h w = go (other n) refl
  where
    go : (c : Bool) → other n ≡ c → a + passing other (suc n) ≤ b + passing test (suc n)
    go true e = omega (arith, passing-true other n e, passing-true test n (w e))
    go false e = omega (arith, passing-false other n e, (passing_step test n).0)
