-- The pass over the statements, as the loop makes it.
--     mine     what `state` and `join_stated` leave to show
-- Assumes nothing.
use mathlib.Core.Bool.{Bool, true, false}
use mathlib.Core.List.{List}
use mathlib.Core.Path.{◌≡◌, refl, sym, ap, ap₂, ◌∙◌}
use Prim.Native.Nat.{ℕ, ◌+◌, ◌≤◌, ◌<◌}
use native.Mathlib.Numerals.{add-one}
use native.Mathlib.Omega.{arith}
use lib.Dec.{eqb}
use lib.ListN.{get_or}
use borrow.Author.Rules.{rules}
use Rattle.meaning.specs.Closing.{unite, upto}
use Rattle.closing.specs.Steps.{state_step}

module _ (kinds lefts rights : List ℕ) (k : ℕ) (l m : List ℕ) (c : Bool) (ec : c ≡ eqb (get_or kinds k 0) 2) where
  pub state-equation : (a b : ℕ) → c ≡ true → a ≡ get_or lefts k 0 → b ≡ get_or rights k 0 → m ≡ unite a b l → m ≡ state_step kinds lefts rights k l
  unfolding state_step
  state-equation a b e ea eb q = q ∙ rw (sym ec ∙ e, state_step) (ap₂ (λ (x y : ℕ). unite x y l) ea eb)

  pub state-other : c ≡ false → l ≡ state_step kinds lefts rights k l
  unfolding state_step
  state-other d = rw (sym ec ∙ d, state_step)

-- the first k statements are done
pub record Stating (step : ℕ → List ℕ → List ℕ) (n : ℕ) (l t : List ℕ) (k : ℕ) : Type 0 where
  pub so : t ≡ upto k step l
  pub reach : k ≤ n

pub stating-start : (step : ℕ → List ℕ → List ℕ) (n : ℕ) (l : List ℕ) → Stating step n l l 0
unfolding upto
stating-start step n l = record { so = refl; reach = omega arith }

pub stating-next : {step : ℕ → List ℕ → List ℕ} {n : ℕ} {l t u : List ℕ} {k : ℕ} → Stating step n l t k → k < n → u ≡ step k t → Stating step n l u (k + 1)
unfolding upto
stating-next {step} {n} {l} {t} {u} {k} s h e = record { so = rw add-one (e ∙ ap (step k) s.so); reach = omega arith }

pub stating-done : {step : ℕ → List ℕ → List ℕ} {n : ℕ} {l t : List ℕ} {k : ℕ} → Stating step n l t k → n ≤ k → t ≡ upto n step l
stating-done {step} {n} {l} {t} {k} s h = let e : k ≡ n = omega (arith, s.reach) in s.so ∙ ap (λ (x : ℕ). upto x step l) e

pub ruleset mine = (rules, state-equation, state-other, stating-start, stating-next, stating-done)
