-- The pass over the statements, as the loop makes it.
--     mine     what `state` and `join_stated` leave to show
-- Assumes nothing.
use mathlib.Core.List.{List}
use mathlib.Core.Path.{◌≡◌, refl, ap, ap₂, sym, ◌∙◌}
use Prim.Native.Nat.{ℕ, ◌+◌, ◌≤◌, ◌<◌}
use native.Mathlib.Numerals.{add-one}
use native.Mathlib.Omega.{arith}
use lib.ListN.{length}
use borrow.Author.Rules.{rules}
use borrow.Author.Tests.{eq-eqb, ne_eqb}
use Rattle.meaning.specs.Closing.{upto}
use Rattle.runs.specs.Runs.{kind_in, left_in, right_in}
use Rattle.classes.specs.Steps.{merge, state_step}

module _ (said : List ℕ) (k c : ℕ) (l m : List ℕ) (ec : c ≡ kind_in said k) where
  pub state-equation : (a b : ℕ) → c ≡ 2 → a ≡ left_in said k → b ≡ right_in said k → m ≡ merge a b l → m ≡ state_step said k l
  unfolding state_step
  state-equation a b e ea eb q = q ∙ rw (eq-eqb (kind_in said k) 2 (sym ec ∙ e), state_step) (ap₂ (λ (x y : ℕ). merge x y l) ea eb)

  pub state-other : (c ≡ 2 → ⊥) → l ≡ state_step said k l
  unfolding state_step
  state-other d = rw (ne_eqb (kind_in said k) 2 (λ z. d (ec ∙ z)), state_step)

-- the first k statements of n are done, n of them the number that the run says
pub record Stating (step : ℕ → List ℕ → List ℕ) (m n : ℕ) (l t : List ℕ) (k : ℕ) : Type 0 where
  pub so : t ≡ upto k step l
  pub count : n ≡ m
  pub reach : k ≤ n
  pub stays : length t ≡ length l

pub stating-start : (step : ℕ → List ℕ → List ℕ) (m n : ℕ) (l : List ℕ) → n ≡ m → Stating step m n l l 0
unfolding upto
stating-start step m n l e = record { so = refl; count = e; reach = omega arith; stays = refl }

pub stating-next : {step : ℕ → List ℕ → List ℕ} {m n : ℕ} {l t u : List ℕ} {k : ℕ} → Stating step m n l t k → k < n → length u ≡ length t → u ≡ step k t
    → Stating step m n l u (k + 1)
unfolding upto
stating-next {step} {m} {n} {l} {t} {u} {k} s h z e =
    record { so = rw add-one (e ∙ ap (step k) s.so); count = s.count; reach = omega arith; stays = z ∙ s.stays }

pub stating-done : {step : ℕ → List ℕ → List ℕ} {m n : ℕ} {l t : List ℕ} {k : ℕ} → Stating step m n l t k → n ≤ k → t ≡ upto m step l
stating-done {step} {m} {n} {l} {t} {k} s h = let e : k ≡ m = omega (arith, s.reach, s.count) in s.so ∙ ap (λ (x : ℕ). upto x step l) e

pub ruleset mine = (rules, state-equation, state-other, stating-start, stating-next, stating-done)
