-- Answers that are true exactly when something holds, and loops that look at each place in turn.
--     decides-true, decides-false           an answer that is known
--     decides_not, never                    what a false answer says; no answer is both
--     every-none, every_more                nothing so far, and one place more
--     every-fails, every-done               the loop's two answers
-- Assumes nothing.
use mathlib.Core.Bool.{Bool, true, false}
use mathlib.Core.Path.{◌≡◌, refl}
use mathlib.Core.List.{List}
use Prim.Native.Nat.{ℕ, ◌+◌, ◌*◌, ◌≤◌, ◌<◌}
use native.Mathlib.Omega.{arith}
use borrow.Author.Rules.{rules}
use borrow.Author.Count.{below_more}
use lib.ListN.{get_or}
use Rattle.columns.specs.Fit.{Decides, Every, Earlier, PlacedAt, NamedAt, PatternAt}

pub decides-true : {P : Type 0} → P → Decides true P
decides-true p = record { holds = λ _. p; sure = λ _. refl }

pub never : {P : Type 0} → false ≡ true → P
never e = absurd (let z : ◌≡◌ {A = ℕ} 0 1 = cc in omega arith)

pub decides-false : {P : Type 0} → (P → ⊥) → Decides false P
decides-false n = record { holds = never; sure = λ p. absurd (n p) }

pub decides_not : {r : Bool} {P : Type 0} → Decides r P → r ≡ false → P → ⊥
decides_not d e p = let t : true ≡ false = cc (d.sure p) in let z : ◌≡◌ {A = ℕ} 0 1 = cc in omega arith

pub every-none : {P : ℕ → Type 0} → Every 0 P
every-none = record { each = λ i h. absurd (omega arith) }

pub every_more : {P : ℕ → Type 0} {i : ℕ} → Every i P → P i → Every (i + 1) P
every_more {P} {i} e p = record { each = below_more P i e.each p }

pub every-fails : {P : ℕ → Type 0} {n i : ℕ} → i < n → (P i → ⊥) → Decides false (Every n P)
every-fails {P} {n} {i} h f = decides-false (λ e. f (e.each i h))

pub every-done : {P : ℕ → Type 0} {n i : ℕ} → Every i P → n ≤ i → Decides true (Every n P)
every-done {P} {n} {i} e h = decides-true (record { each = λ j l. e.each j (omega arith) })

-- ---- the arguments of a row
module _ (counts args : List ℕ) (i n : ℕ) where
  pub placed-many : n ≡ get_or counts i 0 → 4 < n → Decides false (PlacedAt counts args i)
  placed-many e h = decides-false (λ p. omega (arith, p.few))

  pub placed-late : (k a : ℕ) → n ≡ get_or counts i 0 → k < n → a ≡ get_or args (i * 4 + k) 0 → i ≤ a → Decides false (PlacedAt counts args i)
  placed-late k a e h q l = decides-false (λ p. omega (arith, p.earlier.each k (omega arith), q))

  pub placed-done : (k : ℕ) → n ≡ get_or counts i 0 → n ≤ 4 → Every k (Earlier args i) → n ≤ k → Decides true (PlacedAt counts args i)
  placed-done k e f p h = decides-true (record { few = omega arith; earlier = record { each = λ j l. p.each j (omega arith) } })

-- ---- pairs that name rows
module _ (lefts rights : List ℕ) (limit n j : ℕ) where
  pub named-left : (a : ℕ) → j < n → a ≡ get_or lefts j 0 → limit ≤ a → Decides false (Every n (NamedAt lefts rights limit))
  named-left a h e l = every-fails h (λ p. omega (arith, p.left, e))

  pub named-right : (a : ℕ) → j < n → a ≡ get_or rights j 0 → limit ≤ a → Decides false (Every n (NamedAt lefts rights limit))
  named-right a h e l = every-fails h (λ p. omega (arith, p.right, e))

-- ---- pattern rows
module _ (kinds heads counts args : List ℕ) (i : ℕ) (r : Bool) where
  pub pattern-variable : get_or kinds i 0 ≡ 4 → Decides r (get_or heads i 0 < 4) → Decides r (PatternAt kinds heads counts args i)
  pattern-variable k d = record { holds = λ e. record { variable = λ _. d.holds e; symbol = λ n. absurd (n k) }; sure = λ p. d.sure (p.variable k) }

  pub pattern-symbol : (get_or kinds i 0 ≡ 4 → ⊥) → Decides r (PlacedAt counts args i) → Decides r (PatternAt kinds heads counts args i)
  pattern-symbol n d = record { holds = λ e. record { variable = λ k. absurd (n k); symbol = λ _. d.holds e }; sure = λ p. d.sure (p.symbol n) }

pub ruleset mine = (rules, every-none, placed-many, placed-late, placed-done, named-left, named-right, pattern-variable, pattern-symbol, every-done)
