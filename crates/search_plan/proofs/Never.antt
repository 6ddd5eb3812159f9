-- A rule that says that p and p differ.
--     never-none      where no number differs from itself, it has no breach
-- Assumes nothing.
use mathlib.Core.Bool.{Bool, true, false}
use mathlib.Core.List.{List, [], ◌∷◌}
use mathlib.Core.Path.{◌≡◌, refl}
use mathlib.Core.Logic.{⊎_elim}
use Prim.Native.Nat.{ℕ}
use borrow.Author.Tests.{eqb-true}
use Rattle.meaning.specs.Context.{Row}
use Rattle.meaning.specs.Rules.{variables, Literal, equal, unequal, Clause, Found, found, nothing, First}
use Rattle.meaning.specs.Values.{number_at, numbers}
use Rattle.meaning.specs.FirstBy.{holds_by, all_hold_by, breaks, first_by}
use Rattle.meaning.proofs.Logic.{and-true-left, and-true-right, or_cases, false-true}
use Rattle.meaning.proofs.Seek.{starts, starts-rising, seek-first}
use Rattle.meaning.proofs.Pruned.{Sought}
use Rattle.search_plan.specs.Asked.{self_unequal, never}

module _ (rows : List Row) (rep : ℕ → ℕ) (offset : ℕ) (differs : ℕ → ℕ → Bool) (k : Clause) where
  module _ (unlike : (n : ℕ) → differs n n ≡ false) where
    never-holds : (ns : List ℕ) (ls : List Literal) → never ls ≡ true → all_hold_by differs ns ls ≡ true → ⊥
    unfolding never all_hold_by self_unequal holds_by
    never-holds ns [] e h = false-true e refl
    never-holds ns (l ∷ ls) e h =
        ⊎_elim (λ s. self l s (and-true-left (holds_by differs ns l) (all_hold_by differs ns ls) h))
        (λ s. never-holds ns ls s (and-true-right (holds_by differs ns l) (all_hold_by differs ns ls) h))
        (or_cases (self_unequal l) (never ls) e)
      where
        self : (l : Literal) → self_unequal l ≡ true → holds_by differs ns l ≡ true → ⊥
        self (equal p q) s t = false-true s refl
        self (unequal p q) s t = let z : p ≡ q = eqb-true p q s in false-true (rw z at t) (unlike (number_at ns q))

    pub never-none : never k.literals ≡ true → first_by differs rows rep offset k ≡ nothing
    unfolding first_by breaks
    never-none e =
        go (first_by differs rows rep offset k)
        (seek-first (breaks differs rows rep offset k) (starts rows rep) (starts-rising rows rep) (variables k.patterns))
      where
        go : (r : Found) → First (Sought differs rows rep offset k) r → r ≡ nothing
        go (found a) f = absurd (never-holds (numbers rows rep offset k.patterns a) k.literals e f.0.2)
        go nothing f = refl
