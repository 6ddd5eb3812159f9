-- The plain search over a table of representatives gives the first breach, or none exactly when there is none, where the context does not contradict itself.
--     numbers-right     the test by numbers is right about assignments of representatives
--     computed-first    what is computed answers
-- Assumes nothing.
use mathlib.Core.Path.{◌≡◌}
use Prim.Native.Nat.{ℕ, ◌≤◌, ◌<◌}
use native.Mathlib.Omega.{arith}
use lib.ListN.{length}
use Rattle.meaning.specs.Context.{Context, equations}
use Rattle.meaning.specs.Equality.{Consistent, Representatives}
use Rattle.meaning.specs.Rules.{Clause, choice, range_of, variables, Answers}
use Rattle.meaning.specs.Formed.{Formed}
use Rattle.meaning.specs.FirstBy.{breaks, first_by}
use Rattle.meaning.specs.Following.{differ_by}
use Rattle.meaning.proofs.Model.{Closed}
use Rattle.meaning.proofs.Promised.{representatives-closed}
use Rattle.meaning.proofs.Box.{mem_below, mem-all, Mem}
use Rattle.meaning.proofs.Numbered.{all-hold-numbers, Means, means-choice}
use Rattle.meaning.proofs.Seek.{starts, lowest-below, lowest-self}
use Rattle.meaning.proofs.Finds.{RightTest, first-breach}
use Rattle.meaning.proofs.FollowingNumbers.{differ-instances}

module _ (c : Context) (k : Clause) (formed : Formed c k) (free : Consistent c) (rep : ℕ → ℕ) (represents : Representatives c rep) (offset : ℕ)
    (fits : length c.rows ≤ offset) where
  closed : Closed c.rows (equations c) rep
  closed = representatives-closed c formed.fit rep represents

  pub numbers-right : RightTest c k rep (breaks (differ_by c) c.rows rep offset k)
  unfolding breaks
  numbers-right a whole inside =
      all-hold-numbers c rep formed.fit.ordered formed.fit.within closed offset fits k.patterns formed.placed a (choice (range_of c) a) means
      (differ_by c)
      (differ-instances c formed.fit free rep closed offset fits k.patterns formed.placed a (choice (range_of c) a) means)
      k.literals
      formed.named
    where
      start : (x : ℕ) → Mem x a → (x < length c.rows) × (rep x ≡ x)
      start x m =
          let i : Mem x (starts c.rows rep) = mem-all (starts c.rows rep) x a inside m in
          (mem_below (length c.rows) x (starts c.rows rep) (lowest-below rep (length c.rows) 0 (length c.rows) (omega arith)) i, lowest-self rep x 0 (length c.rows) i)

      means : (v : ℕ) → v < variables k.patterns → Means c.rows rep a (choice (range_of c) a) v
      means v h = means-choice c.rows (equations c) rep formed.fit.ordered formed.fit.within closed a start v (omega arith)

  pub computed-first : Answers c k (first_by (differ_by c) c.rows rep offset k)
  computed-first = first-breach c k rep closed (differ_by c) offset numbers-right
