-- A breach with its four places: those past its variables are not read.
--     placed           an assignment in four places
--     placed-chosen    each variable has its context row
--     placed-holds     every literal holds
-- Assumes nothing.
use mathlib.Core.List.{List, ◌++◌}
use mathlib.Core.Path.{sym, ap, ◌∙◌, subst}
use Prim.Native.Nat.{ℕ, ◌-◌, ◌<◌}
use native.Mathlib.Omega.{arith}
use lib.ListN.{length, get_or, replicate, length-append, get_or-append}
use lib.Seq.{take_at}
use Rattle.meaning.specs.Context.{Term, Context}
use Rattle.meaning.specs.Rules.{variables, instances, choice, range_of, Clause, AllHold, Breach}
use Rattle.meaning.specs.Grounds.{Each, instances_of}
use Rattle.meaning.proofs.Grounded.{instances-take}
use Rattle.grounds_batches.proofs.Breaches.{breach-chosen}

module _ (c : Context) (k : Clause) (a : List ℕ) (breach : Breach c (range_of c) k a) where
  abbrev placed : List ℕ
  placed = a ++ replicate (4 - length a) 255

  pub placed-chosen : Each (variables k.patterns) (λ v. (v < length placed) × (get_or placed v 0 < length c.rows))
  placed-chosen v h = (
    omega (arith, (breach-chosen c k a breach v h).0, length-append a (replicate (4 - length a) 255)),
    rw (get_or-append a (replicate (4 - length a) 255) 0 v (breach-chosen c k a breach v h).0) (breach-chosen c k a breach v h).1,
  )

  pub placed-holds : AllHold c (instances_of c k placed) k.literals
  placed-holds =
      subst (λ (ts : List Term). AllHold c ts k.literals)
      (sym (instances-take (range_of c) placed k.patterns (omega (arith, breach.long, length-append a (replicate (4 - length a) 255)))
      ∙ ap (λ (b : List ℕ). instances k.patterns (choice (range_of c) b)) (take_at a (replicate (4 - length a) 255) (variables k.patterns) breach.long)))
      breach.holds
