use mathlib.Core.Path.{subst}
use Prim.Native.Nat.{ℕ}
use borrow.Author.Rules.{rules}
use lib.Dec.{ltb}
use Rattle.std.proofs.lemmas.List.Sorted.{IsPartitionPoint-from_clause, IsPartitionedBy-ltb}
use Rattle.search_values.specs.Lookup.{FirstFrom}
use Rattle.search_values.proofs.Places.{ascends-order, first-from}
use Rattle.search_values.proofs.lookup.first_of.Goals as goal

pub returns : goal.returns
returns c =
    let parted = IsPartitionedBy-ltb (λ (x : ℕ). x) _ c.lowest_key-sought.result (ascends-order _ c.requires) in
    let point = IsPartitionPoint-from_clause (λ (x : ℕ). ltb x c.lowest_key-sought.result) _ _ c.partition_point.ensures.partitioned parted (λ a r q k. search rules) in
    subst (λ (v : ℕ). FirstFrom c.args.keys.now v c.partition_point.result) c.lowest_key-sought.ensures (first-from _ _ _ c.partition_point.ensures.bound point)
