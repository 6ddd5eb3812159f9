use mathlib.Core.Path.{refl}
use Rattle.closing.proofs.Chains.{passing-links, passing-head, passing-next, mine}
use Rattle.closing.proofs.mates.join_rows.Goals as goal

pub loop-i-init : goal.loop-i-init
loop-i-init c = search mine

pub join_row-requires : goal.join_row-requires
join_row-requires c =
    let s = c.loop-i.invariant in
    record { laid = c.requires; i_lt_rows = c.loop-i-test.true; by_index = passing-links s; head_le_i = passing-head s _ _ _ c.chain-b.ensures.0 refl c.from.ensures }

pub loop-i-preserved : goal.loop-i-preserved
loop-i-preserved c =
    passing-next c.loop-i.invariant _ _ _ c.loop-i-test.true c.chain-b.ensures.0 c.from.ensures c.join_row.ensures

pub returns : goal.returns
returns c = search mine
