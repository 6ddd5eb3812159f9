-- `entries::entry_at` meets its contract: a law for each look-up that fails, and one for none.
-- Assumes nothing.
use Rattle.text_reader.proofs.Entering.{mine, entry-kind, entry-size, entry-rank}
use Rattle.text_reader.proofs.entries.entry_at.Goals as goal

pub returns-in_err-kind : goal.returns-in_err-kind
returns-in_err-kind c =
    let k = c.in_err-kind.ensures in
    entry-kind _ _ _ _ _ c.requires.0 _ c.field.ensures _ c.kind_of.ensures k.ok_part _ k.value _ c.from_residual.ensures.1

pub returns-in_err-count : goal.returns-in_err-count
returns-in_err-count c =
    let k = c.in_err-count.ensures in
    entry-size _ _ _ _ _ c.requires.0 _ c.field.ensures _ c.kind_of.ensures _ c.in_ok-kind.ensures.ok_part _ c.size_of.ensures k.ok_part _ k.value _
    c.from_residual-in_err-count.ensures.1

pub returns-then-rank_of-s : goal.returns-then-rank_of-s
returns-then-rank_of-s c =
    entry-rank _ _ _ _ _ c.requires.0 _ c.field.ensures _ c.kind_of.ensures _ c.in_ok-kind.ensures.ok_part _ c.size_of.ensures _
    c.in_ok-count.ensures.ok_part _ c.rank_of.ensures c.if-rank_of-s.true

pub entry_of-requires : goal.entry_of-requires
entry_of-requires c = search mine
