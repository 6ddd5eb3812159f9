use native.Mathlib.Omega.{arith}
use Rattle.search_values.proofs.Comparing.{matching-lengths, matching-next, mine}
use Rattle.search_values.proofs.Ledger.args_are.Goals as goal

pub returns-then-count_in-n : goal.returns-then-count_in-n
returns-then-count_in-n c =
    matching-lengths c.args.self.now.rows.now c.args.self.now.table.now c.args.i c.args.wanted.now c.requires _ c.count_in.ensures (λ e. omega arith)

pub loop-k-preserved : goal.loop-k-preserved
loop-k-preserved c = matching-next _ _ _ _ (search mine) _ (search mine) _ (omega arith) c.arg_class.ensures c.if-arg_class-wanted.false

pub returns-then-arg_class-wanted : goal.returns-then-arg_class-wanted
returns-then-arg_class-wanted c = search mine

pub returns : goal.returns
returns c = search mine
