use native.Mathlib.Omega.{arith}
use Rattle.search_values.proofs.Meeting.{valuing-lengths, valuing-next, mine}
use Rattle.search_values.proofs.Reading.args_are.Goals as goal

pub returns-then-pattern_count_in-n : goal.returns-then-pattern_count_in-n
returns-then-pattern_count_in-n c =
    valuing-lengths c.args.self.now.patterns.now c.args.values.now c.args.q c.args.wanted.now c.requires _ c.pattern_count_in.ensures (λ e. omega arith)

pub loop-k-preserved : goal.loop-k-preserved
loop-k-preserved c = valuing-next _ _ _ _ (search mine) _ (search mine) _ (omega arith) c.arg_value.ensures c.if-arg_value-wanted.false

pub returns-then-arg_value-wanted : goal.returns-then-arg_value-wanted
returns-then-arg_value-wanted c = search mine

pub returns : goal.returns
returns c = search mine
