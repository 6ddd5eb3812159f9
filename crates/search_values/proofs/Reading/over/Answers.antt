use borrow.Author.Tests.{ne_eqb}
use Rattle.search_values.proofs.Meeting.{over-same, mine}
use Rattle.search_values.proofs.Reading.over.Goals as goal

pub returns-then-head_in-symbol : goal.returns-then-head_in-symbol
returns-then-head_in-symbol c =
    over-same c.args.self.now.patterns.now c.args.values.now c.args.q _ c.args.symbol _ c.args.wanted.now c.is_variable.ensures c.if-is_variable.false c.head_in.ensures _ c.if-head_in-symbol.true c.args_are.ensures

pub returns-else-head_in-symbol : goal.returns-else-head_in-symbol
returns-else-head_in-symbol c = rw (ne_eqb _ _ c.if-head_in-symbol.false) (search mine)

pub returns-then-is_variable : goal.returns-then-is_variable
returns-then-is_variable c = search mine
