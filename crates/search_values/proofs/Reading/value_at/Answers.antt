use borrow.Author.Rules.{rules}
use Rattle.search_values.proofs.Walking.{value-room, front-long, mine}
use Rattle.search_values.proofs.Reading.value_at.Goals as goal

pub slice_bounds-args-end : goal.slice_bounds-args-end
slice_bounds-args-end c = value-room _ _ _ _ _ _ _ _ _ c.requires.asked c.requires.row_bound c.is_variable.ensures c.if-is_variable.false _ _ c.pattern_count_in-n.ensures (search rules)

pub slice_bounds-look-end : goal.slice_bounds-look-end
slice_bounds-look-end c =
    front-long _ _
    (value-room _ _ _ _ _ _ _ _ _ c.requires.asked c.requires.row_bound c.is_variable.ensures c.if-is_variable.false _ _ c.pattern_count_in-n.ensures (search rules))

pub given-requires : goal.given-requires
given-requires c = search mine

pub returns-then-is_variable : goal.returns-then-is_variable
returns-then-is_variable c = search mine

pub arg_values-args-requires : goal.arg_values-args-requires
arg_values-args-requires c = search mine

pub look-requires : goal.look-requires
look-requires c = search mine

pub returns : goal.returns
returns c = search mine
