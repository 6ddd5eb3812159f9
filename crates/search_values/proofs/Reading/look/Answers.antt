use Rattle.search_values.proofs.Meeting.{look-met}
use Rattle.search_values.proofs.Reading.look.Goals as goal

pub returns-in-None : goal.returns-in-None
returns-in-None c = look-met _ _ _ _ _ _ _ _ _ c.head_in-symbol.ensures _ _ _ c.in-None.ensures c.own.ensures c.met.ensures c.unwrap_or.ensures
