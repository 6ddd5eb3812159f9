-- `lines::field` meets its contract: two digits make a field, and no sum of theirs leaves u16.
-- Assumes nothing.
use Rattle.text_lines.proofs.Fields.{mine}
use Rattle.text_lines.proofs.lines.field.Goals as goal

pub value-requires : goal.value-requires
value-requires c = search mine

pub value-requires-2 : goal.value-requires-2
value-requires-2 c = search mine

pub returns : goal.returns
returns c = search mine
