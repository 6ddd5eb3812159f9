-- `entries::symbol_at` meets its contract: two fields below 256 make a symbol.
-- Assumes nothing.
use Rattle.text_lines.proofs.Ways.{mine}
use Rattle.text_lines.proofs.entries.symbol_at.Goals as goal

pub field-high-requires : goal.field-high-requires
field-high-requires c = search mine

pub field-low-requires : goal.field-low-requires
field-low-requires c = search mine

pub returns : goal.returns
returns c = search mine
