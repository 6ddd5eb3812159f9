-- `reply_lines::hex::digit` meets its contract: below ten a digit starts at 48, and from ten on at 65.
-- Assumes nothing.
use Rattle.reply_lines.proofs.Lines.{mine}
use Rattle.reply_lines.proofs.hex.digit.Goals as goal

pub returns-then-v-lt10 : goal.returns-then-v-lt10
returns-then-v-lt10 c = search mine

pub returns-else-v-lt10 : goal.returns-else-v-lt10
returns-else-v-lt10 c = search mine
