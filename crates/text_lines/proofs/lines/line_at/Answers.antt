-- `lines::line_at` meets its contract: each test that fails is a law on where the run of digits ends.
-- Assumes nothing.
use Rattle.text_lines.proofs.Scan.{mine}
use Rattle.text_lines.proofs.lines.line_at.Goals as goal
use Rattle.text_lines.proofs.lines.line_at.Goals.{else-end-text-via-then-end-text+then-text-end-eq10+then-n-ne0+else-n-eq0, else-end-text-via-then-end-text+then-text-end-eq10+else-n-ne0, else-end-text-via-then-end-text+else-text-end-eq10, else-end-text-via-else-end-text}

pub returns-else-end-text : goal.returns-else-end-text
returns-else-end-text c =
    elim c.else-end-text.branch [
      | else-end-text-via-then-end-text+then-text-end-eq10+then-n-ne0+else-n-eq0 w ↦ record { line = search mine }
      | else-end-text-via-then-end-text+then-text-end-eq10+else-n-ne0 w ↦ record { line = search mine }
      | else-end-text-via-then-end-text+else-text-end-eq10 w ↦ record { line = search mine }
      | else-end-text-via-else-end-text w ↦ record { line = search mine }
    ]
