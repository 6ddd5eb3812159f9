-- `listing::line_at` meets its contract: what comes at the start, and after a breach.
-- Assumes nothing.
use Rattle.listing.proofs.Lines.{mine}
use Rattle.listing.proofs.line_at.Goals as goal

pub returns-in-Start-clause-entry_at : goal.returns-in-Start-clause-entry_at
returns-in-Start-clause-entry_at c = search mine

pub returns-in-After-clause-entry_at : goal.returns-in-After-clause-entry_at
returns-in-After-clause-entry_at c = search mine
