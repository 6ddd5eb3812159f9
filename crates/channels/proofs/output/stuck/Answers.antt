use Rattle.std.proofs.Common.{sym, ◌∙◌, ap}
use Rattle.channels.proofs.Moving.{zero-again, zero-failed}
use Rattle.channels.specs.Sending.{stop_of}
use Rattle.channels.proofs.output.stuck.Goals as goal

pub returns-clause-failed : goal.returns-clause-failed
returns-clause-failed c = ap stop_of c.from_raw_os_error.ensures.kind ∙ zero-failed

pub returns-clause-retried : goal.returns-clause-retried
returns-clause-retried c = λ e. zero-again (sym c.from_raw_os_error.ensures.kind ∙ e)
