-- `writer::seek` meets its contract. What the search tells was found, and a breach stands in the places; well-formed runs are never unfit.
-- Assumes nothing.
use Rattle.writer.proofs.Seeking.{mine}
use Rattle.writer.proofs.seek.Goals as goal

pub shown-requires-clause-broken : goal.shown-requires-clause-broken
shown-requires-clause-broken c = search mine

pub returns-in-Breach : goal.returns-in-Breach
returns-in-Breach c = search mine

pub returns-in-Clear : goal.returns-in-Clear
returns-in-Clear c = search mine

pub returns-in-Unfit : goal.returns-in-Unfit
returns-in-Unfit c = search mine
