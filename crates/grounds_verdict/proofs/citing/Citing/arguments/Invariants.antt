-- `grounds_verdict::citing::Citing::arguments` meets its contract. The invariant: the arguments passed are cited.
-- Assumes nothing.
use Rattle.grounds_verdict.proofs.Ways.{Cited}
use Rattle.grounds_verdict.proofs.citing.Citing.arguments.Given as goal

abbrev pub invariant-loop-k : goal.invariant-loop-k
invariant-loop-k l = Cited l.self.table.keys.now l.self.table.numbers.now l.self.table.rows l.self.steps.now l.self.limit l.self.owner l.l l.r l.count l.k
