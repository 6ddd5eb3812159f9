-- `plan::reach::free` meets its contract.
-- Assumes nothing.
use Rattle.meaning.specs.Columns.{clause_from}
use Rattle.plan.proofs.Reaching.{FreesTo}
use Rattle.plan.proofs.reach.free.Given as goal

abbrev pub invariant-loop-v : goal.invariant-loop-v
invariant-loop-v l = FreesTo (clause_from l.rule.patterns.kinds.now l.rule.patterns.heads.now l.rule.patterns.counts.now l.rule.patterns.args.now l.rule.patterns.rows l.rule.literals.signs.now l.rule.literals.lefts.now l.rule.literals.rights.now l.rule.literals.count) l.free l.v
