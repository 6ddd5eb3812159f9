-- What the search asks, and what it finds, of what is lent as one.
--     ReadyFor              a context, a rule and its plan, before the rows are chained by their symbols
--     HuntsIn               all that is searched
--     stage_in, dead_in     the values after one level more, and whether a literal that is due there fails
--     rows_for              the rows that a variable takes
--     hunt_in, enter_in     the first breach, after and before the values of level k are read
-- Assumes nothing.
use Rattle.std.specs.Prelude.{Bool, List, ℕ, ◌-◌}
use Rattle.meaning.specs.Equality.{rep_at}
use Rattle.meaning.specs.Rules.{Found}
use Rattle.meaning.specs.Following.{differ_by}
use Rattle.columns.specs.declared.Context.{Context}
use Rattle.columns.specs.declared.Rule.{Rule}
use Rattle.columns.specs.Lent.{rows_in, patterns_in, literals_in, context_in}
use Rattle.plan.specs.declared.Plan.{Plan}
use Rattle.search.specs.declared.hunt.Hunt.{Hunt}
use Rattle.search.specs.Hunting.{stage_of, dead_of, rows_of, hunt_of, enter_from, Ready, Hunting}

abbrev pub ReadyFor : Context → Rule → Plan → Type 0
ReadyFor c r p =
    Ready c.terms.counts.now c.terms.args.now c.terms.rows r.patterns.kinds.now r.patterns.heads.now r.patterns.counts.now r.patterns.args.now r.patterns.rows
    p.order p.ends r.literals.lefts.now r.literals.rights.now r.literals.count p.variables

abbrev pub HuntsIn : Hunt → Type 0
HuntsIn h =
    Hunting h.reading.ledger.terms.symbols.now h.reading.ledger.terms.counts.now h.reading.ledger.terms.args.now h.reading.ledger.terms.rows
    h.reading.ledger.chains.now.first h.reading.ledger.chains.now.next h.reading.patterns.kinds.now h.reading.patterns.heads.now
    h.reading.patterns.counts.now h.reading.patterns.args.now h.reading.patterns.rows h.reading.order.now h.ends.now h.literals.lefts.now
    h.literals.rights.now h.literals.count h.variables

abbrev pub stage_in : Hunt → ℕ → List ℕ → List ℕ → List ℕ
stage_in h = stage_of (rows_in h.reading.ledger.terms) (rep_at h.reading.ledger.table.now) (patterns_in h.reading.patterns) h.reading.order.now h.ends.now

abbrev pub dead_in : Hunt → ℕ → List ℕ → Bool
dead_in h = dead_of (differ_by (context_in h.classed.context)) h.levels.now (literals_in h.literals)

abbrev pub rows_for : Hunt → ℕ → List ℕ → List ℕ
rows_for h = rows_of (rep_at h.reading.ledger.table.now) h.reading.ledger.terms.rows h.free h.from

abbrev pub hunt_in : Hunt → ℕ → List ℕ → List ℕ → Found
hunt_in h k = hunt_of (stage_in h) (dead_in h) (rows_for h) (h.variables - k) k

abbrev pub enter_in : Hunt → ℕ → List ℕ → List ℕ → Found
enter_in h k = enter_from (stage_in h) (dead_in h) (rows_for h) (h.variables - k) k
