-- What `plan_clause` answers.
--     mark_of        1 for true, and 0
--     Frees         a mark for each of four variables: whether no literal that is asked reaches it
--     Planned       the plan of a clause in columns
--     Plans         the answer to any columns: a plan, or none where they are not well-formed
--     PlannedBy, PlansFor   the same of a rule that is lent
-- Assumes nothing.
use Rattle.std.specs.Prelude.{Option, Some, None, Bool, true, false, List, ◌≡◌, ℕ, ◌<◌, length, get_or}
use Rattle.meaning.specs.Rules.{Clause, variables}
use Rattle.meaning.specs.Columns.{patterns_from, literals_from, clause_from}
use Rattle.meaning.specs.Values.{levels}
use Rattle.columns.specs.Fit.{Written, FitClause}
use Rattle.columns.specs.declared.Rule.{Rule}
use Rattle.plan.specs.declared.Plan.{Plan}
use Rattle.plan.specs.Planning.{Levelled, Arranged}
use Rattle.plan.specs.Reach.{free_by, never}

unfoldable pub mark_of : Bool → ℕ
mark_of true = 1
mark_of false = 0

pub record Frees (k : Clause) (free : List ℕ) : Type 0 where
  pub long : length free ≡ 4
  pub each : (v : ℕ) → v < 4 → get_or free v 0 ≡ mark_of (free_by k v)

pub record Planned (shapes heads arities subs : List ℕ) (patterns : ℕ) (signs firsts seconds : List ℕ) (literals : ℕ) (r : Plan) : Type 0 where
  pub written : Written shapes heads arities subs patterns
  pub counted : r.variables ≡ variables (patterns_from shapes heads arities subs patterns)
  pub levelled : Levelled (levels (patterns_from shapes heads arities subs patterns)) r.levels
  pub arranged : Arranged (levels (patterns_from shapes heads arities subs patterns)) r.order r.ends
  pub frees : Frees (clause_from shapes heads arities subs patterns signs firsts seconds literals) r.free
  pub refuted : r.never ≡ never (literals_from signs firsts seconds literals)

pub data Plans (shapes heads arities subs : List ℕ) (patterns : ℕ) (signs firsts seconds : List ℕ) (literals : ℕ) : Option Plan → Type 0 where
  fits : {r : Plan} → FitClause shapes heads arities subs patterns signs firsts seconds literals
      → Planned shapes heads arities subs patterns signs firsts seconds literals r
      → Plans shapes heads arities subs patterns signs firsts seconds literals (Some r)
  unfits : (FitClause shapes heads arities subs patterns signs firsts seconds literals → ⊥)
      → Plans shapes heads arities subs patterns signs firsts seconds literals None

abbrev pub PlannedBy : Rule → Plan → Type 0
PlannedBy r =
    Planned r.patterns.kinds.now r.patterns.heads.now r.patterns.counts.now r.patterns.args.now r.patterns.rows r.literals.signs.now r.literals.lefts.now
    r.literals.rights.now r.literals.count

abbrev pub PlansFor : Rule → Option Plan → Type 0
PlansFor r =
    Plans r.patterns.kinds.now r.patterns.heads.now r.patterns.counts.now r.patterns.args.now r.patterns.rows r.literals.signs.now r.literals.lefts.now
    r.literals.rights.now r.literals.count
