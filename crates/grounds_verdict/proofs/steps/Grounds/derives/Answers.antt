-- `grounds_verdict::steps::Grounds::derives` meets its contract. The reason says what has to be shown.
-- Assumes nothing.
use Rattle.grounds_verdict.proofs.Derived.{mine}
use Rattle.grounds_verdict.proofs.steps.Grounds.derives.Goals as goal

pub returns-in_default : goal.returns-in_default
returns-in_default c = search mine

pub returns-in-Statement : goal.returns-in-Statement
returns-in-Statement c = search mine

pub returns-in-Reflexivity : goal.returns-in-Reflexivity
returns-in-Reflexivity c = search mine

pub returns-in-Symmetry : goal.returns-in-Symmetry
returns-in-Symmetry c = search mine

pub returns-in-Transitivity : goal.returns-in-Transitivity
returns-in-Transitivity c = search mine

pub returns-in-Congruence : goal.returns-in-Congruence
returns-in-Congruence c = search mine

pub returns-in-Addition : goal.returns-in-Addition
returns-in-Addition c = search mine
