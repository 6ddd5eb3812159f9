-- `search::hunt::start` meets its contract.
-- Assumes nothing.
use mathlib.Core.Path.{refl}
use mathlib.Core.Path.{ap, ◌∙◌}
use Rattle.search.specs.Hunting.{answer_of}
use Rattle.search.proofs.Hunting.{ready-hunting, start-enter, chosen-start}
use native.Mathlib.Omega.{arith}
use Rattle.search.proofs.hunt.start.Goals as goal

pub enter-requires : goal.enter-requires
enter-requires c =
    record {
      hunting = ready-hunting c.requires.ready c.link-chains.ensures;
      k_le_variables = (omega arith, chosen-start _ refl);
      closed_by = c.requires.closed_by;
      knows = c.requires.knows;
    }

pub returns : goal.returns
returns c = record { value = c.enter.ensures.value ∙ ap answer_of (start-enter _ _ _ _ _ _ refl refl); knows_2 = c.enter.ensures.knows_2 }
