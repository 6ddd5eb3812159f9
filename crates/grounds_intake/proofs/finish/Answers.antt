-- `finish` meets its contract: a line of the grounds that is open is a step.
-- Assumes nothing.
use Rattle.grounds_intake.proofs.Ways.{ends}
use Rattle.grounds_intake.proofs.finish.Goals as goal
use Rattle.grounds_intake.proofs.finish.Goals.{in-Grounds, in_default, else-matches-via-then-matches+else-q-ne0, else-matches-via-else-matches}

pub returns-then-q-ne0 : goal.returns-then-q-ne0
returns-then-q-ne0 c = record { finishes = elim c.match-matches.branch [ in-Grounds w ↦ search ends | in_default w ↦ absurd (cc) ] }

pub returns-else-matches : goal.returns-else-matches
returns-else-matches c =
    record {
      finishes =
          elim c.match-matches.branch [
            | in-Grounds w ↦ elim c.else-matches.branch [
              | else-matches-via-then-matches+else-q-ne0 u ↦ search ends
              | else-matches-via-else-matches u ↦ absurd (cc)
            ]
            | in_default w ↦ search ends
          ];
    }
