-- The reasons of steps.
--     kind_number    the number that a reason has in a step's first word
-- Assumes nothing.
use Rattle.std.specs.Prelude.{ℕ}
use Rattle.grounds_verdict.specs.declared.words.Reason.{Reason}
use Rattle.grounds_verdict.specs.declared.words.Reason.TheVariants.{Statement, Reflexivity, Symmetry, Transitivity, Congruence, Addition}

abbrev pub kind_number : Reason → ℕ
kind_number Statement = 1
kind_number Reflexivity = 2
kind_number Symmetry = 3
kind_number Transitivity = 4
kind_number Congruence = 5
kind_number Addition = 6
