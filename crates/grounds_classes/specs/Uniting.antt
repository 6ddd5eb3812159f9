-- What is done with two entries, as the code holds them.
--     argued_in, congruence_in       a step for arguments i; the step that rests on those of all
--     united_in, apart_in, paired_in   joined by their arguments; where they are alike; where their labels differ
-- Assumes nothing.
use Rattle.std.specs.Prelude.{ℕ}
use Rattle.runs.specs.Runs.{args_in}
use Rattle.grounds_laws.specs.Draft.{Written}
use Rattle.grounds_laws.specs.Classes.{State}
use Rattle.grounds_laws.specs.Rounds.{argued, congruence}
use Rattle.grounds_classes.specs.Settling.{united_by, apart_by, paired_by}
use Rattle.grounds_classes.specs.declared.keys.Two.{Two}

module _ (t : Two) where
  abbrev pub argued_in : ℕ → State → Written
  argued_in i s = argued s.cells s.table (args_in t.entries.keys.now t.x) (args_in t.entries.keys.now t.y) i

  abbrev pub congruence_in : State → Written
  congruence_in s = congruence s.cells s.table (args_in t.entries.keys.now t.x) (args_in t.entries.keys.now t.y) t.x t.y

  abbrev pub united_in : State → State
  united_in s = united_by t.entries.keys.now t.x t.y s

  abbrev pub apart_in : State → State
  apart_in s = apart_by t.entries.keys.now t.x t.y s

  abbrev pub paired_in : State → State
  paired_in s = paired_by t.entries.keys.now t.x t.y s
