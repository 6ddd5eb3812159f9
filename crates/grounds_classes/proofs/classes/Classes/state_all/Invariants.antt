-- `grounds_classes::classes::Classes::state_all` meets its contract. The invariant: the first i equations are joined.
-- Assumes nothing.
use Rattle.runs.specs.Runs.{row_count}
use Rattle.grounds_numbers.specs.Pairs.{pairs_in}
use Rattle.grounds_laws.specs.Rounds.{state_one}
use Rattle.grounds_classes.proofs.Classing.{Through}
use Rattle.grounds_classes.proofs.classes.Classes.state_all.Given as goal

abbrev pub invariant-loop-i : goal.invariant-loop-i
invariant-loop-i l = Through (state_one (row_count l.entries.keys.now) (pairs_in l.pairs)) l.m l.initial.self l.self l.i
