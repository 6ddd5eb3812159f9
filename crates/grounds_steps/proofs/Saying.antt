-- What the steps that are lent say, step by step.
--     steps-length, step-at    there are as many steps as are lent, and each by its words
-- Assumes nothing.
use mathlib.Core.List.{List, []}
use mathlib.Core.Path.{◌≡◌}
use Prim.Native.Nat.{ℕ, ◌<◌}
use lib.ListN.{length}
use Rattle.meaning.specs.Grounds.{step₀, step_at}
use Rattle.meaning.specs.GroundColumns.{step_from}
use Rattle.meaning.proofs.Entries.{length-map, map_at}
use Rattle.grounds_steps.specs.Steps.{word_in, step_of, steps_of}

pub steps-length : (steps : List (List ℕ)) → length (steps_of steps) ≡ length steps
unfolding steps_of
steps-length steps = length-map step_of steps

pub step-at : (steps : List (List ℕ)) (i : ℕ) → i < length steps → step_at (steps_of steps) i ≡ step_from (word_in steps i 0) (word_in steps i 1) (word_in steps i 2)
unfolding steps_of
step-at steps i h = map_at step_of steps i [] step₀ h
