-- The way to closed classes, by the keys of all entries as a run, like rows.
--     Entered                       the entries have numbers of 16 bits, and at most four arguments
--     one_argument                   whether two arguments have one label
--     labels_of                      the labels of an entry's arguments
--     united_by, apart_by, paired_by   two entries joined by their arguments; where they are alike; where their labels differ
--     row_passed_by, passed_by         an entry and each before it; each two entries
--     rested_by                      passes till one writes no step
--     settled_by                     from no steps to closed classes
--     furthered_by                   the equation of two entries is added, and the classes closed again
-- Assumes nothing.
use Rattle.std.specs.Prelude.{Bool, List, map, ℕ, ◌≤◌, ◌<◌, get_or}
use Rattle.runs.specs.Limits.{arg_places}
use Rattle.runs.specs.Runs.{row_count, count_in as arg_count, args_in, rows_of}
use Rattle.grounds_numbers.specs.Limits.{most_numbers}
use Rattle.grounds_numbers.specs.Pairs.{pairs_in}
use Rattle.grounds_steps.specs.Steps.{most_each}
use Rattle.grounds_laws.specs.Classes.{label_in, State}
use Rattle.grounds_laws.specs.Rounds.{one_label, started, stated, united, paired_apart, paired, row_passed, passed, rounds}
use Rattle.grounds_laws.specs.Concluding.{furthered}

pub record Entered (keys : List ℕ) : Type 0 where
  pub numbers : row_count keys ≤ most_numbers
  pub few : (x : ℕ) → x < row_count keys → arg_count keys x ≤ arg_places

-- arguments k of two entries have one label
abbrev pub one_argument : List ℕ → List ℕ → ℕ → ℕ → ℕ → Bool
one_argument keys table x y k = one_label table (get_or (args_in keys x) k 0) (get_or (args_in keys y) k 0)

abbrev pub labels_of : List ℕ → List ℕ → ℕ → List ℕ
labels_of keys table x = map (label_in table) (args_in keys x)

module _ (keys : List ℕ) where
  abbrev pub united_by : ℕ → ℕ → State → State
  united_by x y state = united (row_count keys) (args_in keys x) (args_in keys y) x y state

  abbrev pub apart_by : ℕ → ℕ → State → State
  apart_by x y state = paired_apart (row_count keys) (rows_of keys) x y state

  abbrev pub paired_by : ℕ → ℕ → State → State
  paired_by x y state = paired (row_count keys) (rows_of keys) x y state

  abbrev pub row_passed_by : ℕ → State → State
  row_passed_by x state = row_passed (row_count keys) (rows_of keys) x state

  abbrev pub passed_by : State → State
  passed_by state = passed (row_count keys) (rows_of keys) state

  abbrev pub rested_by : State → State
  rested_by state = rounds (row_count keys) (rows_of keys) most_each state

  -- by the entries' numbers and the stated equations
  abbrev pub settled_by : List ℕ → List ℕ → State → State
  settled_by numbers pairs state = rested_by (stated (row_count keys) (pairs_in pairs) (started numbers (row_count keys) state))

  abbrev pub furthered_by : ℕ → ℕ → State → State
  furthered_by x y state = furthered (row_count keys) (rows_of keys) x y state
