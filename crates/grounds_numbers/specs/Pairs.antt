-- The stated equations, or the stated differences, as a run of two numbers a pair. A run's length says how many it holds.
--     pair_count, first_in, second_in    how many a run holds, and the numbers of a pair
--     pairs_in                         what a run says
--     numbers_of                       the numbers of a statement's sides
--     kept_by, pairs_of                 whether a statement is asked for; the pairs of one kind
--     Held                            so many pairs stand at a run's start
-- Assumes nothing.
use Rattle.std.specs.Prelude.{Bool, true, false, not, List, [], ◌∷◌, ◌≡◌, ℕ, ◌+◌, ◌*◌, ◌/◌, ◌≤◌, eqb, length, get_or, take}
use Rattle.meaning.specs.Context.{Statement, equations_of, differences_of}
use Rattle.meaning.specs.Values.{number_at}
use Rattle.runs.specs.Runs.{each, left_in, right_in}
use Rattle.grounds_numbers.specs.Limits.{pair_size}

abbrev pub pair_count : List ℕ → ℕ
pair_count pairs = length pairs / pair_size

abbrev pub first_in : List ℕ → ℕ → ℕ
first_in pairs k = get_or pairs (k * pair_size) 0

abbrev pub second_in : List ℕ → ℕ → ℕ
second_in pairs k = get_or pairs (k * pair_size + 1) 0

abbrev pub pair_in : List ℕ → ℕ → ℕ × ℕ
pair_in pairs k = (first_in pairs k, second_in pairs k)

unfoldable pub pairs_in : List ℕ → List (ℕ × ℕ)
pairs_in pairs = each (pair_in pairs) (pair_count pairs)

abbrev pub numbers_of : List ℕ → List ℕ → ℕ → List ℕ
numbers_of ns said s = number_at ns (left_in said s) ∷ number_at ns (right_in said s) ∷ []

unfoldable pub kept_by : ℕ → Bool → Bool
kept_by kind true = eqb kind 2
kept_by kind false = not (eqb kind 2)

unfoldable pub pairs_of : Bool → List Statement → List (ℕ × ℕ)
pairs_of true l = equations_of l
pairs_of false l = differences_of l

pub record Held (pairs : List (ℕ × ℕ)) (run : List ℕ) (count : ℕ) : Type 0 where
  pub room : count * pair_size ≤ length run
  pub hold : pairs_in (take (count * pair_size) run) ≡ pairs
