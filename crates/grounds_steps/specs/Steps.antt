-- The steps of grounds as they are lent, three words of 64 bits a step, and how many there may be.
--     step_of, steps_of           what the words of a step say, and those of several
--     word_in                    word k, 0 to 2, of step i
--     words_of                   the three words as a list
--     byte_values .. owner_place  the fields of the words: their values, and where they stand
--     most_each, most_steps       how many steps are shared, or one literal's, at the most; and how many there are in the whole
-- Assumes nothing.
use Rattle.std.specs.Prelude.{List, [], ◌∷◌, map, ℕ, ◌+◌, ◌*◌, get_or}
use Rattle.meaning.specs.Grounds.{Step}
use Rattle.meaning.specs.GroundColumns.{step_from}
use Rattle.runs.specs.Limits.{most_literals}

abbrev pub words_of : ℕ → ℕ → ℕ → List ℕ
words_of x y z = x ∷ y ∷ z ∷ []

abbrev pub word_in : List (List ℕ) → ℕ → ℕ → ℕ
word_in steps i k = get_or (get_or steps i []) k 0

abbrev pub step_of : List ℕ → Step
step_of words = step_from (get_or words 0 0) (get_or words 1 0) (get_or words 2 0)

unfoldable pub steps_of : List (List ℕ) → List Step
steps_of steps = map step_of steps

-- the fields of the words: how many values they have, and by what a word is divided to have one at its end
abbrev pub byte_values : ℕ
byte_values = 256

abbrev pub row_values : ℕ
row_values = byte_values * byte_values

abbrev pub number_values : ℕ
number_values = row_values * row_values

abbrev pub right_mark : ℕ
right_mark = row_values

abbrev pub left_row : ℕ
left_row = right_mark * byte_values

abbrev pub left_mark : ℕ
left_mark = left_row * row_values

abbrev pub kind_place : ℕ
kind_place = left_mark * byte_values

abbrev pub owner_place : ℕ
owner_place = kind_place * byte_values

abbrev pub most_each : ℕ
most_each = 16384

abbrev pub most_steps : ℕ
most_steps = (most_literals + 1) * most_each
