-- The fields of the words stand where `meaning` reads them.
--     owner-there, kind-there, left_there, right_there    those of the first word
--     numbers-there                                       those of the other two
-- Assumes nothing.
use mathlib.Core.List.{[], ◌∷◌}
use mathlib.Core.Path.{◌≡◌, refl}
use Prim.Native.Nat.{ℕ, ◌/◌, ◌%◌}
use Rattle.meaning.specs.GroundColumns.{owner_of, kind_in, left_ref, right_ref, numbers_in}
use Rattle.grounds_steps.specs.Steps.{byte_values, row_values, number_values, right_mark, left_row, left_mark, kind_place, owner_place}

pub owner-there : (x : ℕ) → owner_of x ≡ x / owner_place
owner-there x = refl

pub kind-there : (x : ℕ) → kind_in x ≡ x / kind_place % byte_values
kind-there x = refl

pub left_there : (x : ℕ) → left_ref x ≡ record { mark = x / left_mark % byte_values; row = x / left_row % row_values }
left_there x = refl

pub right_there : (x : ℕ) → right_ref x ≡ record { mark = x / right_mark % byte_values; row = x % row_values }
right_there x = refl

pub numbers-there : (y z : ℕ) → numbers_in y z ≡ y / number_values ∷ y % number_values ∷ z / number_values ∷ z % number_values ∷ []
numbers-there y z = refl
