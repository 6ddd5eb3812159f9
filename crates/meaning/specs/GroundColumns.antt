-- Steps and conclusions as they are lent: a step is three words of 64 bits, a conclusion a place for each of its fields.
--     left_ref, right_ref, owner_of, kind_in, numbers_in   the fields in the words, high byte first: owner (1), kind (1), left (3), right (3); four numbers of 4 bytes
--     step_from                                        the step that three words say
--     conclusions_from                                 a place for each literal; an absent conclusion cites step 0
-- Assumes nothing.
use Rattle.std.specs.Prelude.{List, [], ◌∷◌, ◌++◌, ℕ, zero, suc, ◌/◌, ◌%◌, get_or}
use Rattle.meaning.specs.Grounds.{Ref, Step, Conclusion}

abbrev pub owner_of : ℕ → ℕ
owner_of x = x / 72057594037927936

abbrev pub kind_in : ℕ → ℕ
kind_in x = x / 281474976710656 % 256

abbrev pub left_ref : ℕ → Ref
left_ref x = record { mark = x / 1099511627776 % 256; row = x / 16777216 % 65536 }

abbrev pub right_ref : ℕ → Ref
right_ref x = record { mark = x / 65536 % 256; row = x % 65536 }

abbrev pub numbers_in : ℕ → ℕ → List ℕ
numbers_in y z = y / 4294967296 ∷ y % 4294967296 ∷ z / 4294967296 ∷ z % 4294967296 ∷ []

unfoldable pub step_from : ℕ → ℕ → ℕ → Step
step_from x y z = record { owner = owner_of x; kind = kind_in x; left = left_ref x; right = right_ref x; numbers = numbers_in y z }

unfoldable pub conclusion_from : List ℕ → List ℕ → ℕ → Conclusion
conclusion_from firsts differences i = record { literal = suc i; first = get_or firsts i 0; difference = get_or differences i 0 }

-- for the first n literals
unfoldable pub conclusions_from : List ℕ → List ℕ → ℕ → List Conclusion
conclusions_from firsts differences zero = []
conclusions_from firsts differences (suc n) = conclusions_from firsts differences n ++ (conclusion_from firsts differences n ∷ [])
