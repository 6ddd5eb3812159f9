-- A conclusion's line tried: the places that are not read may hold any digits, and no others may.
--     some-plain, some-unread    zeros there, and FF: one conclusion
--     no-letter                  another letter there: the line is no conclusion, but a bad step
-- Assumes nothing.
use mathlib.Core.List.{List, [], ◌∷◌}
use mathlib.Core.Path.{◌≡◌, refl}
use Rattle.meaning.specs.Text.{Line, lines_of, lines_from, digit}
use Rattle.meaning.specs.Sheet.{bytes}
use Rattle.meaning.specs.Grounds.{Conclusion}
use Rattle.grounds_steps.specs.Steps.{words_of}
use Rattle.grounds_intake.specs.Parsing.{all_digits, good_line, digits_of, byte_of, two_of, four_of, eight_of, formed, word_of, conclusion_of, steps_in, conclusions_in}

-- literal 2 by step 8 and difference 1
abbrev shown : List Conclusion
shown = record { literal = 2; first = 8; difference = 1 } ∷ []

pub some-plain : conclusions_in (lines_of (bytes "B1020000000800000000000100\n")) ≡ shown
unfolding bytes lines_of lines_from digit all_digits good_line digits_of byte_of two_of four_of formed conclusion_of conclusions_in
some-plain = refl

pub some-unread : conclusions_in (lines_of (bytes "B10200000008FFFFFFFF0001FF\n")) ≡ shown
unfolding bytes lines_of lines_from digit all_digits good_line digits_of byte_of two_of four_of formed conclusion_of conclusions_in
some-unread = refl

abbrev lettered : List Line
lettered = lines_of (bytes "B10200000008FFFFFFFF0001FG\n")

pub no-letter : (conclusions_in lettered ≡ []) × (steps_in lettered ≡ words_of 0 0 0 ∷ [])
unfolding bytes lines_of lines_from digit all_digits good_line digits_of byte_of two_of four_of eight_of formed word_of conclusion_of steps_in conclusions_in
no-letter = (refl, refl)
