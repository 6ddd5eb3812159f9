-- A text followed by grounds: how an input is taken apart.
--     text_of, ground_lines          the bytes before the first line that begins with the digits 08; the lines from there on
--     is_step, is_conclusion         a well-formed B0 line, 50 digits and a feed; a well-formed B1 line, 26 digits and a feed
--     places_in                     the assignment: four rows by the 08 line, 255 where it gives none
--     steps_in, conclusions_in       the three words of each later line that is no conclusion, 0 where the line is malformed; the conclusions
-- A line counts by whether it is digits alone with a feed behind them, how long it is, and the values of its digits. Assumes nothing.
use Rattle.std.specs.Prelude.{Bool, true, false, ◌&&◌, List, [], ◌∷◌, map, ℕ, ◌+◌, ◌*◌, ◌%◌, eqb, ltb, leb, length, get_or, drop, cond}
use Rattle.meaning.specs.Text.{Line, linefeed, lines_of, digit}
use Rattle.meaning.specs.Grounds.{Conclusion}
use Rattle.runs.specs.Limits.{unused_place}
use Rattle.grounds_steps.specs.Steps.{words_of}

-- ---- the text and the lines after it

-- the digits 0 and 8 come first
unfoldable pub begins : List ℕ → Bool
begins [] = false
begins (a ∷ []) = false
begins (a ∷ b ∷ l) = eqb a 48 && eqb b 56

-- the bytes up to a line that begins so, from a line's start or from inside a line
unfoldable pub text_part : Bool → List ℕ → List ℕ
text_part fresh [] = []
text_part fresh (b ∷ l) = cond (fresh && begins (b ∷ l)) [] (b ∷ text_part (eqb b linefeed) l)

abbrev pub text_of : List ℕ → List ℕ
text_of input = text_part true input

abbrev pub ground_lines : List ℕ → List Line
ground_lines input = lines_of (drop (length (text_of input)) input)

-- ---- a line

unfoldable pub all_digits : List ℕ → Bool
all_digits [] = true
all_digits (b ∷ l) = ltb (digit b) 16 && all_digits l

unfoldable pub good_line : Line → Bool
good_line l = l.ended && all_digits l.bytes

unfoldable pub digits_of : Line → List ℕ
digits_of l = map digit l.bytes

-- byte i of a line, from 0, by its digits' values; and two, four, eight bytes from i on, high byte first
unfoldable pub byte_of : List ℕ → ℕ → ℕ
byte_of vs i = (get_or vs (i * 2) 0 * 16 + get_or vs (i * 2 + 1) 0) % 256

unfoldable pub two_of : List ℕ → ℕ → ℕ
two_of vs i = byte_of vs i * 256 + byte_of vs (i + 1)

unfoldable pub four_of : List ℕ → ℕ → ℕ
four_of vs i = two_of vs i * 65536 + two_of vs (i + 2)

unfoldable pub eight_of : List ℕ → ℕ → ℕ
eight_of vs i = four_of vs i * 4294967296 + four_of vs (i + 4)

-- ---- the 08 line: a count of at most 4, and exactly that many rows
unfoldable pub assigns : Bool → ℕ → List ℕ → Bool
assigns good size vs = good && (leb (byte_of vs 1) 4 && eqb size (byte_of vs 1 * 2 + 4))

unfoldable pub place_of : Bool → ℕ → List ℕ → ℕ → ℕ
place_of good size vs i = cond (assigns good size vs && ltb i (byte_of vs 1)) (byte_of vs (i + 2)) unused_place

unfoldable pub places_of : Bool → ℕ → List ℕ → List ℕ
places_of good size vs = place_of good size vs 0 ∷ place_of good size vs 1 ∷ place_of good size vs 2 ∷ place_of good size vs 3 ∷ []

unfoldable pub places_in : List Line → List ℕ
places_in [] = unused_place ∷ unused_place ∷ unused_place ∷ unused_place ∷ []
places_in (l ∷ ls) = places_of (good_line l) (length l.bytes) (digits_of l)

-- ---- the later lines

unfoldable pub formed : ℕ → ℕ → Bool → ℕ → List ℕ → Bool
formed kind long good size vs = good && (eqb size long && eqb (byte_of vs 0) kind)

abbrev pub is_step : Bool → ℕ → List ℕ → Bool
is_step = formed 176 50

abbrev pub is_conclusion : Bool → ℕ → List ℕ → Bool
is_conclusion = formed 177 26

-- of a malformed line every word is 0, which is kind 00
unfoldable pub word_of : Bool → ℕ → List ℕ → ℕ → ℕ
word_of good size vs i = cond (is_step good size vs) (eight_of vs (i * 8 + 1)) 0

-- bytes 6 to 9 and 12 are not read
unfoldable pub conclusion_of : List ℕ → Conclusion
conclusion_of vs = record { literal = byte_of vs 1; first = four_of vs 2; difference = two_of vs 10 }

abbrev pub concludes : Line → Bool
concludes l = is_conclusion (good_line l) (length l.bytes) (digits_of l)

-- the three words of a step's line
abbrev pub step_words : Bool → ℕ → List ℕ → List ℕ
step_words good size vs = words_of (word_of good size vs 0) (word_of good size vs 1) (word_of good size vs 2)

unfoldable pub steps_in : List Line → List (List ℕ)
steps_in [] = []
steps_in (l ∷ ls) = cond (concludes l) (steps_in ls) (step_words (good_line l) (length l.bytes) (digits_of l) ∷ steps_in ls)

unfoldable pub conclusions_in : List Line → List Conclusion
conclusions_in [] = []
conclusions_in (l ∷ ls) = cond (concludes l) (conclusion_of (digits_of l) ∷ conclusions_in ls) (conclusions_in ls)
