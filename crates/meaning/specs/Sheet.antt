-- The sheet of worked examples: texts with what the definitions say of them.
--     Example, Shown          a text with the finder's reply, with its normal text, with its rows' representatives, or with two rows that are equal
--     lullaby, chosen_twice    the texts of the first two cases
--     sheet                   the twelve cases of the rule paper
--     further                 cases that show what is easily got wrong
--     bytes_named              refused lines with the byte that the refusal names
-- Assumes nothing.
use Rattle.std.specs.Prelude.{List, [], ◌∷◌, ◌≡◌, ℕ, ◌<◌, length}
use Prim.Native.Char.{code}
use Prim.Native.String as S
use Rattle.meaning.specs.Context.{term_at}
use Rattle.meaning.specs.Equality.{EqualIn, Representatives, rep_at}
use Rattle.meaning.specs.Text.{narrow, Read, Refusal, rows_of, taken, read}
use Rattle.meaning.specs.Replies.{refusal, Reply, breach, none, refused, Replies, normal, Normalises}

-- the bytes of a quoted text whose characters are ASCII
unfoldable pub bytes : S.String → List ℕ
bytes S.[] = []
bytes (S.◌∷◌ c s) = code c ∷ bytes s

pub data Example : Type 0 where
  gets : S.String → Reply → Example
  normalises : S.String → S.String → Example
  represents : S.String → List ℕ → Example
  equates : S.String → ℕ → ℕ → Example

abbrev pub Shown : Example → Type 0
Shown (gets text r) = Replies narrow (bytes text) r
Shown (normalises text n) = Normalises narrow (bytes text) (normal (bytes n))
Shown (represents text l) =
    (s : Read) × (read narrow (bytes text) ≡ taken s) × (length l ≡ length (rows_of s)) × Representatives s.ledger.context (rep_at l)
Shown (equates text i j) =
    (s : Read)
    × (read narrow (bytes text) ≡ taken s)
    × (i < length (rows_of s))
    × (j < length (rows_of s))
    × EqualIn s.ledger.context (term_at (rows_of s) i) (term_at (rows_of s) j)

abbrev pub AllShown : List Example → Type 0
AllShown [] = Unit {0}
AllShown (e ∷ es) = Shown e × AllShown es

-- the texts of P1 and P2
abbrev pub lullaby : S.String
lullaby =
    "01001000\n01001100\n01001200\n01001300\n0100200100\n0100210100\n0100210101\n020401\n020503\n020602\n030203\n0400\n0401\n0500200100\n0500210100\n0500210101\n060201\n070304\n"

abbrev pub chosen_twice : S.String
chosen_twice =
    "01000100\n01000200\n01000300\n0101010102\n0101010100\n0101010101\n020300\n020401\n030405\n0400\n0401\n0501010100\n05000100\n0501010101\n05000200\n060203\n070405\n"

unfoldable pub sheet : List Example
sheet =
    -- P1: the lullaby, and its normal text
    gets lullaby (breach (0 ∷ 1 ∷ []))
    ∷ normalises
    lullaby
    "01001000\n01001100\n01001200\n01001300\n0100200100\n0100210100\n0100210101\n020104\n020305\n020206\n030203\n"
    -- P2: f(c) = a, f(a) = b, f(a) and f(b) differ; f(x) = a, f(y) unequal b
    ∷ gets chosen_twice (breach (2 ∷ 1 ∷ []))
    -- P3: P2 without the difference
    ∷ gets
    "01000100\n01000200\n01000300\n0101010102\n0101010100\n0101010101\n020300\n020401\n0400\n0401\n0501010100\n05000100\n0501010101\n05000200\n060203\n070405\n"
    none
    -- P4: one row a; f(x) = f(y)
    ∷ gets "01000100\n0400\n0401\n0501010100\n0501010101\n060203\n" (breach (0 ∷ 0 ∷ []))
    -- P5: rows a, b; f(x) = f(b)
    ∷ gets "01000100\n01000200\n0400\n05000200\n0501010100\n0501010101\n060203\n" (breach (1 ∷ []))
    -- P6: one row a, no difference; x unequal y
    ∷ gets "01000100\n0400\n0401\n070001\n" none
    -- P7: no rows; x = x, and a = a with no variable
    ∷ gets "0400\n060000\n" none
    ∷ gets "05000100\n060000\n" (breach [])
    -- P8: a and a differ; x = x
    ∷ gets "01000100\n030000\n0400\n060000\n" (refused (refusal 9 1))
    -- P9: f applied up to five times; row 3 = row 0, row 5 = row 0
    ∷ represents "01000100\n0101010100\n0101010101\n0101010102\n0101010103\n0101010104\n020300\n020500\n" (0 ∷ 0 ∷ 0 ∷ 0 ∷ 0 ∷ 0 ∷ [])
    -- P10: the constant a twice
    ∷ equates "01000100\n01000100\n" 0 1
    -- P11: g(f(a), h(b)) and g(f(b), h(a)) differ; x unequal a: they would be the same if a and b were
    ∷ gets
    "01000100\n01000200\n0101010100\n0101020101\n0101010101\n0101020100\n010201020203\n010201020405\n030607\n0400\n05000100\n070001\n"
    (breach (1 ∷ []))
    -- P12: one row a; x = f(x)
    ∷ gets "01000100\n0400\n0501010100\n060001\n" none
    ∷ []

unfoldable pub further : List Example
further =
    -- rows a, b that differ; x unequal y
    gets "01000100\n01000200\n030001\n0400\n0401\n070001\n" (breach (0 ∷ 1 ∷ []))
    -- a pattern row with a context row's symbol and another count
    ∷ gets "01000100\n0400\n0500010100\n060000\n" (refused (refusal 7 3))
    -- row a; x0, x1, f(x1), f(x0), f(x0); row 4 = row 3, row 2 = row 3
    ∷ gets "01000100\n0400\n0401\n0501010101\n0501010100\n0501010100\n060403\n060203\n" (breach (0 ∷ 0 ∷ []))
    -- f(f(a)) and f(f(b)) differ; x unequal b: two levels deep
    ∷ gets "01000100\n01000200\n0101010100\n0101010101\n0101010102\n0101010103\n030405\n0400\n05000200\n070001\n" (breach (0 ∷ []))
    -- g(a, b) and g(c, d) differ; a unequal c, b unequal d: the two equations together would make them the same, and neither does
    ∷ gets
    "01000100\n01000200\n01000300\n01000400\n010201020001\n010201020203\n030405\n05000100\n05000300\n05000200\n05000400\n070001\n070203\n"
    none
    -- a and b differ; x unequal f(x), which no row is equal to
    ∷ gets "01000100\n01000200\n030001\n0400\n0501010100\n070001\n" none
    ∷ []

-- a refusal with the line and the byte
abbrev pub fault : ℕ → ℕ → ℕ → Refusal
fault n p o = record { number = n; place = p; offset = o }

unfoldable pub bytes_named : List Example
bytes_named =
    -- a small letter; the same behind an odd number of digits, and without a line feed
    gets "01000100\n0a\n" (refused (fault 1 2 1))
    ∷ gets "01zz0\n" (refused (fault 1 1 2))
    -- digits alone: as many as there are
    ∷ gets "010\n" (refused (fault 1 1 3))
    ∷ gets "01000100" (refused (fault 1 1 8))
    ∷ gets "\n" (refused (fault 1 1 0))
    -- an argument of row 1 is not there: the first, the second, both
    ∷ gets "01000100\n010101020100\n" (refused (fault 6 2 8))
    ∷ gets "01000100\n010101020001\n" (refused (fault 6 2 10))
    ∷ gets "01000100\n010101020102\n" (refused (fault 6 2 8))
    -- a side of a pair is not there: the first, the second
    ∷ gets "01000100\n020100\n" (refused (fault 6 2 2))
    ∷ gets "0400\n060001\n" (refused (fault 6 2 4))
    -- any other number names the line's first byte
    ∷ gets "01000100\n0404\n" (refused (fault 5 2 0))
    ∷ []
