-- Texts that are written: a frame a line, two digits a byte.
--     frame           the line of some bytes
--     context_text     the text of a context: its rows, then its statements
--     normal_of        the context that a normal text states
-- Assumes nothing.
use Rattle.std.specs.Prelude.{Bool, true, false, ◌&&◌, ◌||◌, List, [], ◌∷◌, ◌++◌, map, ℕ, zero, suc, ◌+◌, ◌/◌, ◌%◌, min, max, eqb, ltb, length}
use Rattle.meaning.specs.Context.{Row, Context, Statement, same, differ, differences}
use Rattle.meaning.specs.Text.{linefeed}

-- the digit of a value below 16
unfoldable pub digit_of : ℕ → ℕ
digit_of v = elim (ltb v 10) [ true ↦ 48 + v | false ↦ 55 + v ]

unfoldable pub hex : List ℕ → List ℕ
hex [] = []
hex (b ∷ l) = digit_of (b / 16) ∷ digit_of (b % 16) ∷ hex l

unfoldable pub frame : List ℕ → List ℕ
frame l = hex l ++ (linefeed ∷ [])

unfoldable pub rows_text : List Row → List ℕ
rows_text [] = []
rows_text (r ∷ rs) = frame (1 ∷ r.symbol / 256 ∷ r.symbol % 256 ∷ length r.args ∷ r.args) ++ rows_text rs

unfoldable pub statements_text : List Statement → List ℕ
statements_text [] = []
statements_text (same p q ∷ l) = frame (2 ∷ p ∷ q ∷ []) ++ statements_text l
statements_text (differ p q ∷ l) = frame (3 ∷ p ∷ q ∷ []) ++ statements_text l

unfoldable pub context_text : Context → List ℕ
context_text c = rows_text c.rows ++ statements_text c.statements

-- an equation (representative, row) for each of the n rows from row i on that is not its own representative
unfoldable pub joins : (ℕ → ℕ) → ℕ → ℕ → List Statement
joins rep i zero = []
joins rep i (suc n) =
    let l : List Statement = joins rep (suc i) n in
    elim (eqb (rep i) i) [ true ↦ l | false ↦ same (rep i) i ∷ l ]

-- into a list that is sorted by first then second, and nothing twice
unfoldable pub sooner : ℕ × ℕ → ℕ × ℕ → Bool
sooner p q = ltb p.0 q.0 || (eqb p.0 q.0 && ltb p.1 q.1)

unfoldable pub insert : ℕ × ℕ → List (ℕ × ℕ) → List (ℕ × ℕ)
insert p [] = p ∷ []
insert p (q ∷ l) =
    elim (sooner p q) [ true ↦ p ∷ q ∷ l | false ↦ elim (sooner q p) [ true ↦ q ∷ insert p l | false ↦ q ∷ l ] ]

unfoldable pub sorted : List (ℕ × ℕ) → List (ℕ × ℕ)
sorted [] = []
sorted (p ∷ l) = insert p (sorted l)

abbrev pub lower_first : (ℕ → ℕ) → ℕ × ℕ → ℕ × ℕ
lower_first rep p = (min (rep p.0) (rep p.1), max (rep p.0) (rep p.1))

-- the rows as given, the equations of the representatives, and the differences between representatives
unfoldable pub normal_of : (ℕ → ℕ) → Context → Context
normal_of rep c =
    record {
      rows = c.rows;
      statements = joins rep 0 (length c.rows) ++ map (λ p. differ p.0 p.1) (sorted (map (lower_first rep) (differences c)));
    }
