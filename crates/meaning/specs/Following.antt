-- Whether two rows differ is told by a table of representatives of the context with one equation more.
--     with_equation   a context that states the equation of two rows too
--     follows_by      whether some stated difference has one representative
--     occurs_by       whether a class has an argument of some row or a side of some difference
--     differ_by        whether two numbers differ: rows, by a closing with their equation; a number that is no row differs from nothing
-- Assumes nothing.
use Rattle.std.specs.Prelude.{Bool, false, ◌&&◌, ◌||◌, List, [], ◌∷◌, ℕ, eqb, ltb, length}
use Rattle.meaning.specs.Context.{Row, same, Context, equations, differences}
use Rattle.meaning.specs.Equality.{rep_at}
use Rattle.meaning.specs.Closing.{close}

abbrev pub with_equation : Context → ℕ → ℕ → Context
with_equation c i j = record { rows = c.rows; statements = same i j ∷ c.statements }

-- ---- what a table of representatives tells, whatever the table is

unfoldable pub follows_by : (ℕ → ℕ) → List (ℕ × ℕ) → Bool
follows_by rep [] = false
follows_by rep (d ∷ ds) = eqb (rep d.0) (rep d.1) || follows_by rep ds

unfoldable pub among_by : (ℕ → ℕ) → List ℕ → ℕ → Bool
among_by rep [] a = false
among_by rep (x ∷ l) a = eqb (rep x) a || among_by rep l a

unfoldable pub argument_by : (ℕ → ℕ) → List Row → ℕ → Bool
argument_by rep [] a = false
argument_by rep (r ∷ rs) a = among_by rep r.args a || argument_by rep rs a

unfoldable pub side_by : (ℕ → ℕ) → List (ℕ × ℕ) → ℕ → Bool
side_by rep [] a = false
side_by rep (d ∷ ds) a = (eqb (rep d.0) a || eqb (rep d.1) a) || side_by rep ds a

unfoldable pub occurs_by : (ℕ → ℕ) → List Row → List (ℕ × ℕ) → ℕ → Bool
occurs_by rep rows ds a = argument_by rep rows a || side_by rep ds a

-- ---- the test of two numbers

unfoldable pub differ_by : Context → ℕ → ℕ → Bool
differ_by c n m =
    (ltb n (length c.rows) && ltb m (length c.rows)) && follows_by (rep_at (close c.rows ((n, m) ∷ equations c))) (differences c)
