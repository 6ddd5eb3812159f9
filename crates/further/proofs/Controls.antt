-- Closing further that stops too early, and marks, tried at small contexts.
--     no-one-merge     a and b become one, and f(a) and f(b) stay two: no closed table
--     no_own           nor are own numbers
--     some-busy        an argument's class and a side's are busy
--     no-busy          the class of a row that is neither is not
--     some-clash       but all are where the context contradicts itself
-- Assumes nothing.
use mathlib.Core.Bool.{true, false}
use mathlib.Core.List.{List, [], ◌∷◌}
use mathlib.Core.Path.{◌≡◌, refl}
use Prim.Native.Nat.{ℕ}
use native.Mathlib.Omega.{arith}
use Rattle.meaning.specs.Context.{Row, Context, differ, terms, grow, pick, term_at, equations_of, differences_of, differences}
use Rattle.meaning.specs.Equality.{Promise, EqualIn, given, symmetric, congruent, same_stop, same_more}
use Rattle.meaning.specs.Following.{with_equation, follows_by, among_by, argument_by, side_by, occurs_by}
use Rattle.meaning.specs.Closing.{count}
use Rattle.further.specs.Marks.{busy_by}

-- a, b, c, f(a) and f(b), of which the last two differ
abbrev pub rows : List Row
rows =
    record { symbol = 1; args = [] }
    ∷ record { symbol = 2; args = [] }
    ∷ record { symbol = 3; args = [] }
    ∷ record { symbol = 4; args = 0 ∷ [] }
    ∷ record { symbol = 4; args = 1 ∷ [] }
    ∷ []

abbrev pub deep : Context
deep = record { rows = rows; statements = differ 3 4 ∷ [] }

a-b : EqualIn (with_equation deep 0 1) (term_at rows 1) (term_at rows 0)
unfolding equations_of
a-b = symmetric (given (0, omega arith, refl, refl))

fa-fb : EqualIn (with_equation deep 0 1) (term_at rows 4) (term_at rows 3)
unfolding terms grow pick
fa-fb = congruent (same_more a-b same_stop)

pub no-one-merge : Promise (with_equation deep 0 1) 255 (0 ∷ 0 ∷ 2 ∷ 3 ∷ 4 ∷ count 250 5) → ⊥
no-one-merge p = omega (arith, (p.rows 4 (omega arith)).least 3 (omega arith) fa-fb)

pub no_own : Promise (with_equation deep 0 1) 255 (0 ∷ 1 ∷ 2 ∷ 3 ∷ 4 ∷ count 250 5) → ⊥
no_own p = omega (arith, (p.rows 1 (omega arith)).least 0 (omega arith) a-b)

abbrev own : ℕ → ℕ
own i = i

pub some-busy : (busy_by own rows (differences deep) 0 ≡ true) × (busy_by own rows (differences deep) 4 ≡ true)
unfolding busy_by follows_by occurs_by argument_by among_by side_by differences_of
some-busy = (refl, refl)

pub no-busy : busy_by own rows (differences deep) 2 ≡ false
unfolding busy_by follows_by occurs_by argument_by among_by side_by differences_of
no-busy = refl

pub some-clash : busy_by own rows ((0, 0) ∷ []) 2 ≡ true
unfolding busy_by follows_by occurs_by argument_by among_by side_by
some-clash = refl
