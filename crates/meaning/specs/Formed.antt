-- Well-formed contexts and clauses: what the reader takes is so, and what a closing or a search over columns may be handed and is not is said to be unfit.
--     Fit       arguments are earlier rows, and statements name rows
--     Formed    and pattern rows name earlier pattern rows, and literals pattern rows
-- Assumes nothing.
use Rattle.std.specs.Prelude.{List, [], ◌∷◌, ℕ, suc, ◌<◌, length}
use Rattle.meaning.specs.Context.{Row, row_at, Context, equations, differences, left_at, right_at}
use Rattle.meaning.specs.Rules.{Pattern, variable, apply, Literal, equal, unequal, Clause, Below}

abbrev pub Ordered : List Row → Type 0
Ordered rows = (i : ℕ) → i < length rows → Below i (row_at rows i).args

abbrev pub Within : ℕ → List (ℕ × ℕ) → Type 0
Within n pairs = (k : ℕ) → k < length pairs → (left_at pairs k < n) × (right_at pairs k < n)

pub record Fit (c : Context) : Type 0 where
  pub ordered : Ordered c.rows
  pub within : Within (length c.rows) (equations c)
  pub apart : Within (length c.rows) (differences c)

abbrev pub left_of : Literal → ℕ
left_of (equal p q) = p
left_of (unequal p q) = p

abbrev pub right_of : Literal → ℕ
right_of (equal p q) = q
right_of (unequal p q) = q

abbrev pub Placed : ℕ → Pattern → Type 0
Placed i (variable v) = Unit {0}
Placed i (apply f l) = Below i l

abbrev pub AllPlaced : ℕ → List Pattern → Type 0
AllPlaced i [] = Unit {0}
AllPlaced i (p ∷ ps) = Placed i p × AllPlaced (suc i) ps

abbrev pub Names : ℕ → Literal → Type 0
Names n l = (left_of l < n) × (right_of l < n)

abbrev pub NamesAll : ℕ → List Literal → Type 0
NamesAll n [] = Unit {0}
NamesAll n (l ∷ ls) = Names n l × NamesAll n ls

pub record Formed (c : Context) (k : Clause) : Type 0 where
  pub fit : Fit c
  pub placed : AllPlaced 0 k.patterns
  pub named : NamesAll (length k.patterns) k.literals
