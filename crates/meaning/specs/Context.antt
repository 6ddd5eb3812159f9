-- Ground terms, and contexts: rows, and statements that two rows are the same or differ.
--     Term, Terms             a symbol over arguments, whether a row stands for it or not
--     Row, term_at             a symbol with earlier rows as arguments; the term that a row stands for
--     Statement, Context      what a text states, in the text's order
--     equations, differences  the two kinds of statement, each in that order
-- Assumes nothing.
use Rattle.std.specs.Prelude.{List, [], ◌∷◌, ◌++◌, ℕ, get_or}

mutual
  pub data Term : Type 0 where
    node : ℕ → Terms → Term

  pub data Terms : Type 0 where
    stop : Terms
    more : Term → Terms → Terms

pub record Row : Type 0 where
  pub symbol : ℕ
  pub args : List ℕ

-- past the last row
abbrev pub row₀ : Row
row₀ = record { symbol = 0; args = [] }

abbrev pub term₀ : Term
term₀ = node 0 stop

abbrev pub row_at : List Row → ℕ → Row
row_at rows i = get_or rows i row₀

-- the terms at some rows
unfoldable pub pick : List Term → List ℕ → Terms
pick done [] = stop
pick done (a ∷ l) = more (get_or done a term₀) (pick done l)

-- a row's term is its symbol over the terms of the earlier rows that it names
unfoldable pub grow : List Term → List Row → List Term
grow done [] = done
grow done (r ∷ rs) = grow (done ++ (node r.symbol (pick done r.args) ∷ [])) rs

unfoldable pub terms : List Row → List Term
terms rows = grow [] rows

abbrev pub term_at : List Row → ℕ → Term
term_at rows i = get_or (terms rows) i term₀

pub data Statement : Type 0 where
  same differ : ℕ → ℕ → Statement

pub record Context : Type 0 where
  pub rows : List Row
  pub statements : List Statement

unfoldable pub equations_of : List Statement → List (ℕ × ℕ)
equations_of [] = []
equations_of (same p q ∷ l) = (p, q) ∷ equations_of l
equations_of (differ p q ∷ l) = equations_of l

unfoldable pub differences_of : List Statement → List (ℕ × ℕ)
differences_of [] = []
differences_of (same p q ∷ l) = differences_of l
differences_of (differ p q ∷ l) = (p, q) ∷ differences_of l

abbrev pub equations : Context → List (ℕ × ℕ)
equations c = equations_of c.statements

abbrev pub differences : Context → List (ℕ × ℕ)
differences c = differences_of c.statements

-- the rows of the k-th pair
abbrev pub left_at : List (ℕ × ℕ) → ℕ → ℕ
left_at pairs k = (get_or pairs k (0, 0)).0

abbrev pub right_at : List (ℕ × ℕ) → ℕ → ℕ
right_at pairs k = (get_or pairs k (0, 0)).1
