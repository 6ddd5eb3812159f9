-- The pattern rows that have a variable in their terms, marked in a column, and the literals that reach a marked row.
--     mark_at                   the mark of a row by those of its arguments
--     Marked                   a mark for each row, and 0 past the last
--     reaches, none_reaches     a side of a literal that is asked is marked; of none of the literals
--     Named, NamedIn           literals that name pattern rows
-- Assumes nothing.
use Rattle.std.specs.Prelude.{Bool, true, false, not, ◌&&◌, ◌||◌, List, [], ◌∷◌, ◌≡◌, ℕ, ◌≤◌, eqb, length, get_or}
use Rattle.meaning.specs.Rules.{Literal}
use Rattle.meaning.specs.Formed.{left_of, right_of}
use Rattle.meaning.specs.Columns.{args_at}
use Rattle.meaning.specs.Values.{highest}
use Rattle.columns.specs.Fit.{Every, NamedAt}
use Rattle.columns.specs.declared.Literals.{Literals}
use Rattle.plan.specs.Reach.{idle}
use Rattle.plan.specs.Plans.{mark_of}

unfoldable pub mark_at : List ℕ → List ℕ → List ℕ → List ℕ → List ℕ → ℕ → ℕ → ℕ
mark_at shapes heads arities subs marks v i =
    elim (eqb (get_or shapes i 0) 4) [ true ↦ mark_of (eqb (get_or heads i 0) v) | false ↦ highest marks (args_at arities subs i) ]

pub record Marked (bs : List Bool) (marks : List ℕ) : Type 0 where
  pub long : length marks ≡ 64
  pub same : (p : ℕ) → get_or marks p 0 ≡ mark_of (get_or bs p false)

unfoldable pub reaches : List ℕ → Literal → Bool
reaches marks l = not (idle l) && (eqb (get_or marks (left_of l) 0) 1 || eqb (get_or marks (right_of l) 0) 1)

unfoldable pub none_reaches : List ℕ → List Literal → Bool
none_reaches marks [] = true
none_reaches marks (l ∷ ls) = not (reaches marks l) && none_reaches marks ls

pub record Named (firsts seconds : List ℕ) (literals : ℕ) : Type 0 where
  pub few : literals ≤ 16
  pub sides : Every literals (NamedAt firsts seconds 64)

abbrev pub NamedIn : Literals → Type 0
NamedIn l = Named l.lefts.now l.rights.now l.count
