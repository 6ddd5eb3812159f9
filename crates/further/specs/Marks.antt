-- What the marks of classes say, and what marking does to them.
--     busy_by           whether a class has an argument of some row or a side of some difference, or all do since the context contradicts itself
--     Marks, MarksOf   the marks of a context: 1 where the class is busy, and else 0; and those of any columns
--     MarksIn           those of a context that is lent
--     Raised, Argued   some marks become 1, and the others stay
--     sides_at          whether a class is that of a side of statement k, where it is a difference
-- Assumes nothing.
use Rattle.std.specs.Prelude.{Bool, true, false, not, ◌&&◌, ◌||◌, List, ◌≡◌, ℕ, ◌<◌, eqb, length, get_or, replicate}
use Rattle.meaning.specs.Context.{Row, Context, differences}
use Rattle.meaning.specs.Equality.{rep_at}
use Rattle.meaning.specs.Columns.{rows_from, context_from}
use Rattle.meaning.specs.Following.{follows_by, argument_by, occurs_by}
use Rattle.columns.specs.Fit.{FitContext}
use Rattle.columns.specs.declared.Context.{Context as Lent}

unfoldable pub busy_by : (ℕ → ℕ) → List Row → List (ℕ × ℕ) → ℕ → Bool
busy_by rep rows ds a = follows_by rep ds || occurs_by rep rows ds a

unfoldable pub raise : Bool → ℕ → ℕ
raise true v = 1
raise false v = v

pub record Marks (c : Context) (t marks : List ℕ) : Type 0 where
  pub long : length marks ≡ 255
  pub each : (k : ℕ) → k < 255 → get_or marks k 0 ≡ raise (busy_by (rep_at t) c.rows (differences c) k) 0

-- where the columns are not fit all classes are marked
pub record MarksOf (symbols counts args : List ℕ) (n : ℕ) (kinds lefts rights : List ℕ) (m : ℕ) (t marks : List ℕ) : Type 0 where
  pub fit : FitContext symbols counts args n kinds lefts rights m → Marks (context_from symbols counts args n kinds lefts rights m) t marks
  pub unfit : (FitContext symbols counts args n kinds lefts rights m → ⊥) → marks ≡ replicate 255 1

abbrev pub MarksIn : Lent → List ℕ → List ℕ → Type 0
MarksIn c =
    MarksOf c.terms.symbols.now c.terms.counts.now c.terms.args.now c.terms.rows c.statements.kinds.now c.statements.lefts.now c.statements.rights.now
    c.statements.count

pub record Raised (f : ℕ → Bool) (m m' : List ℕ) : Type 0 where
  pub long : length m' ≡ length m
  pub each : (k : ℕ) → k < 255 → get_or m' k 0 ≡ raise (f k) (get_or m k 0)

-- which symbols the rows have is no matter
pub record Argued (counts args : List ℕ) (n : ℕ) (t m m' : List ℕ) : Type 0 where
  pub so : (symbols : List ℕ) → Raised (argument_by (rep_at t) (rows_from symbols counts args n)) m m'

unfoldable pub sides_at : List ℕ → List ℕ → List ℕ → List ℕ → ℕ → ℕ → Bool
sides_at kinds lefts rights t k a = not (eqb (get_or kinds k 0) 2) && (eqb (rep_at t (get_or lefts k 0)) a || eqb (rep_at t (get_or rights k 0)) a)
