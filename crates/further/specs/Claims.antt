-- What closing further claims of its answer.
--     Orderly, Startable     a table, and two rows, from which one can close further
--     standing, standing_in   what a table says, as statements: each row is the same as its representative
--     FitRows                rows alone that are well-formed
--     FitsRows, ClosesFrom, ClashesIn   the same of rows, or of a context, that are lent
--     Underway, Settled      passes over the rows, from a table on
--     Furthers, ClosesWith   the answer and the table of closing further, by cases
--     ClashesWith            what the test of two rows says
-- Assumes nothing.
use Rattle.std.specs.Prelude.{Bool, List, [], ◌∷◌, ◌≡◌, ℕ, zero, suc, ◌≤◌, ◌<◌, length}
use Rattle.meaning.specs.Context.{Row, Statement, same, Context}
use Rattle.columns.specs.declared.Terms.{Terms}
use Rattle.columns.specs.declared.Context.{Context as Lent}
use Rattle.meaning.specs.Equality.{rep_at, Promise}
use Rattle.meaning.specs.Formed.{Ordered}
use Rattle.meaning.specs.Columns.{rows_from, context_from}
use Rattle.meaning.specs.Following.{with_equation, differ_by}
use Rattle.columns.specs.Fit.{Every, FitContext}
use Rattle.closing.specs.declared.Answer.{Answer}
use Rattle.closing.specs.declared.Answer.TheVariants.{Closed, Unfit}
use Rattle.closing.specs.declared.Classes.{Classes}
use Rattle.closing.specs.Steps.{Laid, Kept, Grown, Alike}
use Rattle.further.specs.Marks.{Marks}

-- place i holds a place that is no later and holds its own number, and its own number where it is no row's
pub record OrderlyAt (n : ℕ) (t : List ℕ) (i : ℕ) : Type 0 where
  pub low : rep_at t i ≤ i
  pub settled : rep_at t (rep_at t i) ≡ rep_at t i
  pub other : n ≤ i → rep_at t i ≡ i

pub record Orderly (n : ℕ) (t : List ℕ) : Type 0 where
  pub long : length t ≡ 255
  pub places : Every 255 (OrderlyAt n t)

pub record Startable (n : ℕ) (t : List ℕ) (x y : ℕ) : Type 0 where
  pub first : x < n
  pub second : y < n
  pub table : Orderly n t

unfoldable pub standing : List ℕ → ℕ → List Statement
standing t zero = []
standing t (suc n) = same n (rep_at t n) ∷ standing t n

abbrev pub standing_in : List Row → List ℕ → Context
standing_in rows t = record { rows = rows; statements = standing t (length rows) }

pub record FitRows (symbols counts args : List ℕ) (n : ℕ) : Type 0 where
  pub laid : Laid counts args n
  pub ordered : Ordered (rows_from symbols counts args n)

-- ---- passes over the rows, from a table on

-- by some equations the table is what one has on the way
pub record Underway (rows : List Row) (l : List ℕ) : Type 0 where
  pub eqs : List (ℕ × ℕ)
  pub kept : Kept rows eqs l

-- from l to m, by whatever equations, and each two rows that agree have one representative
pub record Settled (rows : List Row) (l m : List ℕ) : Type 0 where
  pub keeps : (eqs : List (ℕ × ℕ)) → Kept rows eqs l → Kept rows eqs m
  pub grown : Grown l m
  pub alike : Alike rows (length rows) m

-- ---- the answer

-- the closed table of what the table says and the equation; and where the table is the context's, that of the context with the equation
pub record Further (c : Context) (t : List ℕ) (x y : ℕ) (u : List ℕ) : Type 0 where
  pub stands : Promise (with_equation (standing_in c.rows t) x y) 255 u
  pub adds : Promise c 255 t → Promise (with_equation c x y) 255 u

abbrev pub Furthers : List ℕ → List ℕ → List ℕ → ℕ → List ℕ → List ℕ → List ℕ → ℕ → List ℕ → ℕ → ℕ → Answer → List ℕ → Type 0
Furthers symbols counts args n kinds lefts rights m t x y Closed u =
    FitContext symbols counts args n kinds lefts rights m
    × Startable n t x y
    × Further (context_from symbols counts args n kinds lefts rights m) t x y u
Furthers symbols counts args n kinds lefts rights m t x y Unfit u =
    (FitContext symbols counts args n kinds lefts rights m → Startable n t x y → ⊥) × (u ≡ t)

pub record ClosesWith (symbols counts args : List ℕ) (n : ℕ) (kinds lefts rights : List ℕ) (m : ℕ) (t : List ℕ) (x y : ℕ) (r : Classes) : Type 0 where
  pub so : Furthers symbols counts args n kinds lefts rights m t x y r.answer r.table

-- from a context's table and marks, whether the equation of rows x and y would make the sides of some stated difference equal
pub record ClashesWith (symbols counts args : List ℕ) (n : ℕ) (kinds lefts rights : List ℕ) (m : ℕ) (t busy : List ℕ) (x y : ℕ) (r : Bool) : Type 0 where
  pub wider : FitContext symbols counts args n kinds lefts rights m → Promise (context_from symbols counts args n kinds lefts rights m) 255 t
      → Marks (context_from symbols counts args n kinds lefts rights m) t busy → r ≡ differ_by (context_from symbols counts args n kinds lefts rights m) x y

abbrev pub FitsRows : Terms → Type 0
FitsRows t = FitRows t.symbols.now t.counts.now t.args.now t.rows

abbrev pub ClosesFrom : Lent → List ℕ → ℕ → ℕ → Classes → Type 0
ClosesFrom c =
    ClosesWith c.terms.symbols.now c.terms.counts.now c.terms.args.now c.terms.rows c.statements.kinds.now c.statements.lefts.now c.statements.rights.now
    c.statements.count

abbrev pub ClashesIn : Lent → List ℕ → List ℕ → ℕ → ℕ → Bool → Type 0
ClashesIn c =
    ClashesWith c.terms.symbols.now c.terms.counts.now c.terms.args.now c.terms.rows c.statements.kinds.now c.statements.lefts.now c.statements.rights.now
    c.statements.count
