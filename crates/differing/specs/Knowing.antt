-- What is known of pairs of classes, so that each is asked once.
--     mark_of     the mark of an answer: 1 for no, 2 for yes
--     Tells      a mark is 0, or of the answer; any other number tells nothing
--     Lends      where the columns are well-formed, the closing of the context that they say, and the marks of its busy classes
--     ClosedBy   well-formed columns with the closing and the marks
--     LendsIn, ClosedIn   the same of what is lent as one
--     Knows      the mark of classes n and m stands at place n * 255 + m, and tells whether they differ
-- Assumes nothing.
use Rattle.std.specs.Prelude.{Bool, true, false, List, ◌≡◌, ℕ, ◌+◌, ◌*◌, ◌<◌, length, get_or}
use Rattle.meaning.specs.Context.{Context}
use Rattle.meaning.specs.Equality.{Promise}
use Rattle.meaning.specs.Columns.{context_from}
use Rattle.columns.specs.Fit.{Laid, FitContext}
use Rattle.further.specs.Marks.{Marks}
use Rattle.meaning.specs.Following.{differ_by}
use Rattle.differing.specs.declared.Classed.{Classed}

abbrev pub mark_of : Bool → ℕ
mark_of false = 1
mark_of true = 2

pub record Tells (mark : ℕ) (b : Bool) : Type 0 where
  pub refuses : mark ≡ 1 → b ≡ false
  pub admits : mark ≡ 2 → b ≡ true

pub record Lends (symbols counts args : List ℕ) (rows : ℕ) (kinds lefts rights : List ℕ) (statements : ℕ) (closed busy : List ℕ) : Type 0 where
  pub closes : FitContext symbols counts args rows kinds lefts rights statements → Promise (context_from symbols counts args rows kinds lefts rights statements) 255 closed
  pub marks : FitContext symbols counts args rows kinds lefts rights statements → Marks (context_from symbols counts args rows kinds lefts rights statements) closed busy

pub record ClosedBy (symbols counts args : List ℕ) (rows : ℕ) (kinds lefts rights : List ℕ) (statements : ℕ) (closed busy : List ℕ) : Type 0 where
  pub fit : FitContext symbols counts args rows kinds lefts rights statements
  pub laid : Laid counts args rows
  pub closes : Promise (context_from symbols counts args rows kinds lefts rights statements) 255 closed
  pub marks : Marks (context_from symbols counts args rows kinds lefts rights statements) closed busy

pub record Knows (c : Context) (known : List ℕ) : Type 0 where
  pub long : length known ≡ 65025
  pub told : (n m : ℕ) → n < 255 → m < 255 → Tells (get_or known (n * 255 + m) 0) (differ_by c n m)

abbrev pub LendsIn : Classed → Type 0
LendsIn c =
    Lends c.context.terms.symbols.now c.context.terms.counts.now c.context.terms.args.now c.context.terms.rows c.context.statements.kinds.now
    c.context.statements.lefts.now c.context.statements.rights.now c.context.statements.count c.closed.now c.busy.now

abbrev pub ClosedIn : Classed → Type 0
ClosedIn c =
    ClosedBy c.context.terms.symbols.now c.context.terms.counts.now c.context.terms.args.now c.context.terms.rows c.context.statements.kinds.now
    c.context.statements.lefts.now c.context.statements.rights.now c.context.statements.count c.closed.now c.busy.now
