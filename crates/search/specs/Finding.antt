-- What `find_in` and `next_in` answer.
--     found_by, later_by    the first breach by a table, and the first after an assignment; what differs does so in the wider sense, whatever the table
--     unfit_reply          the answer to columns that are not well-formed
--     FindsIn, NextIn     the answers to any columns and any table, and any assignment
--     FindsFor, NextFor   the same of a context and a rule that are lent
--     next_of              the assignment of n rows that comes next after one
--     Futile              whether there can be no breach, by p unequal p
-- Assumes nothing.
-- terms outside the table have the numbers from 65,536 on, above every entry of a table
use Rattle.std.specs.Prelude.{Bool, true, List, [], ◌∷◌, ◌≡◌, ℕ, ◌+◌, ◌-◌, ◌<◌, get_or, set}
use Rattle.meaning.specs.Context.{Context}
use Rattle.meaning.specs.Equality.{rep_at}
use Rattle.meaning.specs.Rules.{Clause, Found}
use Rattle.meaning.specs.ByTable.{clear, clash_of}
use Rattle.meaning.specs.Columns.{context_from, clause_from}
use Rattle.meaning.specs.Following.{differ_by}
use Rattle.meaning.specs.FirstBy.{first_by}
use Rattle.columns.specs.Fit.{FitContext, FitClause}
use Rattle.columns.specs.declared.Context.{Context as Lent}
use Rattle.columns.specs.declared.Rule.{Rule}
use Rattle.search.specs.declared.Kind.TheVariants.{Unfit}
use Rattle.search.specs.declared.Reply.{Reply}
use Rattle.meaning.specs.Next.{next_by}
use Rattle.search.specs.Hunting.{answer_of}

abbrev pub found_by : Context → List ℕ → Clause → Found
found_by c table k = first_by (differ_by c) c.rows (rep_at table) 65536 k

abbrev pub later_by : Context → List ℕ → Clause → List ℕ → Found
later_by c table k after = next_by (differ_by c) c.rows (rep_at table) 65536 k after

abbrev pub unfit_reply : Reply
unfit_reply = record { kind = Unfit; places = 255 ∷ 255 ∷ 255 ∷ 255 ∷ [] }

unfoldable pub next_of : ℕ → List ℕ → List ℕ
next_of n after = set after (n - 1) (get_or after (n - 1) 0 + 1)

-- a table of two-byte entries; and where the answer is true, some literal is p unequal p and no stated difference has one representative by the closing
pub record Futile (never : Bool) (rep own : ℕ → ℕ) (ds : List (ℕ × ℕ)) (b : Bool) : Type 0 where
  pub low : (i : ℕ) → rep i < 65536
  pub none : b ≡ true → (never ≡ true) × (clash_of own ds ≡ clear)

pub data FindsIn (symbols counts args : List ℕ) (rows : ℕ) (kinds lefts rights : List ℕ) (statements : ℕ) (table shapes heads arities subs : List ℕ) (patterns : ℕ)
    (signs firsts seconds : List ℕ) (literals : ℕ) : Reply → Type 0 where
  fits : FitContext symbols counts args rows kinds lefts rights statements → FitClause shapes heads arities subs patterns signs firsts seconds literals
      → FindsIn symbols counts args rows kinds lefts rights statements table shapes heads arities subs patterns signs firsts seconds literals
      (answer_of (found_by (context_from symbols counts args rows kinds lefts rights statements) table (clause_from shapes heads arities subs patterns signs firsts seconds literals)))
  unfits : (FitContext symbols counts args rows kinds lefts rights statements → FitClause shapes heads arities subs patterns signs firsts seconds literals → ⊥)
      → FindsIn symbols counts args rows kinds lefts rights statements table shapes heads arities subs patterns signs firsts seconds literals unfit_reply

pub data NextIn (symbols counts args : List ℕ) (rows : ℕ) (kinds lefts rights : List ℕ) (statements : ℕ) (table shapes heads arities subs : List ℕ) (patterns : ℕ)
    (signs firsts seconds : List ℕ) (literals : ℕ) (after : List ℕ) : Reply → Type 0 where
  next_fits : FitContext symbols counts args rows kinds lefts rights statements → FitClause shapes heads arities subs patterns signs firsts seconds literals
      → NextIn symbols counts args rows kinds lefts rights statements table shapes heads arities subs patterns signs firsts seconds literals after
      (answer_of (later_by (context_from symbols counts args rows kinds lefts rights statements) table (clause_from shapes heads arities subs patterns signs firsts seconds literals) after))
  next-unfits : (FitContext symbols counts args rows kinds lefts rights statements → FitClause shapes heads arities subs patterns signs firsts seconds literals → ⊥)
      → NextIn symbols counts args rows kinds lefts rights statements table shapes heads arities subs patterns signs firsts seconds literals after unfit_reply

abbrev pub FindsFor : Lent → List ℕ → Rule → Reply → Type 0
FindsFor c table r =
    FindsIn c.terms.symbols.now c.terms.counts.now c.terms.args.now c.terms.rows c.statements.kinds.now c.statements.lefts.now c.statements.rights.now
    c.statements.count table r.patterns.kinds.now r.patterns.heads.now r.patterns.counts.now r.patterns.args.now r.patterns.rows r.literals.signs.now
    r.literals.lefts.now r.literals.rights.now r.literals.count

abbrev pub NextFor : Lent → List ℕ → Rule → List ℕ → Reply → Type 0
NextFor c table r =
    NextIn c.terms.symbols.now c.terms.counts.now c.terms.args.now c.terms.rows c.statements.kinds.now c.statements.lefts.now c.statements.rights.now
    c.statements.count table r.patterns.kinds.now r.patterns.heads.now r.patterns.counts.now r.patterns.args.now r.patterns.rows r.literals.signs.now
    r.literals.lefts.now r.literals.rights.now r.literals.count
