-- `search::literal::all_pass` meets its contract.
-- Assumes nothing.
use mathlib.Core.Bool.{true}
use mathlib.Core.Path.{◌≡◌}
use lib.ListN.{get_or}
use Rattle.meaning.specs.Columns.{literal_of}
use Rattle.columns.specs.Lent.{context_in}
use Rattle.meaning.specs.Following.{differ_by}
use Rattle.differing.specs.Knowing.{Knows}
use Rattle.meaning.specs.Pruning.{due}
use Rattle.columns.specs.Fit.{Every}
use Rattle.search.specs.Testing.{passes_of}
use Rattle.search.proofs.literal.all_pass.Given as goal

abbrev pub invariant-loop-l : goal.invariant-loop-l
invariant-loop-l l =
    Knows (context_in l.classed.context) l.known
    × Every l.l (λ i. passes_of (differ_by (context_in l.classed.context)) (due l.level l.levels) l.values (literal_of (get_or l.literals.signs.now i 0) (get_or l.literals.lefts.now i 0) (get_or l.literals.rights.now i 0)) ≡ true)
