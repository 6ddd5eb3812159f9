-- `grounds_verdict::citing::Citing::congruent` meets its contract. Unlike symbols or unlike counts are not congruent; others are by their arguments.
-- Assumes nothing.
use mathlib.Core.Path.{sym, ◌∙◌}
use borrow.Author.Tests.{eqb-true, eqb-false}
use Rattle.grounds_verdict.proofs.Ways.{congruent-symbols, congruent-counts, congruent-args}
use Rattle.grounds_verdict.proofs.citing.Citing.congruent.Goals as goal
use Rattle.grounds_verdict.proofs.citing.Citing.congruent.Goals.{then-symbol_in, else-symbol_in}

pub returns-then-count-count_in : goal.returns-then-count-count_in
returns-then-count-count_in c =
    elim c.if-symbol_in.branch [
      | then-symbol_in w ↦
          congruent-args c.args.self.now.table.keys.now c.args.self.now.table.numbers.now c.args.self.now.table.rows c.args.self.now.steps.now c.args.self.now.limit c.args.self.now.owner c.args.l c.args.r
          c.args.self.now.table.keyed c.requires.l_in_bounds c.requires.r_in_bounds c.symbol_in.result c.symbol_in-2.result c.symbol_in.ensures c.symbol_in-2.ensures
          c.count_in-count.result w.count_in.result c.count_in-count.ensures w.count_in.ensures c.arguments.result w.if-symbol_in.true (eqb-true _ _ (sym w.value-is ∙ c.if-count-count_in.true))
          c.arguments.ensures
      | else-symbol_in w ↦ absurd (w.if-symbol_in.false (eqb-true _ _ (sym w.value-is ∙ c.if-count-count_in.true)))
    ]

pub returns-else-count-count_in : goal.returns-else-count-count_in
returns-else-count-count_in c =
    elim c.if-symbol_in.branch [
      | then-symbol_in w ↦
          c.if-count-count_in.false
          ∙ congruent-counts c.args.self.now.table.keys.now c.args.self.now.table.numbers.now c.args.self.now.table.rows c.args.self.now.steps.now c.args.self.now.limit c.args.self.now.owner c.args.l c.args.r
          c.args.self.now.table.keyed c.requires.l_in_bounds c.requires.r_in_bounds c.symbol_in.result c.symbol_in-2.result c.symbol_in.ensures c.symbol_in-2.ensures
          c.count_in-count.result w.count_in.result c.count_in-count.ensures w.count_in.ensures (eqb-false _ _ (sym w.value-is ∙ c.if-count-count_in.false))
      | else-symbol_in w ↦
          c.if-count-count_in.false
          ∙ congruent-symbols c.args.self.now.table.keys.now c.args.self.now.table.numbers.now c.args.self.now.table.rows c.args.self.now.steps.now c.args.self.now.limit c.args.self.now.owner c.args.l c.args.r
          c.args.self.now.table.keyed c.requires.l_in_bounds c.requires.r_in_bounds c.symbol_in.result c.symbol_in-2.result c.symbol_in.ensures c.symbol_in-2.ensures w.if-symbol_in.false
    ]
