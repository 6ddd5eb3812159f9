-- `grounds_classes::keys::Two::alike` meets its contract. The symbols differ, the numbers of arguments differ, or the labels decide.
-- Assumes nothing.
use mathlib.Core.Path.{sym, ◌∙◌}
use borrow.Author.Tests.{eqb-true, eqb-false}
use Rattle.grounds_classes.proofs.Rounding.{comparing, alike-counts}
use Rattle.grounds_classes.proofs.keys.Two.alike.Goals as goal
use Rattle.grounds_classes.proofs.keys.Two.alike.Goals.{then-symbol_in, else-symbol_in}

pub returns-then-count-count_in : goal.returns-then-count-count_in
returns-then-count-count_in c =
    elim c.if-symbol_in.branch [
      | then-symbol_in w ↦ search comparing
      | else-symbol_in w ↦ absurd (w.if-symbol_in.false (eqb-true c.symbol_in.result c.symbol_in-2.result (sym w.value-is ∙ c.if-count-count_in.true)))
    ]

pub returns-else-count-count_in : goal.returns-else-count-count_in
returns-else-count-count_in c =
    elim c.if-symbol_in.branch [
      | then-symbol_in w ↦
          let d = eqb-false c.count_in-count.result w.count_in.result (sym w.value-is ∙ c.if-count-count_in.false) in
          c.if-count-count_in.false ∙ alike-counts c.args.self c.args.table.now c.count_in-count.ensures w.count_in.ensures d
      | else-symbol_in w ↦ c.if-count-count_in.false ∙ search comparing
    ]
