-- `grounds_verdict::citing::Citing::meets` meets its contract. The term in the middle is read off the first step, and has to be there.
-- Assumes nothing.
use mathlib.Core.Path.{sym, ◌∙◌}
use native.Mathlib.Omega.{arith}
use borrow.Author.Tests.{ltb-true, ltb-false}
use Rattle.grounds_verdict.proofs.Ways.{mine, met-nowhere, met-first, met-both}
use Rattle.grounds_verdict.proofs.citing.Citing.meets.Goals as goal
use Rattle.grounds_verdict.proofs.citing.Citing.meets.Goals.{then-cites, else-cites}

pub returns-in_default : goal.returns-in_default
returns-in_default c = search mine

pub returns-then-middle-self : goal.returns-then-middle-self
returns-then-middle-self c =
    elim c.if-cites.branch [
      | then-cites w ↦
          met-both c.args.self.now.table.numbers.now c.args.self.now.table.rows (omega arith) c.args.self.now.steps.now c.args.self.now.limit c.args.self.now.owner c.args.x c.args.y c.args.l c.args.r
          c.in-Some.first c.sides_in.result c.right-middle.result c.in-Some.ensures (omega arith) c.sides_in.ensures c.right-middle.ensures c.cites.result c.cites.ensures
          c.cites-then-middle-self.result (ltb-true _ _ (sym w.value-is ∙ c.if-middle-self.true)) w.if-cites.true c.cites-then-middle-self.ensures
      | else-cites w ↦ cc
    ]

pub returns-else-middle-self : goal.returns-else-middle-self
returns-else-middle-self c =
    elim c.if-cites.branch [
      | then-cites w ↦
          c.if-middle-self.false
          ∙ met-nowhere c.args.self.now.table.numbers.now c.args.self.now.table.rows (omega arith) c.args.self.now.steps.now c.args.self.now.limit c.args.self.now.owner c.args.x c.args.y c.args.l c.args.r
          c.in-Some.first c.sides_in.result c.right-middle.result c.in-Some.ensures (omega arith) c.sides_in.ensures c.right-middle.ensures
          (ltb-false _ _ (sym w.value-is ∙ c.if-middle-self.false))
      | else-cites w ↦
          c.if-middle-self.false
          ∙ met-first c.args.self.now.table.numbers.now c.args.self.now.table.rows (omega arith) c.args.self.now.steps.now c.args.self.now.limit c.args.self.now.owner c.args.x c.args.y c.args.l c.args.r
          c.in-Some.first c.sides_in.result c.right-middle.result c.in-Some.ensures (omega arith) c.sides_in.ensures c.right-middle.ensures c.cites.result c.cites.ensures w.if-cites.false
    ]
