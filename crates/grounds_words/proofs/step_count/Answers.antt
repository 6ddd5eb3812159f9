-- `grounds_words::step_count` meets its contract. Each number is of the type that is lent.
-- Assumes nothing.
use native.Mathlib.Omega.{arith}
use Prim.Native.Nat.{◌+◌, ◌*◌}
use Rattle.grounds_laws.specs.Limits.{draft_size}
use Rattle.grounds_words.proofs.step_count.Goals as goal

pub returns-clause-small : goal.returns-clause-small
returns-clause-small c = record { places = λ i h j l m. omega (arith, c.type_inv.cells (i * draft_size + j)) }
