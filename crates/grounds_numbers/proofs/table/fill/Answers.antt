use native.Mathlib.Omega.{arith}
use Prim.Native.Nat.{◌+◌, ◌<◌}
use Rattle.runs.specs.Runs.{row_count, pattern_count}
use Rattle.grounds_numbers.specs.Entries.{entries_of, Filled}
use Rattle.grounds_numbers.proofs.Extending.{mine, extend-keyed, extend-done}
use Rattle.grounds_numbers.proofs.table.fill.Goals as goal

pub loop-e-init : goal.loop-e-init
loop-e-init c = search mine

pub number-requires-clause-keyed : goal.number-requires-clause-keyed
number-requires-clause-keyed c =
    let inside : c.loop-e.e < row_count c.args.rows.now + pattern_count c.args.patterns.now = omega arith in
    extend-keyed c.args.rows.now c.args.patterns.now c.args.asg c.requires.fillable c.loop-e.keys c.loop-e.numbers c.loop-e.e c.loop-e.invariant.filled inside
    c.entry_key.result.symbol c.entry_key.result.count c.entry_key.result.places c.entry_key.ensures c.put_key.new.keys c.put_key.ensures

pub loop-e-preserved : goal.loop-e-preserved
loop-e-preserved c =
    let inside : c.loop-e.e < row_count c.args.rows.now + pattern_count c.args.patterns.now = omega arith in
    let more : Filled (entries_of c.args.rows.now c.args.asg c.args.patterns.now) c.put_key.new.keys c.number.new.numbers (c.loop-e.e + 1) =
    extend-done c.args.rows.now c.args.patterns.now c.args.asg c.requires.fillable c.loop-e.keys c.loop-e.numbers c.loop-e.e c.loop-e.invariant.filled inside
    c.entry_key.result.symbol c.entry_key.result.count c.entry_key.result.places c.entry_key.ensures c.put_key.new.keys c.put_key.ensures c.number.new.numbers c.number.ensures in
    search mine
