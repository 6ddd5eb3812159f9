use native.Mathlib.Omega.{arith}
use Rattle.classes.proofs.Nearing.{place-inside}
use Rattle.classes.proofs.wake.Waking.wake.Goals as goal

pub note-requires : goal.note-requires
note-requires c = omega (arith, place-inside c.loop.invariant c.in-Some.is)

pub carry-at-requires : goal.carry-at-requires
carry-at-requires c = place-inside c.loop.invariant c.in-Some.is
