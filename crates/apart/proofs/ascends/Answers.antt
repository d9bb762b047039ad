-- ascends: the addresses passed are at most the last, and distinct (Apart.Climbed); a turn is `climbed_direct`.
use mathlib.Core.Path.{refl}
use native.Mathlib.Omega.{arith}
use Rattle.apart.specs.Apart.{climbed_direct}
use Rattle.apart.proofs.ascends.Goals as goal

pub loop-p-preserved : goal.loop-p-preserved
loop-p-preserved c = climbed_direct _ _ _ _ _ c.loop-p.invariant (omega (arith, c.min-m.ensures, c.loop-p-test.true)) refl (omega (arith, c.if-b-last.false))
