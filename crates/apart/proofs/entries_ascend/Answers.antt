-- entries_ascend: the slots passed are at most the last, and distinct (Apart.Climbed); a turn is `climbed_entry`.
use native.Mathlib.Omega.{arith}
use Rattle.apart.specs.Apart.{climbed_entry}
use Rattle.apart.proofs.entries_ascend.Goals as goal

pub loop-k-preserved : goal.loop-k-preserved
loop-k-preserved c = climbed_entry _ _ _ _ _ c.loop-k.invariant c.read_u32-b.ensures (omega (arith, c.if-b-last.false))
