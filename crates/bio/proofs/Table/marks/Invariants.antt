-- The bits of the buffers that the order's places passed name.
use Prim.Native.Nat.{◌≤◌}
use Rattle.bio.specs.Mask.{Marks}
use Rattle.bio.proofs.Table.marks.Given as goal

abbrev pub invariant-loop-i : goal.invariant-loop-i
invariant-loop-i l = (l.i ≤ 30) × Marks l.m l.self.order l.i
