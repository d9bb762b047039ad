-- The start of the search: none of the buffers passed has the block, or `any` is 1.
use Prim.Native.Nat.{◌≤◌}
use Rattle.bio.specs.Low.{Missed}
use Rattle.bio.proofs.Table.begin_at.Given as goal

abbrev pub invariant-loop-j : goal.invariant-loop-j
invariant-loop-j l = (l.j ≤ 24) × Missed l.self.blocks l.b l.j l.any
