use Prim.Native.Nat.{◌*◌}
use Rattle.bio.specs.Memory.{memory}
use Rattle.vacant.specs.Search.{NoneBefore}
use Rattle.vacant.specs.Vacant.{may_take}
use Rattle.vacant.proofs.free_inode.Given as goal

abbrev pub invariant-loop-b : goal.invariant-loop-b
invariant-loop-b l = NoneBefore (may_take l.s (memory l.card)) l.s.ninodes (l.b * 16)
