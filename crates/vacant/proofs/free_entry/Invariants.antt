use Prim.Native.Nat.{◌*◌, ◌/◌}
use Rattle.bio.specs.Memory.{memory}
use Rattle.vacant.specs.Search.{NoneBefore}
use Rattle.vacant.specs.Vacant.{empty_in}
use Rattle.vacant.proofs.free_entry.Given as goal

abbrev pub invariant-loop-b : goal.invariant-loop-b
invariant-loop-b l = NoneBefore (empty_in (memory l.card) l.f) (l.f.size / 16) (l.b * 64)
