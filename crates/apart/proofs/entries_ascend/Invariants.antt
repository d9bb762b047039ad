-- entries_ascend: the slots passed are at most the last, and distinct (Apart.Climbed); a turn is `climbed_entry`.
use Prim.Native.Nat.{◌+◌}
use Rattle.base.specs.Bytes.{bytes}
use Rattle.apart.specs.Apart.{slot_by, Climbed}
use Rattle.apart.proofs.entries_ascend.Given as goal

abbrev pub invariant-loop-k : goal.invariant-loop-k
invariant-loop-k l = Climbed (slot_by l.fn.f (bytes l.table)) (13 + l.k) l.last
