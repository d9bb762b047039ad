-- `pour::pour` meets its contract: the loop's invariant: a bytes are replaced; a turn is `pouring_more`. Assumes nothing.
use mathlib.Core.Path.{◌≡◌}
use Prim.Native.Nat.{◌-◌, ◌≤◌}
use lib.ListN.{length}
use Rattle.base.specs.Bytes.{bytes}
use Rattle.pour.specs.Pouring.{Pouring}
use Rattle.pour.proofs.pour.Given as goal

abbrev pub invariant-loop-a : goal.invariant-loop-a
invariant-loop-a l = (l.a ≤ l.n) × (length l.cache ≡ 30720) × Pouring l.table.blocks l.table.counts (bytes l.initial.cache) (bytes l.cache) (bytes l.spots) l.offset (bytes l.src) l.n l.a

abbrev pub decreases-loop-a : goal.decreases-loop-a
decreases-loop-a l = l.n - l.a
