-- `bitmap::search` meets its contract: the loop's invariant: the array has all the free blocks passed, in order; a turn is `sofar_in` or `sofar_out`, then `sofar_skip`. Assumes nothing.
use mathlib.Core.Path.{◌≡◌}
use Prim.Native.Nat.{◌-◌}
use lib.ListN.{length}
use Rattle.base.specs.Bytes.{bytes}
use Rattle.bitmap.specs.Search.{Sofar}
use Rattle.bitmap.proofs.search.Given as goal

abbrev pub invariant-loop-b : goal.invariant-loop-b
invariant-loop-b l = (length l.list ≡ 5) × Sofar l.s (bytes l.map) l.k l.b l.list l.found

abbrev pub decreases-loop-b : goal.decreases-loop-b
decreases-loop-b l = l.s.size - l.b
