-- `bitmap::skip` meets its contract: a turn is `skips_more`. Assumes nothing.
use mathlib.Core.Path.{◌≡◌}
use Prim.Native.Nat.{◌-◌, ◌%◌, ◌≤◌}
use Rattle.base.specs.Bytes.{bytes}
use Rattle.bitmap.specs.Search.{Skips}
use Rattle.bitmap.proofs.skip.Given as goal

abbrev pub invariant-loop-x : goal.invariant-loop-x
invariant-loop-x l = (l.x % 8 ≡ 0) × (l.x ≤ l.size) × Skips (bytes l.map) l.b l.x l.size

abbrev pub decreases-loop-x : goal.decreases-loop-x
decreases-loop-x l = l.size - l.x
