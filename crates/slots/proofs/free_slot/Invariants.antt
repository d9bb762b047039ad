-- `slots::free_slot` meets its contract: every slot that was passed is in use. Assumes nothing.
use mathlib.Core.Path.{◌≡◌}
use mathlib.Core.Bool.{false}
use lib.ListN.{get_or}
use lib.Dec.{eqb}
use Prim.Native.Nat.{ℕ, ◌≤◌, ◌<◌}
use Rattle.slots.proofs.free_slot.Given as goal

abbrev pub invariant-loop-k : goal.invariant-loop-k
invariant-loop-k l = (l.k ≤ 50) × ((j : ℕ) → j < l.k → eqb (get_or l.slots.refs j 0) 0 ≡ false)
