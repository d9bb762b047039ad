-- The search from the end of the order: none of the places passed names a buffer without references.
use mathlib.Core.Path.{◌≡◌}
use mathlib.Core.Bool.{false}
use Prim.Native.Nat.{ℕ, ◌≤◌, ◌<◌}
use Rattle.bio.specs.Order.{free_at}
use Rattle.bio.proofs.Table.least_recent.Given as goal

abbrev pub invariant-loop-k : goal.invariant-loop-k
invariant-loop-k l = (l.k ≤ 30) × ((i : ℕ) → i < l.k → free_at l.self.order l.self.counts i ≡ false)
