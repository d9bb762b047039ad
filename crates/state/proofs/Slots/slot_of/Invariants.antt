-- `state::Slots::slot_of` meets its contract: a search, by `first`. Assumes nothing.
use mathlib.Core.Path.{◌≡◌}
use mathlib.Core.Bool.{false}
use Prim.Native.Nat.{ℕ, ◌<◌}
use Rattle.state.specs.Slots.{uses}
use Rattle.state.proofs.Slots.slot_of.Given as goal

abbrev pub invariant-loop-k : goal.invariant-loop-k
invariant-loop-k l = (j : ℕ) → j < l.k → uses l.self.inums l.self.refs l.i j ≡ false
