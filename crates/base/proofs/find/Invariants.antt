-- `base::find` meets its contract. The loop's invariant: no number passed is b; what is found is `first-at`, the end `first-none`. Assumes nothing.
use mathlib.Core.Path.{◌≡◌}
use mathlib.Core.Bool.{false}
use Prim.Native.Nat.{ℕ, ◌<◌, ◌≤◌}
use lib.ListN.{get_or}
use lib.Dec.{eqb}
use Rattle.base.proofs.find.Given as goal

abbrev pub invariant-loop-i : goal.invariant-loop-i
invariant-loop-i l = (l.i ≤ l.n) × ((k : ℕ) → k < l.i → eqb (get_or l.xs k 0) l.b ≡ false)
