-- mark_slots: the memory is `marked` with the first p slots, each of which was fresh.
use Prim.Native.Nat.{ℕ, ◌<◌, ◌≤◌}
use mathlib.Core.Path.{◌≡◌}
use lib.ListN.{length}
use Rattle.base.specs.Bytes.{bytes}
use Rattle.reads.specs.Read.{shown}
use Rattle.rules.specs.Fit.{held}
use Rattle.blocks.specs.Marks.{marked}
use Rattle.blocks.proofs.mark_slots.Given as goal

abbrev pub invariant-loop-p : goal.invariant-loop-p
invariant-loop-p l = (l.p ≤ l.n) × (length l.work ≡ length l.initial.work) × (bytes l.work ≡ marked (bytes l.initial.work) (held (shown l.card) l.i) l.p) × ((q : ℕ) → q < l.p → marked (bytes l.initial.work) (held (shown l.card) l.i) q (held (shown l.card) l.i q) ≡ 0)
