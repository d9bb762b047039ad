-- mark_all: the memory is `marked_all` with the inodes below i.
use Prim.Native.Nat.{ℕ, ◌<◌, ◌≤◌}
use mathlib.Core.Path.{◌≡◌}
use lib.ListN.{length}
use Rattle.base.specs.Bytes.{bytes}
use Rattle.reads.specs.Read.{shown}
use Rattle.rules.specs.Fit.{held, count}
use Rattle.blocks.specs.Marks.{marked_all, Fresh}
use Rattle.blocks.proofs.mark_all.Given as goal

abbrev pub invariant-loop-i : goal.invariant-loop-i
invariant-loop-i l = (l.i ≤ l.card.sb.ninodes) × (length l.work ≡ length l.initial.work) × (bytes l.work ≡ marked_all (bytes l.initial.work) (shown l.card) l.i) × ((q : ℕ) → q < l.i → Fresh (marked_all (bytes l.initial.work) (shown l.card) q) (held (shown l.card) q) (count (shown l.card) q))
