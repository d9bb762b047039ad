-- follow: the walk from where it stands is the walk asked for; Walks has a law for each turn. Each step takes a byte of the path.
use mathlib.Core.Path.{◌≡◌}
use Prim.Native.Nat.{◌-◌, ◌≤◌}
use lib.ListN.{length, drop}
use Rattle.inode.specs.Lent.{disk_by}
use Rattle.walk.specs.Step.{From}
use Rattle.walk.specs.Walks.{walk_of}
use Rattle.walk.proofs.follow.Given as goal

abbrev pub invariant-loop-step : goal.invariant-loop-step
invariant-loop-step l = (l.at ≤ length l.path) × From l.s l.i × (walk_of l.s (disk_by l.s l.card) l.i (drop l.at l.path) ≡ walk_of l.s (disk_by l.s l.card) l.start l.path)

abbrev pub decreases-loop-step : goal.decreases-loop-step
decreases-loop-step l = length l.path - l.at
