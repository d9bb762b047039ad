-- follow_parent: the walk from where it stands is the walk asked for; Parents has a law for each turn. Each step takes a byte of the path.
use mathlib.Core.Path.{◌≡◌}
use Prim.Native.Nat.{◌-◌, ◌≤◌}
use lib.ListN.{length, drop}
use Rattle.inode.specs.Lent.{disk_by}
use Rattle.walk.specs.Step.{From}
use Rattle.walk.specs.Parents.{parent_of, parent_from}
use Rattle.walk.proofs.follow_parent.Given as goal

abbrev pub invariant-loop-name : goal.invariant-loop-name
invariant-loop-name l = (l.at ≤ length l.path) × From l.s l.i × (parent_from l.s (disk_by l.s l.card) l.i l.at (drop l.at l.path) ≡ parent_of l.s (disk_by l.s l.card) l.from l.path)

abbrev pub decreases-loop-name : goal.decreases-loop-name
decreases-loop-name l = length l.path - l.at
