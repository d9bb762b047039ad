-- `plan::spots_of` meets its contract: the loop's invariant: the first t are found. Assumes nothing.
use mathlib.Core.Path.{◌≡◌}
use lib.ListN.{length}
use Rattle.base.specs.Bytes.{bytes}
use Rattle.bio.specs.Memory.{memory}
use Rattle.superblock.specs.Node.{node}
use Rattle.plan.specs.Spots.{SpotsAre}
use Rattle.plan.proofs.spots_of.Given as goal

abbrev pub invariant-loop-t : goal.invariant-loop-t
invariant-loop-t l = (length l.spots ≡ 5) × SpotsAre (memory l.card) (node l.f) l.p (bytes l.free) l.from l.t (bytes l.spots)
