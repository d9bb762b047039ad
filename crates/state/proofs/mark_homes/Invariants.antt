-- `state::mark_homes` meets its contract: the homes passed are good, and exactly their buffers are marked. Assumes nothing.
use mathlib.Core.Path.{◌≡◌}
use lib.ListN.{length}
use Rattle.base.specs.Bytes.{bytes}
use Rattle.state.specs.Marks.{Found, Marked}
use Rattle.state.proofs.mark_homes.Given as goal

abbrev pub invariant-loop-i : goal.invariant-loop-i
invariant-loop-i l = Found l.v.table.blocks l.v.table.counts l.v.homes l.i l.v.sb.inodestart l.v.sb.size × Marked (bytes l.marks) l.v.table.blocks l.v.homes l.i × (length l.marks ≡ 30)
