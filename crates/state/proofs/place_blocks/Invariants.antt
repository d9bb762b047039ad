-- `state::place_blocks` meets its contract: the buffers passed have distinct blocks, and each remainder has a mark. Assumes nothing.
use mathlib.Core.Path.{◌≡◌}
use lib.ListN.{length}
use Rattle.base.specs.Bytes.{bytes}
use Rattle.state.specs.Marks.{Placed}
use Rattle.state.proofs.place_blocks.Given as goal

abbrev pub invariant-loop-j : goal.invariant-loop-j
invariant-loop-j l = Placed (bytes l.places) l.blocks l.j l.size × (length l.places ≡ 256)
