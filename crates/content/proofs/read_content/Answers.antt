-- `content::read_content` meets its contract. The loop's invariant: the first d bytes are in the buffer; a turn is `more`. Assumes nothing.
use native.Mathlib.Omega.{arith}
use mathlib.Core.Path.{refl, sym}
use Rattle.base.specs.Bytes.{put-none}
use Rattle.content.specs.Parts.{more}
use Rattle.content.proofs.read_content.Goals as goal

pub loop-d-init : goal.loop-d-init
loop-d-init c = (omega arith, refl, sym (put-none _ _ _))

pub loop-d-preserved : goal.loop-d-preserved
loop-d-preserved c = (omega (arith, c.read_part-d.ensures.count), omega (arith, c.loop-d.invariant.1, c.read_part-d.auto), more _ _ c.args.offset c.loop-d.d _ _ _ _ _ c.loop-d.invariant.2 c.read_part-d.ensures)
