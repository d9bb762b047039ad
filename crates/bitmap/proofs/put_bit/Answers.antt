-- `bitmap::put_bit` meets its contract: the byte with the bit changed is put back (`bit_stored`). Assumes nothing.
use mathlib.Core.Path.{◌∙◌}
use Rattle.bitmap.specs.Bits.{bit_stored}
use Rattle.bitmap.proofs.put_bit.Goals as goal
use Rattle.bitmap.proofs.put_bit.Goals.{then-used, else-used}

pub returns : goal.returns
returns c = elim c.if-used.branch [
  | then-used w ↦ rw w.if-used.true (bit_stored _ _ _ c.args.s c.args.b _ c.requires c.buffer_of-j.ensures 1 _ (w.cache-is ∙ w.bit_set.ensures))
  | else-used w ↦ rw w.if-used.false (bit_stored _ _ _ c.args.s c.args.b _ c.requires c.buffer_of-j.ensures 0 _ (w.cache-is ∙ w.bit_clear.ensures))
]
