-- `bitmap::take_block` meets its contract: zeros, then the bit (`taken_is`). Assumes nothing.
use Rattle.bitmap.specs.Bits.{taken_is}
use Rattle.bitmap.proofs.take_block.Goals as goal

pub returns : goal.returns
returns c = taken_is _ _ _ _ _ _ _ _ c.zero_block-zeros.ensures c.put_part_at.ensures c.set_bit.ensures
