-- `bitmap::clear_bit` meets its contract: a block freed is its bit cleared (`freed_is`). Assumes nothing.
use Rattle.bitmap.specs.Bits.{freed_is}
use Rattle.bitmap.proofs.clear_bit.Goals as goal

pub returns : goal.returns
returns c = freed_is _ _ _ _ _ _ c.put_bit.ensures
