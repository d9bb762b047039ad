-- `bitmap::put_u8_at` meets its contract: a store in the buffer is that change of what is seen (`byte_put`). Assumes nothing.
use Rattle.bitmap.specs.Bits.{byte_put}
use Rattle.bitmap.proofs.put_u8_at.Goals as goal

pub returns : goal.returns
returns c = byte_put _ _ _ _ _ _ _ c.requires c.buffer_of-j.ensures
