-- `bitmap::byte_at` meets its contract: a byte of a held block's buffer is the byte that is seen. Assumes nothing.
use Rattle.bitmap.specs.Bits.{byte_seen}
use Rattle.bitmap.proofs.byte_at.Goals as goal

pub returns : goal.returns
returns c = byte_seen _ _ _ _ _ _ _ c.requires c.buffer_of-j.ensures c.get.ensures
