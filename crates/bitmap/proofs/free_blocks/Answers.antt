-- `bitmap::free_blocks` meets its contract: the bitmap's block is what is seen of it. Assumes nothing.
use Rattle.base.specs.Bytes.{bytes}
use Rattle.bitmap.specs.Search.{free_seen, found-same}
use Rattle.bitmap.proofs.free_blocks.Goals as goal

pub returns : goal.returns
returns c = found-same _ _ _ _ _ (free_seen _ c.requires.0 _ (bytes c.block.result.now) c.block.ensures.byte) c.search.ensures
