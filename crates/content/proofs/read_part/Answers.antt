-- `content::read_part` meets its contract: the block's bytes are the content's (`part_of`). Assumes nothing.
use Rattle.content.specs.Parts.{part_of}
use Rattle.content.proofs.read_part.Goals as goal

pub returns : goal.returns
returns c = part_of _ _ c.args.at _ _ _ _ _ _ _ c.min-r.ensures c.file_block-b.ensures c.block-t.ensures.byte c.copy_part.ensures
