-- `empty::empty` meets its contract: the blocks freed, then the record, are `truncated` (`emptied_so`). Assumes nothing.
use Rattle.empty.specs.Emptying.{frees_so, emptied_so}
use Rattle.empty.proofs.empty.Goals as goal

pub free_slots-requires : goal.free_slots-requires
free_slots-requires c = frees_so _ _ _ _ _ _ _ _ c.requires _ c.block_copy-entries.ensures

pub returns : goal.returns
returns c = emptied_so _ _ _ _ _ _ _ _ c.requires _ c.block_copy-entries.ensures _ _ _ _ _ c.free_slots.ensures c.inode_block-m.ensures c.inode_byte-at.ensures c.without_content.ensures c.put_inode_at.ensures
