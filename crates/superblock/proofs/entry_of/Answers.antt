-- `superblock::entry_of` meets its contract: the part from a on is read field by field (`entry_read_at`).
use Rattle.superblock.specs.Entry.{entry_read_at}
use Rattle.superblock.proofs.entry_of.Goals as goal

pub returns : goal.returns
returns c = entry_read_at c.from-t.result.now c.from.result.now _ _ c.from-t.ensures c.from.ensures _ c.get_u16.ensures c.padded.ensures
