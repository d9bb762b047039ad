-- `superblock::inode_of` meets its contract: the part from a on is read field by field (`read_at`).
use Rattle.superblock.specs.Record.{read_at}
use Rattle.superblock.proofs.inode_of.Goals as goal

pub returns : goal.returns
returns c = read_at _ _ _ c.from-t.ensures _ c.get_u16.ensures c.get_u16-2.ensures c.get_u16-3.ensures c.get_u16-4.ensures c.get_u32.ensures c.addrs_of.ensures
