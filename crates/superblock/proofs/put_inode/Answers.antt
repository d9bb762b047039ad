-- `superblock::put_inode` meets its contract: the six stores make up the 64 bytes (`written`).
use mathlib.Core.Path.{◌∙◌}
use Rattle.superblock.specs.Record.{written}
use Rattle.superblock.proofs.put_inode.Goals as goal

pub returns : goal.returns
returns c = c.put_addrs.ensures ∙ rw (c.put_u32.ensures, c.put_u16-4.ensures, c.put_u16-3.ensures, c.put_u16-2.ensures, c.put_u16.ensures) (written _ _ _)
