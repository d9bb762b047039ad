-- `superblock::put_entry` meets its contract: the two stores make up the 16 bytes (`entry-written`).
use mathlib.Core.Path.{◌∙◌}
use Rattle.superblock.specs.Entry.{entry-written}
use Rattle.superblock.proofs.put_entry.Goals as goal

pub returns : goal.returns
returns c = c.copy_part.ensures ∙ rw c.put_u16.ensures (entry-written _ _ _)
