-- entry_named: the two cases of entry_is.
use Rattle.std.proofs.Common.{sym}
use Rattle.dir.specs.Entries.{entry_free, entry-live}
use Rattle.dir.proofs.entry_named.Goals as goal

pub returns-then-get_u16-ne0 : goal.returns-then-get_u16-ne0
returns-then-get_u16-ne0 c = sym (entry-live _ _ _ c.get_u16.result c.get_u16.ensures c.if-get_u16-ne0.true c.same_name.result c.same_name.ensures)

pub returns-else-get_u16-ne0 : goal.returns-else-get_u16-ne0
returns-else-get_u16-ne0 c = rw c.if-get_u16-ne0.false (sym (entry_free _ _ _ c.get_u16.result c.get_u16.ensures c.if-get_u16-ne0.false))
