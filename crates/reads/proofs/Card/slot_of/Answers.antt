-- slot_of: a direct address, or an entry of the indirect block.
use Rattle.reads.specs.Read.{slot_direct, slot-entry}
use Rattle.reads.proofs.Card.slot_of.Goals as goal

pub returns-then-p-lt13 : goal.returns-then-p-lt13
returns-then-p-lt13 c = slot_direct _ _ _ _ _ c.if-p-lt13.true c.addr.ensures

pub returns-else-p-lt13 : goal.returns-else-p-lt13
returns-else-p-lt13 c = slot-entry _ _ _ _ _ _ c.if-p-lt13.false c.addr-else-p-lt13.ensures c.entry_of.ensures
