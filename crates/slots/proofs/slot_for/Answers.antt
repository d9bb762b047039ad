-- `slots::slot_for` meets its contract, by what its two searches ensure. Assumes nothing.
use Rattle.slots.specs.Handles.{found-held, found_free}
use Rattle.slots.proofs.slot_for.Goals as goal

pub returns-then-k-lt50 : goal.returns-then-k-lt50
returns-then-k-lt50 c = found-held _ _ _ _ c.slot_of-k.ensures c.if-k-lt50.true

pub returns-else-k-lt50 : goal.returns-else-k-lt50
returns-else-k-lt50 c = found_free _ _ _ _ _ c.slot_of-k.ensures c.if-k-lt50.false c.free_slot.ensures
