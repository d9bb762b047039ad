-- `state::Slots::good_slots` meets its contract: the first four decide where no later one is in use (`slots_few`), else all (`slots-all`). Assumes nothing.
use Rattle.state.specs.Slots.{slots_few, slots-all}
use Rattle.state.proofs.Slots.good_slots.Goals as goal

pub returns-then-later_free : goal.returns-then-later_free
returns-then-later_free c = slots_few _ _ _ (c.later_free.ensures.free c.if-later_free.true) c.good_below.ensures

pub returns : goal.returns
returns c = slots-all _ _ _ c.good_below-2.ensures
