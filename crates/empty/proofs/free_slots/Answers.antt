-- `empty::free_slots` meets its contract: after p turns the blocks of the first p slots are freed (`free_more`). Assumes nothing.
use Rattle.empty.specs.Emptying.{free_none, free_more}
use borrow.Author.Rules.{rules}
use Rattle.empty.proofs.free_slots.Goals as goal

pub loop-p-init : goal.loop-p-init
loop-p-init c = (c.requires.memory, free_none _ _ _ _ _)

pub loop-p-preserved : goal.loop-p-preserved
loop-p-preserved c = (search rules, free_more _ _ _ _ _ _ _ _ _ c.slot_in-b.ensures c.loop-p.invariant.1 c.clear_bit.ensures)
