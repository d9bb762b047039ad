-- `truncating::carry_out` meets its contract: row 14, or done (`truncated_so`). Assumes nothing.
use mathlib.Core.Path.{◌∙◌}
use Rattle.base.specs.Decide.{no_by, yes_by}
use Rattle.truncating.specs.Carry.{no_room, can_empty, truncated_so}
use borrow.Author.Rules.{rules}
use Rattle.truncating.proofs.carry_out.Goals as goal

pub returns-then-not-room : goal.returns-then-not-room
returns-then-not-room c = rw c.refused.ensures (no_room _ _ _ _ c.requires.0 _ c.requires.1 _ c.slots_of-n.ensures _ _ c.touched_blocks-t.ensures (no_by c.room.ensures c.if-not-room.true))

pub empty-requires : goal.empty-requires
empty-requires c = can_empty _ _ _ _ c.requires.0 _ c.requires.1 _ c.slots_of-n.ensures _ _ c.touched_blocks-t.ensures (yes_by c.room.ensures c.if-not-room.false) _ _ c.record_all-w.ensures (c.record_all-w.auto.cache ∙ c.requires.0.buffers)

pub returns : goal.returns
returns c = rw c.done.ensures (truncated_so _ _ _ _ c.requires.0 _ c.requires.1 _ c.slots_of-n.ensures _ _ c.touched_blocks-t.ensures (yes_by c.room.ensures c.if-not-room.false) _ c.record_all-w.new.cache c.record_all-w.ensures (c.record_all-w.auto.cache ∙ c.requires.0.buffers) c.empty.new.cache (c.empty.auto.cache ∙ c.record_all-w.auto.cache ∙ c.requires.0.buffers) (λ x. search rules) c.empty.ensures)
