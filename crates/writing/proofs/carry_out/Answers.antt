-- `writing::carry_out` meets its contract: row 13, row 14, or done (`wrote_so`). Assumes nothing.
use mathlib.Core.Path.{◌∙◌}
use Rattle.base.specs.Decide.{no_by, yes_by}
use Rattle.writing.specs.Carry.{no_room, touches, can_apply, wrote_so}
use borrow.Author.Rules.{rules}
use Rattle.writing.proofs.carry_out.Goals as goal

pub returns-then-not-room : goal.returns-then-not-room
returns-then-not-room c = rw c.refused-then-not-room.ensures (no_room _ _ _ _ _ _ _ c.requires _ c.prepare-a.ensures c.if-a.false (no_by c.room.ensures c.if-not-room.true))

pub record_all-w-requires : goal.record_all-w-requires
record_all-w-requires c = (touches _ _ _ _ _ _ _ c.requires _ c.prepare-a.ensures c.if-a.false (yes_by c.room.ensures c.if-not-room.false), c.prepare-a.ensures.lists.few, c.requires.buffers)

pub apply-requires : goal.apply-requires
apply-requires c = can_apply _ _ _ _ _ _ _ c.requires _ c.prepare-a.ensures c.if-a.false (yes_by c.room.ensures c.if-not-room.false) _ _ c.record_all-w.ensures (c.record_all-w.auto.cache ∙ c.requires.buffers)

pub returns : goal.returns
returns c = rw c.done.ensures (wrote_so _ _ _ _ _ _ _ c.requires _ c.prepare-a.ensures c.if-a.false (yes_by c.room.ensures c.if-not-room.false) _ c.record_all-w.new.cache c.record_all-w.ensures (c.record_all-w.auto.cache ∙ c.requires.buffers) c.apply.new.cache c.apply.auto.cache (λ x. search rules) c.apply.ensures)
