use mathlib.Core.Path.{◌∙◌}
use native.Mathlib.Omega.{arith}
use Rattle.making.specs.Built.{may, can, has_slot, built}
use borrow.Author.Rules.{rules}
use Rattle.volume.specs.Open.{take_done}
use Rattle.making.proofs.build.Goals as goal

pub record_all-w-requires : goal.record_all-w-requires
record_all-w-requires c = (may _ _ _ c.args.i c.args.want.kind c.args.p.now c.requires, c.requires.plan.few, c.requires.long)

pub apply-requires : goal.apply-requires
apply-requires c = can _ _ _ c.args.i c.args.want.kind c.args.p.now c.requires c.record_all-w.result _ c.record_all-w.ensures _ (omega (arith, c.requires.long))

pub returns : goal.returns
returns c = built _ _ _ c.args.i c.args.want.kind c.args.p.now c.requires c.record_all-w.result _ c.record_all-w.ensures c.args.want.major c.args.want.minor c.args.part.now _ c.take_slot.result _ (c.apply.auto.cache ∙ c.record_all-w.auto.cache ∙ c.requires.long) (λ x. search rules) c.apply.ensures c.slot_for-k.ensures (take_done _ _ _ _ c.take_slot.ensures (has_slot _ _ _ c.args.i c.args.want.kind c.args.p.now c.requires c.record_all-w.result _ c.record_all-w.ensures _ c.slot_for-k.ensures))
