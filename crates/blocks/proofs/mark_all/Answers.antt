-- mark_all: the memory is `marked_all` with the inodes below i.
use native.Mathlib.Omega.{arith}
use mathlib.Core.Path.{refl}
use borrow.Author.Count.{below_more}
use Rattle.base.specs.Decide.{yes_by}
use Rattle.blocks.specs.Marks.{marked_all, turn_all, turn_all_fresh}
use borrow.Author.Rules.{rules}
use Rattle.blocks.proofs.mark_all.Goals as goal

pub loop-i-init : goal.loop-i-init
unfolding marked_all
loop-i-init c = (search rules, search rules, refl, λ q h. absurd (omega arith))

pub loop-i-preserved : goal.loop-i-preserved
loop-i-preserved c = let l = c.loop-i in (search rules, search rules, turn_all _ _ _ l.i _ l.invariant.2 c.count_of.ensures.eq _ (c.mark_slots.ensures.marks c.if-not-mark_slots.false), below_more _ _ l.invariant.3 (turn_all_fresh _ _ _ l.i _ l.invariant.2 c.count_of.ensures.eq (yes_by c.mark_slots.ensures.fresh c.if-not-mark_slots.false)))
