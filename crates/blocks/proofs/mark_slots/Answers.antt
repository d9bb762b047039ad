-- mark_slots: the memory is `marked` with the first p slots, each of which was fresh.
use native.Mathlib.Omega.{arith}
use mathlib.Core.Path.{refl}
use borrow.Author.Count.{below_more}
use Rattle.base.specs.Decide.{not_so}
use Rattle.blocks.specs.Marks.{marked, turn_mark, turn_fresh, turn_stale}
use borrow.Author.Rules.{rules}
use Rattle.blocks.proofs.mark_slots.Goals as goal

pub loop-p-init : goal.loop-p-init
unfolding marked
loop-p-init c = (search rules, search rules, refl, λ q h. absurd (omega arith))

pub loop-p-preserved : goal.loop-p-preserved
loop-p-preserved c = let l = c.loop-p in (search rules, search rules, turn_mark _ _ l.work l.p _ l.invariant.2 c.slot_of-b.ensures.eq (omega (arith, c.slot_of-b.ensures.eq, c.requires.1 c.loop-p.p c.loop-p-test.true, c.loop-p.invariant.1, c.requires.2)), below_more _ _ l.invariant.3 (turn_fresh _ _ l.work l.p _ l.invariant.2 c.slot_of-b.ensures.eq c.if-work-b-ne0.false))

pub returns-then-work-b-ne0-clause-fresh : goal.returns-then-work-b-ne0-clause-fresh
returns-then-work-b-ne0-clause-fresh c = let l = c.loop-p in not_so (turn_stale _ _ l.work l.p _ l.invariant.2 c.slot_of-b.ensures.eq _ c.loop-p-test.true c.if-work-b-ne0.true)
