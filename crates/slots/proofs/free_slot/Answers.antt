-- `slots::free_slot` meets its contract: every slot that was passed is in use. Assumes nothing.
use mathlib.Core.Path.{sym}
use native.Mathlib.Omega.{arith}
use borrow.Author.Count.{below_more}
use borrow.Author.Tests.{eq-eqb, ne_eqb}
use borrow.Author.Rules.{rules}
use Rattle.base.specs.First.{first-at, first-none}
use Rattle.slots.specs.Handles.{free_slot}
use Rattle.slots.proofs.free_slot.Goals as goal

pub loop-k-init : goal.loop-k-init
loop-k-init c = (search rules, λ k h. absurd (omega arith))

pub returns-then-slots-k-eq0 : goal.returns-then-slots-k-eq0
unfolding free_slot
returns-then-slots-k-eq0 c = sym (first-at _ _ _ c.loop-k-test.true c.loop-k.invariant.1 (eq-eqb _ _ c.if-slots-k-eq0.true))

pub loop-k-preserved : goal.loop-k-preserved
loop-k-preserved c = (search rules, below_more _ _ c.loop-k.invariant.1 (ne_eqb _ _ c.if-slots-k-eq0.false))

pub returns : goal.returns
unfolding free_slot
returns c = sym (first-none _ _ (λ k h. c.loop-k.invariant.1 k (omega arith)))
