-- `state::Slots::slot_of` meets its contract: a search, by `first`. Assumes nothing.
use borrow.Author.Count.{below_more}
use mathlib.Core.Path.{sym}
use native.Mathlib.Omega.{arith}
use Rattle.base.specs.First.{first-at, first-none}
use Rattle.state.specs.Slots.{slot_of, slot-found, slot_free, slot-other}
use Rattle.state.proofs.Slots.slot_of.Goals as goal
use Rattle.state.proofs.Slots.slot_of.Goals.{else-self-k-ne0-via-then-self-k-ne0+else-self-k, else-self-k-ne0-via-else-self-k-ne0}

pub returns-then-self-k : goal.returns-then-self-k
unfolding slot_of
returns-then-self-k c = sym (first-at _ _ _ c.loop-k-test.true c.loop-k.invariant (slot-found _ _ _ _ c.if-self-k-ne0.true c.if-self-k.true))

pub loop-k-preserved : goal.loop-k-preserved
loop-k-preserved c = below_more _ _ c.loop-k.invariant (elim c.else-self-k-ne0.branch [
  | else-self-k-ne0-via-then-self-k-ne0+else-self-k w ↦ slot-other _ _ _ _ w.if-self-k-ne0.true w.if-self-k.false
  | else-self-k-ne0-via-else-self-k-ne0 w ↦ slot_free _ _ _ _ w.if-self-k-ne0.false
])

pub returns : goal.returns
unfolding slot_of
returns c = sym (first-none _ _ (λ k h. c.loop-k.invariant k (omega arith)))
