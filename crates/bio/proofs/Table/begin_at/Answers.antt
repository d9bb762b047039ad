-- The start of the search: none of the buffers passed has the block, or `any` is true.
use native.Mathlib.Omega.{arith}
use Rattle.bio.specs.Low.{missed_none, missed_more, below_all, below-nothing}
use borrow.Author.Rules.{rules}
use Rattle.bio.proofs.Table.begin_at.Goals as goal

pub loop-j-init : goal.loop-j-init
loop-j-init c = (search rules, missed_none _ _ _)

pub loop-j-preserved : goal.loop-j-preserved
loop-j-preserved c = (search rules, missed_more _ _ _ _ c.loop-j.invariant.1)

pub returns-then-any : goal.returns-then-any
returns-then-any c = below-nothing _ _

pub returns-else-any : goal.returns-else-any
returns-else-any c = below_all _ _ _ _ c.loop-j.invariant.1 (omega arith) c.if-any.false
