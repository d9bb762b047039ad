-- `grow::grow_by` meets its contract: the loop's invariant: what is seen has grown by j slots; a turn is `growing_more`. Assumes nothing.
use mathlib.Core.Path.{refl}
use Rattle.grow.specs.Growing.{growing_none, growing_more}
use borrow.Author.Rules.{rules}
use Rattle.grow.proofs.grow_by.Goals as goal

pub loop-j-init : goal.loop-j-init
loop-j-init c = (c.requires.memory, growing_none _ _ _ _ _ _ _ _ _)

pub loop-j-preserved : goal.loop-j-preserved
loop-j-preserved c = (search rules, growing_more _ _ _ _ _ _ _ _ _ _ _ _ _ c.loop-j-test.true refl c.loop-j.invariant.1 c.grow_one.ensures)
