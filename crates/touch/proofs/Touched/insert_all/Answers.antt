-- `Touched::insert_all` meets its contract: the loop's invariant: the numbers passed are members; a turn is `inserted_more`. Assumes nothing.
use borrow.Author.Rules.{rules}
use mathlib.Core.Path.{refl}
use Rattle.touch.specs.Insert.{inserted_none, inserted_more}
use Rattle.touch.proofs.Touched.insert_all.Goals as goal

pub loop-x-init : goal.loop-x-init
loop-x-init c = inserted_none _ _ _ (search rules)

pub loop-x-preserved : goal.loop-x-preserved
loop-x-preserved c = inserted_more _ _ _ _ _ _ _ _ _ c.loop-x.invariant refl c.insert.ensures
