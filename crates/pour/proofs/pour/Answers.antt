-- `pour::pour` meets its contract: the loop's invariant: a bytes are replaced; a turn is `pouring_more`. Assumes nothing.
use native.Mathlib.Omega.{arith}
use Rattle.pour.specs.Pouring.{pouring_none, pouring_more}
use borrow.Author.Rules.{rules}
use Rattle.pour.proofs.pour.Goals as goal

pub loop-a-init : goal.loop-a-init
loop-a-init c = (search rules, c.requires.memory, pouring_none _ _ _ _ _ _ _)

pub loop-a-preserved : goal.loop-a-preserved
loop-a-preserved c = (omega (arith, c.min-m.ensures), search rules, pouring_more _ _ _ _ c.args.offset _ c.args.n _ _ c.loop-a.a _ c.loop-a.invariant.2 c.loop-a-test.true c.min-m.ensures c.put_part_at.ensures)
