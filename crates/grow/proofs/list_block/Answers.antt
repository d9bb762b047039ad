-- `grow::list_block` meets its contract: in the record (`list_direct`), or in the indirect block (`list_entry`). Assumes nothing.
use native.Mathlib.Omega.{arith}
use Rattle.grow.specs.Growing.{list_direct, list_entry}
use Rattle.grow.proofs.list_block.Goals as goal

pub returns-then-p-lt13 : goal.returns-then-p-lt13
returns-then-p-lt13 c = list_direct _ _ _ _ c.args.s c.args.i c.args.p _ _ c.if-p-lt13.true c.put_addr.ensures

pub returns : goal.returns
returns c = list_entry _ _ _ _ c.args.s c.args.i c.args.p _ _ (omega arith) c.put_u32_at.ensures
