-- `plan::touches` meets its contract: the insertions, by what is taken (`built_none`, `built_map`, `built_top`). Assumes nothing.
use native.Mathlib.Omega.{arith}
use Rattle.plan.specs.Touches.{built_none, built_map, built_top}
use Rattle.plan.proofs.touches.Goals as goal

pub returns-then-p-need-gt13 : goal.returns-then-p-need-gt13
returns-then-p-need-gt13 c = built_top c.args.s c.args.i _ c.args.m _ c.args.need c.args.p c.args.top c.requires.1 c.requires.2 c.told-spots c.told-free _ _ _ _ _ _ _ _ _ c.none-t.ensures c.inode_block.ensures c.insert.ensures c.insert_all.ensures c.insert_all-2.ensures c.if-need-gt0.true _ _ c.insert-then-need-gt0.ensures c.if-p-need-gt13.true _ _ c.insert-then-p-need-gt13.ensures

pub returns-else-p-need-gt13 : goal.returns-else-p-need-gt13
returns-else-p-need-gt13 c = built_map c.args.s c.args.i _ c.args.m _ c.args.need c.args.p c.args.top c.requires.1 c.requires.2 c.told-spots c.told-free _ _ _ _ _ _ _ _ _ c.none-t.ensures c.inode_block.ensures c.insert.ensures c.insert_all.ensures c.insert_all-2.ensures c.if-need-gt0.true _ _ c.insert-then-need-gt0.ensures c.if-p-need-gt13.false

pub returns-else-need-gt0 : goal.returns-else-need-gt0
returns-else-need-gt0 c = built_none c.args.s c.args.i _ c.args.m _ c.args.need c.args.p c.args.top c.requires.1 c.requires.2 c.told-spots c.told-free _ _ _ _ _ _ _ _ _ c.none-t.ensures c.inode_block.ensures c.insert.ensures c.insert_all.ensures c.insert_all-2.ensures (omega arith)
