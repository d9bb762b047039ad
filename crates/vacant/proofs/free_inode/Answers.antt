use native.Mathlib.Omega.{arith}
use Prim.Native.Nat.{◌*◌}
use Rattle.base.specs.Bytes.{bytes}
use Rattle.vacant.specs.Vacant.{inodes_passed, inode_found, no_inode}
use Rattle.vacant.proofs.free_inode.Goals as goal

-- src/lib.rt:43:13
pub returns-in-Some : goal.returns-in-Some
returns-in-Some c = inode_found c.args.s _ (bytes c.block-t.result.now) c.loop-b.b _ _ c.min-count.result (omega arith) c.block-t.ensures.byte c.saturating_sub-start.ensures c.min-count.ensures c.loop-b.invariant _ c.in-Some.ensures

-- src/lib.rt:37:5
pub loop-b-preserved : goal.loop-b-preserved
loop-b-preserved c = inodes_passed c.args.s _ (bytes c.block-t.result.now) c.loop-b.b _ _ c.min-count.result (omega arith) c.block-t.ensures.byte c.saturating_sub-start.ensures c.min-count.ensures c.loop-b.invariant c.in_default.ensures

-- src/lib.rt:32:1
pub returns : goal.returns
returns c = no_inode c.args.s _ (c.loop-b.b * 16) (omega (arith, c.div_ceil-b-end.ensures)) c.loop-b.invariant
