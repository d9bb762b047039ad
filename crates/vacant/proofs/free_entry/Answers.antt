use native.Mathlib.Omega.{arith}
use Prim.Native.Nat.{◌*◌}
use Rattle.base.specs.Bytes.{bytes}
use Rattle.vacant.specs.Vacant.{entries_passed, entry_found, no_entry}
use Rattle.vacant.proofs.free_entry.Goals as goal

-- src/lib.rt:60:13
pub returns-in-Some : goal.returns-in-Some
returns-in-Some c = entry_found _ (bytes c.block-t.result.now) c.args.f c.loop-b.b c.file_block-at.result c.min-count.result c.block-t.ensures.byte c.file_block-at.ensures c.min-count.ensures c.loop-b.invariant _ c.in-Some.ensures

-- src/lib.rt:55:5
pub loop-b-preserved : goal.loop-b-preserved
loop-b-preserved c = entries_passed _ (bytes c.block-t.result.now) c.args.f c.loop-b.b c.file_block-at.result c.min-count.result c.block-t.ensures.byte c.file_block-at.ensures c.min-count.ensures c.loop-b.invariant c.in_default.ensures

-- src/lib.rt:50:1
pub returns : goal.returns
returns c = no_entry _ c.args.f (c.loop-b.b * 64) (omega (arith, c.div_ceil-b-end.ensures)) c.loop-b.invariant
