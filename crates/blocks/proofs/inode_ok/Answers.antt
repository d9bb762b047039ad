-- inode_ok: free, or shape and slots.
use native.Mathlib.Omega.{arith}
use Rattle.base.specs.Decide.{yes_by}
use Rattle.blocks.specs.Fits.{inode_slots}
use Rattle.blocks.proofs.inode_ok.Goals as goal

pub returns-then-shape_ok : goal.returns-then-shape_ok
returns-then-shape_ok c = inode_slots _ _ _ _ _ c.kind-k.ensures c.size-s.ensures _ _ c.if-k-eq0.false (yes_by c.shape_ok.ensures c.if-shape_ok.true) c.slots_of.ensures (let z = (yes_by c.shape_ok.ensures c.if-shape_ok.true).small in omega (arith, c.slots_of.ensures)) c.slots_ok.ensures
