use mathlib.Core.Path.{refl}
use native.Mathlib.Omega.{arith}
use Rattle.linking.specs.Becomes.{by_change, holds_at}
use Rattle.linking.proofs.write_inode.Goals as goal

pub put_inode_at-requires : goal.put_inode_at-requires
put_inode_at-requires c = holds_at _ _ _ _ _ _ _ _ c.requires.1 c.inode_block-b.ensures c.inode_byte-off.ensures

pub returns : goal.returns
returns c = by_change _ _ _ _ _ _ _ _ _ _ c.put_inode_at.ensures (omega (arith, c.inode_block-b.ensures, c.inode_byte-off.ensures)) (λ d. refl)
