-- size: the bytes at the inode's address, or 0 where there is none.
use native.Mathlib.Omega.{arith}
use mathlib.Core.Path.{refl}
use Rattle.superblock.specs.Node.{no_node}
use Rattle.reads.specs.Read.{read_size, read_none}
use Rattle.reads.proofs.Card.size.Goals as goal

pub returns-in-Some : goal.returns-in-Some
returns-in-Some c = read_size _ _ _ _ _ c.in-Some.ensures c.get_u32.ensures (omega arith)

pub returns-in-None : goal.returns-in-None
unfolding no_node
returns-in-None c = read_none _ _ _ (λ r. r.size) _ refl (omega arith) c.in-None.ensures
