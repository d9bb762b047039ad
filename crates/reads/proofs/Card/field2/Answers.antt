-- field2: the bytes at the inode's address, or 0 where there is none.
use native.Mathlib.Omega.{arith}
use Rattle.reads.specs.Read.{field_there, field_none}
use Rattle.reads.proofs.Card.field2.Goals as goal

pub returns-in-Some : goal.returns-in-Some
returns-in-Some c = field_there _ _ _ _ _ _ _ _ c.in-Some.ensures c.get_u16.ensures (omega arith)

pub returns-in-None : goal.returns-in-None
returns-in-None c = field_none _ _ _ _ _ _ (omega arith) c.in-None.ensures
