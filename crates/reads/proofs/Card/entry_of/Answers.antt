-- entry_of: 0 below the data area, where the Disk reads 0 too; else the four bytes there.
use Rattle.reads.specs.Read.{entry_low, entry_high}
use native.Mathlib.Omega.{arith}
use Rattle.reads.proofs.Card.entry_of.Goals as goal

pub returns-then-b-data_start : goal.returns-then-b-data_start
returns-then-b-data_start c = entry_low _ _ _ _ (omega arith) c.requires.0

pub returns-else-b-data_start : goal.returns-else-b-data_start
returns-else-b-data_start c = entry_high _ _ _ _ _ (omega arith) (omega arith) record { eq = c.get_u32.ensures; lt = omega arith }
