-- The table of boot, computed.
use mathlib.Core.Path.{refl}
use Rattle.base.specs.First.{tabulate}
use Rattle.bio.specs.Fresh.{fresh_table}
use Rattle.bio.proofs.Table.fresh.Goals as goal

pub returns : goal.returns
unfolding fresh_table tabulate
returns c = refl
