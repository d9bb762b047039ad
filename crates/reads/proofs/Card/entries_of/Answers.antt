-- entries_of: none, or the size divided by 16.
use Rattle.reads.specs.Read.{ends-none, ends-here}
use Rattle.reads.proofs.Card.entries_of.Goals as goal

pub returns-else-kind-eq1 : goal.returns-else-kind-eq1
returns-else-kind-eq1 c = ends-none _ _ _ c.kind.ensures c.if-kind-eq1.false

pub returns-then-kind-eq1 : goal.returns-then-kind-eq1
returns-then-kind-eq1 c = ends-here _ _ _ c.kind.ensures _ _ c.requires c.if-kind-eq1.true c.size.ensures
