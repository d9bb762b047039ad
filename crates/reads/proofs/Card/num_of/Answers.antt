-- num_of: 0 where there is no entry, else the number at its spot.
use Rattle.reads.specs.Read.{num_other, num_past}
use Rattle.reads.proofs.Card.num_of.Goals as goal

pub returns-then-kind-ne1 : goal.returns-then-kind-ne1
returns-then-kind-ne1 c = num_other _ _ _ _ c.kind.ensures c.if-kind-ne1.true

pub returns-then-size-k : goal.returns-then-size-k
returns-then-size-k c = num_past _ _ _ _ c.kind.ensures _ c.size.ensures c.if-size-k.true
