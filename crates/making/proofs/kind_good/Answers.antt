use Rattle.making.specs.Create.{kind_known}
use Rattle.making.proofs.kind_good.Goals as goal

pub returns : goal.returns
returns c = rw c.is_ok.ensures.value (kind_known _ _ c.try_from.ensures)
