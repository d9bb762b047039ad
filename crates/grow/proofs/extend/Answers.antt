-- `grow::extend` meets its contract: grown, then the size (`extended_so`). Assumes nothing.
use Rattle.grow.specs.Growing.{extended_so}
use Rattle.grow.proofs.extend.Goals as goal

pub returns : goal.returns
returns c = extended_so _ _ _ _ _ c.args.s c.args.i _ _ _ _ _ c.grow_by.ensures c.put_size.ensures
