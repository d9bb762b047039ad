use Rattle.std.proofs.Common.{rules}
use Rattle.base.specs.First.{tabulate_is}
use Rattle.planning.proofs.maps_of.Goals as goal

-- src/lib.rt:62:1
pub returns : goal.returns
returns c = tabulate_is _ 5 _ c.map.ensures.items.long (λ j h. let w = c.map.ensures.items.at j 0 0 h in search rules)
