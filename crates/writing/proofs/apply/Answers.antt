-- `writing::apply` meets its contract: grown and poured (`applied-grown`), or poured alone (`applied-same`). Assumes nothing.
use mathlib.Core.Path.{refl}
use Rattle.writing.specs.Apply.{applied-grown, applied-same}
use Rattle.writing.proofs.apply.Goals as goal
use Rattle.writing.proofs.apply.Goals.{then-a-end, else-a-end}

pub returns : goal.returns
returns c = elim c.if-a-end.branch [
  | then-a-end w ↦ applied-grown _ _ _ _ _ _ _ c.args.a c.args.offset _ c.args.count _ _ refl w.if-a-end.true refl w.extend.ensures (rw w.cache-is at c.pour.ensures)
  | else-a-end w ↦ applied-same _ _ _ _ _ _ c.args.a c.args.offset _ c.args.count _ refl w.if-a-end.false (rw w.cache-is at c.pour.ensures)
]
