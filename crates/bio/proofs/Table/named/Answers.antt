-- An order misses no buffer where all 30 bits are set.
use Rattle.bio.specs.Mask.{marks_decide}
use Rattle.bio.proofs.Table.named.Goals as goal

pub returns : goal.returns
returns c = marks_decide _ _ c.marks.ensures
