-- too_long: the first 129 bytes are there, and the library finds no 0 among them.
use Rattle.path.specs.Parts.{short, long_decides}
use Rattle.path.proofs.too_long.Goals as goal

pub returns-then-path-gt128 : goal.returns-then-path-gt128
returns-then-path-gt128 c = long_decides c.args.path.now _ c.if-path-gt128.true c.contains.ensures.cases

pub returns-else-path-gt128 : goal.returns-else-path-gt128
returns-else-path-gt128 c = short c.args.path.now c.if-path-gt128.false
