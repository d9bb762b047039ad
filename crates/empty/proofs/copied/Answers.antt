-- `empty::copied` meets its contract: the part, and zeros where it ends sooner (`filled`). Assumes nothing.
use Rattle.empty.specs.Emptying.{filled}
use Rattle.empty.proofs.copied.Goals as goal

pub returns : goal.returns
returns c = filled c.args.part.now _ _ c.min-n.ensures c.copy_from_slice.ensures.after
