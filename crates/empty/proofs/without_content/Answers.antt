-- `empty::without_content` meets its contract (`no_content`). Assumes nothing.
use Rattle.empty.specs.Emptying.{no_content}
use Rattle.empty.proofs.without_content.Goals as goal

pub returns : goal.returns
returns c = no_content c.args.f 13
