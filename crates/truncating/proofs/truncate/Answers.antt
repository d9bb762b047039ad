-- `truncating::truncate` meets its contract: a number of the judged part, or what carrying out gives. Assumes nothing.
use Rattle.truncating.specs.Calls.{not_truncated, carried}
use Rattle.truncating.proofs.truncate.Goals as goal

pub returns-in-Err : goal.returns-in-Err
returns-in-Err c = rw c.refused.ensures (not_truncated c.args.v c.args.image.now c.args.cache.now c.args.h _ c.judged.ensures _ c.in-Err.is)

pub returns-in-Ok : goal.returns-in-Ok
returns-in-Ok c = carried c.args.v c.args.image.now c.args.cache.now c.args.h _ c.judged.ensures _ c.in-Ok.is _ c.carry_out.ensures
