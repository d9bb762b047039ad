-- `writing::write` meets its contract: a number of the judged part, or what carrying out gives. Assumes nothing.
use Rattle.writing.specs.Calls.{not_written, carried}
use Rattle.writing.proofs.write.Goals as goal

pub returns-in-Err : goal.returns-in-Err
returns-in-Err c = rw c.refused.ensures (not_written c.args.v c.args.image.now c.args.cache.now c.args.h c.args.offset c.args.src.now c.args.count _ c.judged.ensures _ c.in-Err.is)

pub returns-in-Ok : goal.returns-in-Ok
returns-in-Ok c = carried c.args.v c.args.image.now c.args.cache.now c.args.h c.args.offset c.args.src.now c.args.count _ c.judged.ensures _ c.in-Ok.is _ c.carry_out.ensures
