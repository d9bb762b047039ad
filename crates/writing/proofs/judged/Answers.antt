-- `writing::judged` meets its contract: a number of the first part, or what the second says (`stopped`, `told`). Assumes nothing.
use Rattle.std.proofs.lemmas.Result.{err_from_is_err_and}
use Rattle.writing.specs.Calls.{stopped, told}
use Rattle.writing.proofs.judged.Goals as goal

pub returns-in_err-ready : goal.returns-in_err-ready
returns-in_err-ready c =
    let p = err_from_is_err_and c.from_residual.result c.from_residual.ensures.1 in
    rw (p.1, p.2) (stopped c.args.v c.args.image.now c.args.cache.now c.args.h c.args.offset c.args.src.now c.args.count _ c.ready.ensures _ c.in_err-ready.was)

pub returns : goal.returns
returns c = told c.args.v c.args.image.now c.args.cache.now c.args.h c.args.offset c.args.src.now c.args.count _ c.ready.ensures _ c.in_ok-ready.was _ c.file.ensures
