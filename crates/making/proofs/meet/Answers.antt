use Rattle.std.proofs.lemmas.Result.{err_from_is_err_and}
use Rattle.making.specs.Call.{meets_refused, lends, starts_at, meets_on}
use Rattle.making.proofs.meet.Goals as goal

pub returns-in_err-judge : goal.returns-in_err-judge
returns-in_err-judge c = let p = err_from_is_err_and c.from_residual.result c.from_residual.ensures.1 in rw (p.1, p.2) (meets_refused _ _ _ _ _ _ c.judge.result c.judge.ensures _ c.in_err-judge.was)

pub meet-requires : goal.meet-requires
meet-requires c = (lends _ _ _ _ _ _ c.judge.result c.judge.ensures c.in_ok-judge.was, starts_at _ _ _ _ _ _ c.judge.result c.judge.ensures c.in_ok-judge.was _ c.start.ensures)

pub returns : goal.returns
returns c = meets_on _ _ _ _ _ _ c.judge.result c.judge.ensures c.in_ok-judge.was _ c.start.ensures _ c.meet.ensures
