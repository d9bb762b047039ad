use Rattle.making.specs.Call.{make_no, make_yes}
use Rattle.making.proofs.make.Goals as goal

pub returns-in-Ok : goal.returns-in-Ok
returns-in-Ok c = make_yes _ _ _ c.args.i c.args.want.kind c.requires c.make_plan-p.result c.make_plan-p.ensures c.judge_new.result c.judge_new.ensures _ _ _ _ c.in-Ok.is c.build.ensures

pub returns-in-Err : goal.returns-in-Err
returns-in-Err c = make_no _ _ _ c.args.i c.args.want.kind c.requires c.make_plan-p.result c.make_plan-p.ensures c.judge_new.result c.judge_new.ensures _ _ _ _ c.in-Err.is c.refused.ensures
