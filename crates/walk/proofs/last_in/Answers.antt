-- last_in: a law of Parents for each answer.
use Rattle.std.proofs.Common.{rules, ◌∙◌, ◌≡◌, Err}
use Rattle.base.specs.Decide.{no_by, yes_by}
use Rattle.walk.specs.Parents.{last_unfit, last_no_directory, last_there}
use Rattle.walk.proofs.last_in.Goals as goal

pub returns-in_err-parent : goal.returns-in_err-parent
returns-in_err-parent c =
    let e : c.from_residual.result ≡ Err c.in_err-parent.field-0.0 = search rules in
    e ∙ last_unfit c.args.s _ c.args.i _ _ _ c.in_err-parent.ensures

pub returns-then-not-is : goal.returns-then-not-is
returns-then-not-is c = last_no_directory c.args.s _ c.args.i _ _ c.in_ok-parent.parent c.in_ok-parent.ensures (no_by c.is.ensures c.if-not-is.true)

pub returns : goal.returns
returns c = last_there c.args.s _ c.args.i _ _ c.in_ok-parent.parent c.in_ok-parent.ensures (yes_by c.is.ensures c.if-not-is.false)
