use Rattle.std.proofs.Common.{rules, ◌∙◌, ◌≡◌, Err}
use native.Mathlib.Omega.{arith}
use Rattle.meeting.specs.Meets.{named_outside, named_unfit, named_fit}
use Rattle.meeting.proofs.named.Goals as goal

pub returns-then-s-n : goal.returns-then-s-n
returns-then-s-n c = named_outside c.args.s _ _ c.if-s-n.true

pub returns-in_err-f : goal.returns-in_err-f
returns-in_err-f c =
    let e : c.from_residual.result ≡ Err c.in_err-f.field-0.0 = search rules in
    e ∙ named_unfit c.args.s _ c.args.n (omega arith) _ c.in_err-f.ensures

pub returns : goal.returns
returns c = named_fit c.args.s _ c.args.n (omega arith) c.in_ok-f.f c.in_ok-f.ensures
