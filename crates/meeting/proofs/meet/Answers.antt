use Rattle.std.proofs.Common.{rules, refl, sym, ◌∙◌, ◌≡◌, Err}
use Rattle.walk.specs.Reached.{parent_there}
use Rattle.meeting.specs.Meets.{met}
use Rattle.meeting.proofs.meet.Goals as goal

pub returns-in_err-p : goal.returns-in_err-p
returns-in_err-p c =
    let e : c.from_residual.result ≡ Err c.in_err-p.field-0.0 = search rules in
    e ∙ met c.args.s _ c.args.i c.args.path.now _ _ (sym c.follow_parent.ensures ∙ c.in_err-p.was) refl

pub seek-requires : goal.seek-requires
seek-requires c = (c.requires.0, parent_there c.args.s _ c.args.i c.args.path.now _ _ _ c.requires.1 (sym c.follow_parent.ensures ∙ c.in_ok-p.was))

pub returns : goal.returns
returns c = met c.args.s _ c.args.i c.args.path.now _ _ (sym c.follow_parent.ensures ∙ c.in_ok-p.was) c.seek.ensures
