-- follow: the walk from where it stands is the walk asked for; Walks has a law for each turn. Each step takes a byte of the path.
use Rattle.std.proofs.Common.{rules, sym, ap, ◌∙◌, ◌≡◌, ◌-◌, Option, Ok, Err, arith, length, drop, length-take, length-drop}
use Rattle.walk.specs.declared.Step.{Step}
use Rattle.walk.specs.Step.{step_led}
use Rattle.walk.specs.Walks.{walk_to, walk_stay, walk_no}
use Rattle.walk.proofs.follow.Goals as goal

pub returns-in_err-step : goal.returns-in_err-step
returns-in_err-step c =
    let e : c.from_residual.result ≡ Err c.in_err-step.field-0.0 = search rules in
    e ∙ sym (walk_no _ _ c.loop-step.i c.loop-step.at c.args.path.now _ (sym c.in_err-step.was ∙ c.advance.ensures)) ∙ c.loop-step.invariant.2

pub overflow_add-at : goal.overflow_add-at
overflow_add-at c =
    let led = step_led _ _ _ _ _ _ (sym c.advance.ensures ∙ c.in_ok-step.was ∙ ap (λ (o : Option Step). Ok o) c.in-Some.is) in
    omega (arith, led.within, length-take (length c.args.path.now - c.loop-step.at) (drop c.loop-step.at c.args.path.now), length-drop c.loop-step.at c.args.path.now)

pub loop-step-smaller : goal.loop-step-smaller
loop-step-smaller c =
    let led = step_led _ _ _ _ _ _ (sym c.advance.ensures ∙ c.in_ok-step.was ∙ ap (λ (o : Option Step). Ok o) c.in-Some.is) in
    omega (arith, led.within, led.took, length-take (length c.args.path.now - c.loop-step.at) (drop c.loop-step.at c.args.path.now), length-drop c.loop-step.at c.args.path.now)

pub loop-step-preserved : goal.loop-step-preserved
loop-step-preserved c =
    let q = sym c.advance.ensures ∙ c.in_ok-step.was ∙ ap (λ (o : Option Step). Ok o) c.in-Some.is in
    let led = step_led _ _ _ _ _ _ q in (
      omega (arith, led.within, length-take (length c.args.path.now - c.loop-step.at) (drop c.loop-step.at c.args.path.now), length-drop c.loop-step.at c.args.path.now),
      led.from,
      sym (walk_to _ _ c.loop-step.i c.loop-step.at c.args.path.now _ _ (sym q)) ∙ c.loop-step.invariant.2,
    )

pub returns : goal.returns
returns c =
    sym (walk_stay _ _ c.loop-step.i c.loop-step.at c.args.path.now (sym (sym c.advance.ensures ∙ c.in_ok-step.was ∙ ap (λ (o : Option Step). Ok o) c.in_default.is))) ∙ c.loop-step.invariant.2
