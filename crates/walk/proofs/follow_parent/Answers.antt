-- follow_parent: the walk from where it stands is the walk asked for; Parents has a law for each turn. Each step takes a byte of the path.
use Rattle.std.proofs.Common.{rules, sym, ap, ◌∙◌, ◌≡◌, ◌-◌, Option, Ok, Err, arith, length, drop, length-take, length-drop}
use Rattle.walk.specs.declared.Step.{Step}
use Rattle.walk.specs.Step.{step_led}
use Rattle.walk.specs.Parents.{in_path, parent_none, parent_last, parent_to, parent_stay, parent_no}
use Rattle.walk.proofs.follow_parent.Goals as goal

pub overflow_add-b : goal.overflow_add-b
overflow_add-b c = omega (arith, in_path c.args.path.now c.loop-name.at _ _ c.loop-name.invariant.0 (sym c.in-Some.is ∙ c.component.ensures))

pub overflow_add-e : goal.overflow_add-e
overflow_add-e c = omega (arith, in_path c.args.path.now c.loop-name.at _ _ c.loop-name.invariant.0 (sym c.in-Some.is ∙ c.component.ensures))

pub slice_bounds-ended-count : goal.slice_bounds-ended-count
slice_bounds-ended-count c = omega (arith, in_path c.args.path.now c.loop-name.at _ _ c.loop-name.invariant.0 (sym c.in-Some.is ∙ c.component.ensures))

pub slice_bounds-ended-start : goal.slice_bounds-ended-start
slice_bounds-ended-start c = omega (arith, in_path c.args.path.now c.loop-name.at _ _ c.loop-name.invariant.0 (sym c.in-Some.is ∙ c.component.ensures))

pub returns-then-ended : goal.returns-then-ended
returns-then-ended c =
    parent_last _ _ c.loop-name.i c.loop-name.at c.args.path.now _ _ (sym c.in-Some.is ∙ c.component.ensures) c.ended.ensures c.if-ended.true c.last_in.result c.last_in.ensures
    ∙ c.loop-name.invariant.2

pub returns-in_err-step : goal.returns-in_err-step
returns-in_err-step c =
    let e : c.from_residual.result ≡ Err c.in_err-step.field-0.0 = search rules in
    e
    ∙ sym (parent_no _ _ c.loop-name.i c.loop-name.at c.args.path.now _ _ (sym c.in-Some.is ∙ c.component.ensures) c.ended.ensures c.if-ended.false _ (sym c.in_err-step.was ∙ c.advance.ensures))
    ∙ c.loop-name.invariant.2

pub returns-in_default-2 : goal.returns-in_default-2
returns-in_default-2 c =
    let q = sym c.advance.ensures ∙ c.in_ok-step.was ∙ ap (λ (o : Option Step). Ok o) c.in_default-2.is in
    sym (parent_stay _ _ c.loop-name.i c.loop-name.at c.args.path.now _ _ (sym c.in-Some.is ∙ c.component.ensures) c.ended.ensures c.if-ended.false (sym q)) ∙ c.loop-name.invariant.2

pub overflow_add-at : goal.overflow_add-at
overflow_add-at c =
    let led = step_led _ _ _ _ _ _ (sym c.advance.ensures ∙ c.in_ok-step.was ∙ ap (λ (o : Option Step). Ok o) c.in-Some-2.is) in
    omega (arith, led.within, length-take (length c.args.path.now - c.loop-name.at) (drop c.loop-name.at c.args.path.now), length-drop c.loop-name.at c.args.path.now)

pub loop-name-smaller : goal.loop-name-smaller
loop-name-smaller c =
    let led = step_led _ _ _ _ _ _ (sym c.advance.ensures ∙ c.in_ok-step.was ∙ ap (λ (o : Option Step). Ok o) c.in-Some-2.is) in
    omega (arith, led.within, led.took, length-take (length c.args.path.now - c.loop-name.at) (drop c.loop-name.at c.args.path.now), length-drop c.loop-name.at c.args.path.now)

pub loop-name-preserved : goal.loop-name-preserved
loop-name-preserved c =
    let q = sym c.advance.ensures ∙ c.in_ok-step.was ∙ ap (λ (o : Option Step). Ok o) c.in-Some-2.is in
    let led = step_led _ _ _ _ _ _ q in (
      omega (arith, led.within, length-take (length c.args.path.now - c.loop-name.at) (drop c.loop-name.at c.args.path.now), length-drop c.loop-name.at c.args.path.now),
      led.from,
      sym (parent_to _ _ c.loop-name.i c.loop-name.at c.args.path.now _ _ (sym c.in-Some.is ∙ c.component.ensures) c.ended.ensures c.if-ended.false _ _ (sym q)) ∙ c.loop-name.invariant.2,
    )

pub returns : goal.returns
returns c = sym (parent_none _ _ c.loop-name.i c.loop-name.at c.args.path.now (sym c.in_default.is ∙ c.component.ensures)) ∙ c.loop-name.invariant.2
