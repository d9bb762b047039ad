-- advance: a law of Step for each answer, from what the callees say.
use Rattle.std.proofs.Common.{rules, refl, sym, ◌∙◌, ◌≡◌, Err}
use native.Mathlib.Omega.{arith}
use Rattle.path.specs.Parts.{part_within}
use Rattle.base.specs.Decide.{no_by, yes_by}
use Rattle.walk.specs.Step.{step_unfit, step_end, step_no_directory, step_missing, step_to, step_outside}
use Rattle.walk.proofs.advance.Goals as goal

pub returns-in_err-f : goal.returns-in_err-f
returns-in_err-f c =
    let e : c.from_residual.result ≡ Err c.in_err-f.field-0.0 = search rules in
    e ∙ step_unfit c.args.s _ c.args.i c.args.rest.now _ c.in_err-f.ensures

pub returns-in_default : goal.returns-in_default
returns-in_default c = step_end c.args.s _ c.args.i c.args.rest.now c.in_ok-f.f c.in_ok-f.ensures (sym c.component.ensures ∙ c.in_default.is)

pub returns-then-not-is : goal.returns-then-not-is
returns-then-not-is c = step_no_directory c.args.s _ c.args.i c.args.rest.now c.in_ok-f.f c.in_ok-f.ensures c.in-Some.name (sym c.component.ensures ∙ c.in-Some.is) (no_by c.is.ensures c.if-not-is.true)

pub slice_bounds-dir_lookup-count : goal.slice_bounds-dir_lookup-count
slice_bounds-dir_lookup-count c = omega (arith, part_within _ _ _ (sym c.component.ensures ∙ c.in-Some.is))

pub slice_bounds-dir_lookup-start : goal.slice_bounds-dir_lookup-start
slice_bounds-dir_lookup-start c = omega (arith, part_within _ _ _ (sym c.component.ensures ∙ c.in-Some.is))

pub slice_bounds-dir_lookup-end : goal.slice_bounds-dir_lookup-end
slice_bounds-dir_lookup-end c = omega (arith, part_within _ _ _ (sym c.component.ensures ∙ c.in-Some.is))

pub returns-in_default-dir_lookup : goal.returns-in_default-dir_lookup
returns-in_default-dir_lookup c =
    step_missing c.args.s _ c.args.i c.args.rest.now c.in_ok-f.f c.in_ok-f.ensures c.in-Some.name (sym c.component.ensures ∙ c.in-Some.is) (yes_by c.is.ensures c.if-not-is.false) _ refl
    c.dir_lookup.result c.dir_lookup.ensures c.in_default-dir_lookup.is

pub returns-then-found-s : goal.returns-then-found-s
returns-then-found-s c =
    step_to c.args.s _ c.args.i c.args.rest.now c.in_ok-f.f c.in_ok-f.ensures c.in-Some.name (sym c.component.ensures ∙ c.in-Some.is) (yes_by c.is.ensures c.if-not-is.false) _ refl
    c.dir_lookup.result c.dir_lookup.ensures _ c.in-Some-dir_lookup.is c.if-found-s.true

pub returns : goal.returns
returns c =
    step_outside c.args.s _ c.args.i c.args.rest.now c.in_ok-f.f c.in_ok-f.ensures c.in-Some.name (sym c.component.ensures ∙ c.in-Some.is) (yes_by c.is.ensures c.if-not-is.false) _ refl
    c.dir_lookup.result c.dir_lookup.ensures _ c.in-Some-dir_lookup.is c.if-found-s.false
