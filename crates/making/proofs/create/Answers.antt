use mathlib.Core.Path.{refl, ap, ◌∙◌}
use Rattle.std.specs.Prelude.{Ok}
use native.Mathlib.Omega.{arith}
use Rattle.making.specs.Call.{create_refused, create_there, create_vacant, place_of, makes}
use Rattle.making.proofs.create.Goals as goal

pub slice_bounds-make-count : goal.slice_bounds-make-count
slice_bounds-make-count c = omega (arith, (place_of _ _ _ _ _ _ _ (c.meet.ensures.lead _ (c.in-Ok-Vacant.is ∙ ap Ok c.in-Ok-Vacant.field-0-is))).ordered)

pub slice_bounds-make-start : goal.slice_bounds-make-start
slice_bounds-make-start c = let p = place_of _ _ _ _ _ _ _ (c.meet.ensures.lead _ (c.in-Ok-Vacant.is ∙ ap Ok c.in-Ok-Vacant.field-0-is)) in omega (arith, p.ordered, p.inside)

pub slice_bounds-make-end : goal.slice_bounds-make-end
slice_bounds-make-end c = let p = place_of _ _ _ _ _ _ _ (c.meet.ensures.lead _ (c.in-Ok-Vacant.is ∙ ap Ok c.in-Ok-Vacant.field-0-is)) in omega (arith, p.ordered, p.inside)

pub make-requires : goal.make-requires
make-requires c = makes _ _ _ _ _ _ _ (c.meet.ensures.lead _ (c.in-Ok-Vacant.is ∙ ap Ok c.in-Ok-Vacant.field-0-is))

pub returns-in-Ok-There : goal.returns-in-Ok-There
returns-in-Ok-There c = create_there c.args.v c.args.image.now c.args.cache.now c.args.path.now c.args.h c.args.kind c.args.major c.args.minor _ _ (c.meet.ensures.lead _ (c.in-Ok-There.is ∙ ap Ok c.in-Ok-There.field-0-is)) c.satisfy.ensures

pub returns-in-Ok-Vacant : goal.returns-in-Ok-Vacant
returns-in-Ok-Vacant c = create_vacant c.args.v c.args.image.now c.args.cache.now c.args.path.now c.args.h c.args.kind _ (c.meet.ensures.lead _ (c.in-Ok-Vacant.is ∙ ap Ok c.in-Ok-Vacant.field-0-is)) c.args.major c.args.minor _ _ refl c.make.ensures

pub returns-in-Err : goal.returns-in-Err
returns-in-Err c = create_refused c.args.v c.args.image.now c.args.cache.now c.args.path.now c.args.h c.args.kind c.args.major c.args.minor _ _ c.meet.ensures c.in-Err.is c.refused.ensures
