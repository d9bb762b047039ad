use Rattle.linking.specs.Becomes.{by_one, and_then, becomes_as}
use Rattle.linking.specs.Entered.{dotted_is}
use Rattle.linking.proofs.put_dots.Goals as goal

-- src/lib.rt:89:1
pub returns : goal.returns
returns c = becomes_as _ _ _ _ _ _ (and_then _ _ _ _ _ _ _ (by_one _ _ _ _ _ _ _ _ c.enter.ensures) (by_one _ _ _ _ _ _ _ _ c.enter-2.ensures)) (λ d. dotted_is d _ _ _)
