-- `plan::kilobytes` meets its contract: none, or as many as the bytes lie in. Assumes nothing.
use Rattle.plan.specs.Spots.{kilobytes_none, kilobytes_some}
use Rattle.plan.proofs.kilobytes.Goals as goal

pub returns-then-n-eq0 : goal.returns-then-n-eq0
returns-then-n-eq0 c = kilobytes_none _ _ c.if-n-eq0.true

pub returns : goal.returns
returns c = kilobytes_some c.args.offset _ c.if-n-eq0.false
