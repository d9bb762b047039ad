-- `bitmap::skip` meets its contract: a turn is `skips_more`. Assumes nothing.
use native.Mathlib.Omega.{arith}
use Rattle.bitmap.specs.Search.{skips_more}
use borrow.Author.Rules.{rules}
use Rattle.bitmap.proofs.skip.Goals as goal

pub loop-x-preserved : goal.loop-x-preserved
loop-x-preserved c = (omega (arith, c.loop-x.invariant.0), search rules, skips_more _ _ _ _ _ c.loop-x.invariant.2 c.loop-x.invariant.0 (search rules) c.get-v.ensures (omega (arith, c.if-v.false)))
