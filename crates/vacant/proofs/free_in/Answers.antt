use mathlib.Core.Path.{sym}
use native.Mathlib.Omega.{arith}
use borrow.Author.Count.{below_more}
use Rattle.base.specs.First.{first-at, first-none}
use Rattle.base.specs.Bytes.{bytes}
use Rattle.vacant.specs.Vacant.{free_at, free_early, free_yes, free_no}
use Rattle.vacant.proofs.free_in.Goals as goal

-- src/lib.rt:23:5
pub loop-k-init : goal.loop-k-init
loop-k-init c = λ j h. free_early _ _ _ j h

-- src/lib.rt:25:13
pub returns-then-get_u16-eq0 : goal.returns-then-get_u16-eq0
returns-then-get_u16-eq0 c = (c.loop-k-test.true, sym (first-at (free_at (bytes c.args.s.now) _ c.args.start) _ c.loop-k.k c.loop-k-test.true c.loop-k.invariant (free_yes _ _ _ _ c.get_u16.result c.loop-k.auto.k c.get_u16.ensures c.if-get_u16-eq0.true)))

-- src/lib.rt:23:5
pub loop-k-preserved : goal.loop-k-preserved
loop-k-preserved c = below_more _ _ c.loop-k.invariant (free_no _ _ _ _ c.get_u16.result c.loop-k.auto.k c.get_u16.ensures c.if-get_u16-eq0.false)

-- src/lib.rt:19:1
pub returns : goal.returns
returns c = sym (first-none _ _ (λ j h. c.loop-k.invariant j (omega arith)))
