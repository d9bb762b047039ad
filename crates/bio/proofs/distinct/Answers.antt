-- Numbers are distinct: the loop has shown it of those passed.
use Rattle.bio.specs.Among.{among-found, among_missed}
use mathlib.Core.Path.{◌≡◌}
use native.Mathlib.Omega.{arith}
use Rattle.base.specs.Decide.{so, not_so}
use Rattle.bio.specs.Among.{distinct_none, distinct_high, distinct_new, distinct_not}
use borrow.Author.Rules.{rules}
use Rattle.bio.proofs.distinct.Goals as goal
use Rattle.bio.proofs.distinct.Goals.{then-x-limit+else-k-i, else-x-limit}

pub loop-i-init : goal.loop-i-init
loop-i-init c = (search rules, distinct_none _ _ 0)

pub returns-then-k-i : goal.returns-then-k-i
returns-then-k-i c = not_so (distinct_not _ _ _ _ c.loop-i-test.true c.if-x-limit.true (among-found _ _ _ _ c.find-k.ensures c.if-k-i.true))

pub loop-i-preserved : goal.loop-i-preserved
loop-i-preserved c = (
  search rules,
  elim c.if-x-limit.branch [
    | then-x-limit+else-k-i w ↦ distinct_new _ _ _ c.loop-i.invariant.1 (among_missed _ _ _ _ w.find-k.ensures w.if-k-i.false)
    | else-x-limit w ↦ distinct_high _ _ _ c.loop-i.invariant.1 w.if-x-limit.false
  ],
)

pub returns : goal.returns
returns c =
    let e : c.loop-i.i ≡ c.args.n = omega arith in
    so (rw e at c.loop-i.invariant.1)
