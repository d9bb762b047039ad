-- The search from the end of the order: none of the places passed names a buffer without references.
use native.Mathlib.Omega.{arith}
use borrow.Author.Count.{below_more}
use Rattle.bio.specs.Order.{free_no, free_held, free_yes, least_at, least_none}
use borrow.Author.Rules.{rules}
use Rattle.bio.proofs.Table.least_recent.Goals as goal
use Rattle.bio.proofs.Table.least_recent.Goals.{then-j-lt30+else-self-j-eq0, else-j-lt30}

pub loop-k-init : goal.loop-k-init
loop-k-init c = (search rules, λ i h. absurd (omega arith))

pub returns-then-self-j-eq0 : goal.returns-then-self-j-eq0
returns-then-self-j-eq0 c = least_at _ _ _ c.loop-k-test.true c.loop-k.invariant.1 (free_yes _ _ _ c.if-j-lt30.true c.if-self-j-eq0.true)

pub loop-k-preserved : goal.loop-k-preserved
loop-k-preserved c = (
  search rules,
  below_more _ _ c.loop-k.invariant.1 (elim c.if-j-lt30.branch [
    | then-j-lt30+else-self-j-eq0 w ↦ free_held _ _ _ w.if-j-lt30.true w.if-self-j-eq0.false
    | else-j-lt30 w ↦ free_no _ _ _ w.if-j-lt30.false
  ]),
)

pub returns : goal.returns
returns c = least_none _ _ (λ i h. c.loop-k.invariant.1 i (omega arith))
