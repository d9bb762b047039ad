-- `base::find` meets its contract. The loop's invariant: no number passed is b; what is found is `first-at`, the end `first-none`. Assumes nothing.
use borrow.Author.Count.{below_more}
use borrow.Author.Tests.{eq-eqb, ne_eqb}
use mathlib.Core.Path.{sym}
use native.Mathlib.Omega.{arith}
use Rattle.base.specs.First.{first-at, first-none}
use borrow.Author.Rules.{rules}
use Rattle.base.proofs.find.Goals as goal

pub loop-i-init : goal.loop-i-init
loop-i-init c = (search rules, λ k h. absurd (omega arith))

pub returns-then-xs-i : goal.returns-then-xs-i
returns-then-xs-i c = sym (first-at _ _ _ c.loop-i-test.true c.loop-i.invariant.1 (eq-eqb _ _ c.if-xs-i.true))

pub loop-i-preserved : goal.loop-i-preserved
loop-i-preserved c = (search rules, below_more _ _ c.loop-i.invariant.1 (ne_eqb _ _ c.if-xs-i.false))

pub returns : goal.returns
returns c = sym (first-none _ _ (λ k h. c.loop-i.invariant.1 k (omega arith)))
