-- The search for a buffer that holds a block: none of those passed does.
use borrow.Author.Count.{below_more}
use mathlib.Core.Path.{sym}
use native.Mathlib.Omega.{arith}
use Rattle.base.specs.First.{first-at, first-none}
use Rattle.bio.specs.Seen.{pinned, pinned_yes, pinned-other, pinned_clean, buffer_of}
use borrow.Author.Rules.{rules}
use Rattle.bio.proofs.Table.buffer_of.Goals as goal
use Rattle.bio.proofs.Table.buffer_of.Goals.{then-self-j+else-self-j-gt0, else-self-j}

pub loop-j-init : goal.loop-j-init
loop-j-init c = (omega (arith, c.begin_at-j.ensures.few), λ k h. pinned-other _ _ _ k (c.begin_at-j.ensures.none k h))

pub returns-then-self-j-gt0 : goal.returns-then-self-j-gt0
unfolding buffer_of
returns-then-self-j-gt0 c =
    let l = c.loop-j in
    sym (first-at (pinned _ _ _) 30 l.j c.loop-j-test.true l.invariant.1 (pinned_yes _ _ _ l.j c.if-self-j.true c.if-self-j-gt0.true))

pub loop-j-preserved : goal.loop-j-preserved
loop-j-preserved c =
    let l = c.loop-j in (
      search rules,
      below_more _ _ l.invariant.1 (elim c.if-self-j.branch [
        | then-self-j+else-self-j-gt0 w ↦ pinned_clean _ _ _ l.j (omega (arith, w.if-self-j-gt0.false))
        | else-self-j w ↦ pinned-other _ _ _ l.j w.if-self-j.false
      ]),
    )

pub returns : goal.returns
unfolding buffer_of
returns c = sym (first-none (pinned _ _ _) 30 (λ k h. c.loop-j.invariant.1 k (omega arith)))
