-- The bits of the buffers that the order's places passed name.
use mathlib.Core.Path.{◌≡◌}
use native.Mathlib.Omega.{arith}
use Rattle.bio.specs.Mask.{marks_none, marks_skip, marks_set}
use borrow.Author.Rules.{rules}
use Rattle.bio.proofs.Table.marks.Goals as goal
use Rattle.bio.proofs.Table.marks.Goals.{then-j-lt30, else-j-lt30}

pub loop-i-init : goal.loop-i-init
loop-i-init c = (search rules, marks_none _)

pub loop-i-preserved : goal.loop-i-preserved
loop-i-preserved c = (
  search rules,
  elim c.if-j-lt30.branch [
    | then-j-lt30 w ↦ marks_set _ _ _ _ c.loop-i.invariant.1 w.if-j-lt30.true w.m-is
    | else-j-lt30 w ↦ marks_skip _ _ _ _ c.loop-i.invariant.1 w.if-j-lt30.false w.m-is
  ],
)

pub returns : goal.returns
returns c =
    let e : c.loop-i.i ≡ 30 = omega arith in
    rw e at c.loop-i.invariant.1
