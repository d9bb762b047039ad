-- `state::mark_homes` meets its contract: the homes passed are good, and exactly their buffers are marked. Assumes nothing.
use mathlib.Core.Path.{◌≡◌}
use native.Mathlib.Omega.{arith}
use lib.ListN.{length-set}
use Rattle.base.specs.Decide.{so, not_so, never}
use Rattle.base.specs.Bytes.{bytes}
use Rattle.state.specs.Marks.{found_none, marked-none, found_more, marked_more, not_pinned, met_twice, not_held}
use Rattle.state.proofs.mark_homes.Goals as goal
use Rattle.state.proofs.mark_homes.Goals.{then-h-v-via-then-h-v, then-h-v-via-else-h-v+then-v-h, then-k-ge30-via-then-k-ge30, then-k-ge30-via-else-k-ge30+then-v-k-ne1, then-k-ge30-via-else-k-ge30+else-v-k-ne1+then-marks-k-ne0}

pub loop-i-init : goal.loop-i-init
loop-i-init c = (found_none _ _ _ _ _, marked-none (bytes c.args.marks.now) c.args.v.now.table.blocks c.args.v.now.homes c.requires.1, c.requires.2)

pub returns-then-h-v : goal.returns-then-h-v
returns-then-h-v c = record {
  tests = elim c.then-h-v.branch [
    | then-h-v-via-then-h-v w ↦ not_so (λ f. omega (arith, f.list.low _ c.loop-i-test.true))
    | then-h-v-via-else-h-v+then-v-h w ↦ not_so (λ f. omega (arith, f.list.high _ c.loop-i-test.true))
  ];
  marked = λ e. never e;
}

pub holder-k-requires : goal.holder-k-requires
holder-k-requires c = c.requires.3

pub returns-then-k-ge30 : goal.returns-then-k-ge30
returns-then-k-ge30 c = record {
  tests = elim c.then-k-ge30.branch [
    | then-k-ge30-via-then-k-ge30 w ↦ not_so (not_held _ _ _ _ _ _ _ _ c.holder-k.ensures w.if-k-ge30.true c.loop-i-test.true)
    | then-k-ge30-via-else-k-ge30+then-v-k-ne1 w ↦ not_so (not_pinned c.loop-i.marks _ _ _ _ _ _ _ c.loop-i.invariant.1 c.requires.4 c.if-v-h.false c.holder-k.ensures w.if-k-ge30.false _ c.loop-i-test.true w.if-v-k-ne1.true)
    | then-k-ge30-via-else-k-ge30+else-v-k-ne1+then-marks-k-ne0 w ↦ not_so (met_twice c.loop-i.marks _ _ _ _ _ _ _ c.loop-i.invariant.1 c.requires.4 c.if-v-h.false c.holder-k.ensures w.if-k-ge30.false _ c.loop-i-test.true w.if-marks-k-ne0.true)
  ];
  marked = λ e. never e;
}

pub loop-i-preserved : goal.loop-i-preserved
loop-i-preserved c = (
  found_more c.loop-i.marks _ _ _ _ _ _ _ c.loop-i.invariant.1 c.requires.4 c.if-v-h.false c.holder-k.ensures c.if-k-ge30.false c.loop-i.invariant.0 c.if-h-v.false c.if-v-k-ne1.false c.if-marks-k-ne0.false,
  marked_more c.loop-i.marks _ c.args.v.now.table.counts _ _ c.args.v.now.sb.inodestart _ _ c.loop-i.invariant.1 c.requires.4 c.if-v-h.false c.holder-k.ensures c.if-k-ge30.false c.loop-i.invariant.2,
  simp length-set c.loop-i.invariant.2,
)

pub returns : goal.returns
returns c =
    let e : c.loop-i.i ≡ c.args.v.now.recorded = omega arith in
    record { tests = so (rw e at c.loop-i.invariant.0); marked = λ _. rw e at c.loop-i.invariant.1 }
