-- `state::place_blocks` meets its contract: the buffers passed have distinct blocks, and each remainder has a mark. Assumes nothing.
use mathlib.Core.Path.{◌≡◌}
use native.Mathlib.Omega.{arith}
use lib.ListN.{length-set}
use Rattle.base.specs.Decide.{so, not_so, never}
use Rattle.bio.specs.Among.{distinct_not}
use Rattle.state.specs.Marks.{placed_none, placed_high, placed_new, placed_more, found_yes, found_no}
use Rattle.state.proofs.place_blocks.Goals as goal
use Rattle.state.proofs.place_blocks.Goals.{then-b-size, then-places-at-ne0+else-find-j, else-places-at-ne0, else-b-size}

pub loop-j-init : goal.loop-j-init
loop-j-init c = (placed_none _ _ _ c.requires.0, c.requires.1)

pub returns-then-find-j : goal.returns-then-find-j
returns-then-find-j c = (c.loop-j.invariant.1, record { tests = not_so (distinct_not _ _ _ _ c.loop-j-test.true c.if-b-size.true (found_yes _ _ _ _ c.find.ensures c.if-find-j.true)); small = λ e. never e })

pub loop-j-preserved : goal.loop-j-preserved
loop-j-preserved c =
    let l = c.loop-j in (
      elim c.if-b-size.branch [
        | then-b-size w ↦ rw w.places-is (placed_more l.places _ _ _ l.invariant.0 l.invariant.1 c.loop-j-test.true w.if-b-size.true
            (elim w.if-places-at-ne0.branch [
              | then-places-at-ne0+else-find-j u ↦ found_no _ _ _ _ u.find.ensures u.if-find-j.false
              | else-places-at-ne0 u ↦ placed_new l.places _ _ _ l.invariant.0 w.if-b-size.true u.if-places-at-ne0.false
            ]))
        | else-b-size w ↦ rw w.places-is (placed_high l.places _ _ _ l.invariant.0 w.if-b-size.false)
      ],
      elim c.if-b-size.branch [
        | then-b-size w ↦ rw w.places-is (simp length-set l.invariant.1)
        | else-b-size w ↦ rw w.places-is l.invariant.1
      ],
    )

pub returns : goal.returns
returns c =
    let e : c.loop-j.j ≡ 30 = omega arith in
    let p = rw e at c.loop-j.invariant.0 in
    (c.loop-j.invariant.1, record { tests = so p.once; small = λ _. p.small })
