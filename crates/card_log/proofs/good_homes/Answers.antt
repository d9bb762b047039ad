-- `good_homes` meets its contract: the first i homes are good, and the first that is not refutes. Assumes nothing.
use native.Mathlib.Omega.{arith}
use Rattle.base.specs.Bytes.{bytes}
use Rattle.base.specs.Decide.{not_so}
use Rattle.card_log.specs.Headers.{homes_low_not, homes_high_not, homes_twice_not}
use Rattle.card_log.proofs.good_homes.Goals as goal
use Rattle.card_log.proofs.good_homes.Goals.{then-h-low-via-then-h-low, then-h-low-via-else-h-low+then-high-h, then-h-low-via-else-h-low+else-high-h+then-find-i}

pub returns-then-h-low : goal.returns-then-h-low
returns-then-h-low c = elim c.then-h-low.branch [
  | then-h-low-via-then-h-low w ↦ not_so (homes_low_not (bytes c.args.homes.now) _ _ c.loop-i.i _ c.loop-i-test.true w.if-h-low.true)
  | then-h-low-via-else-h-low+then-high-h w ↦ not_so (homes_high_not (bytes c.args.homes.now) _ _ c.loop-i.i _ c.loop-i-test.true w.if-high-h.true)
  | then-h-low-via-else-h-low+else-high-h+then-find-i w ↦ not_so (homes_twice_not (bytes c.args.homes.now) _ _ c.loop-i.i _ c.loop-i-test.true (omega (arith, w.find.ensures, w.if-find-i.true)))
]
