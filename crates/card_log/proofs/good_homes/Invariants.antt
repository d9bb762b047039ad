-- `good_homes` meets its contract: the first i homes are good, and the first that is not refutes. Assumes nothing.
use Rattle.base.specs.Bytes.{bytes}
use Rattle.card_log.specs.Journal.{HomesIn}
use Rattle.card_log.proofs.good_homes.Given as goal

abbrev pub invariant-loop-i : goal.invariant-loop-i
invariant-loop-i l = HomesIn (bytes l.homes) l.i l.low l.high
