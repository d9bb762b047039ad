-- `recover` meets its contract: after k turns the image is a run of k writes, and the log's blocks are still those it began with. Assumes nothing.
use mathlib.Core.Path.{◌≡◌}
use lib.ListN.{length}
use Rattle.base.specs.Bytes.{bytes}
use Rattle.base.specs.Run.{run}
use Rattle.card_log.specs.Journal.{logged, install_write}
use Rattle.card_log.proofs.recover.Given as goal

abbrev pub invariant-loop-k : goal.invariant-loop-k
invariant-loop-k l = (length l.image ≡ length l.initial.image) × (bytes l.image ≡ run (install_write (logged (bytes l.initial.image))) l.k (bytes l.initial.image))
