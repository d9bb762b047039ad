-- `commit` meets its contract: after k turns the image is a run of k writes. Assumes nothing.
use mathlib.Core.Path.{◌≡◌}
use lib.ListN.{length}
use Rattle.base.specs.Bytes.{bytes}
use Rattle.base.specs.Run.{run}
use Rattle.card_log.specs.Journal.{held, commit_write}
use Rattle.card_log.proofs.commit.Given as goal

abbrev pub invariant-loop-k : goal.invariant-loop-k
invariant-loop-k l = (length l.image ≡ length l.initial.image) × (bytes l.image ≡ run (commit_write (held l.n (bytes l.homes) (bytes l.bufs) (bytes l.cache))) l.k (bytes l.initial.image))
