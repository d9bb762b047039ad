-- `commit` meets its contract: the two laws of a commit, cut and done. Assumes nothing.
use mathlib.Core.Path.{refl}
use native.Mathlib.Omega.{arith}
use Rattle.transactions.specs.Recorded.{recorded_ready}
use Rattle.transactions.specs.Turns.{commit-cut, commit_whole}
use Rattle.transactions.proofs.commit.Goals as goal

pub buffers-bufs-requires : goal.buffers-bufs-requires
buffers-bufs-requires c = omega (arith, c.requires.0.counts.room)

pub commit-w-requires : goal.commit-w-requires
commit-w-requires c = recorded_ready c.args.v _ c.requires.0 _ _ _ refl c.requires.1 c.buffers-bufs.ensures

pub commit_due-requires : goal.commit_due-requires
commit_due-requires c = omega (arith, c.requires.0.counts.room)

pub returns-then-w-commit_due : goal.returns-then-w-commit_due
returns-then-w-commit_due c = commit-cut c.args.v _ _ _ _ _ _ _ (omega (arith, c.commit-w.auto.image)) refl c.buffers-bufs.ensures c.commit-w.ensures.0 c.commit-w.ensures.1 _ (omega (arith, c.commit_due.ensures, c.if-w-commit_due.true)) c.stopped.ensures _ c.done.ensures

pub returns-else-w-commit_due : goal.returns-else-w-commit_due
returns-else-w-commit_due c = commit_whole c.args.v _ _ _ _ _ _ _ (omega (arith, c.commit-w.auto.image)) refl c.buffers-bufs.ensures c.commit-w.ensures.0 c.commit-w.ensures.1 _ (omega (arith, c.commit_due.ensures, c.if-w-commit_due.false)) c.ended.ensures _ c.done-else-w-commit_due.ensures
