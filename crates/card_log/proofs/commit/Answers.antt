-- `commit` meets its contract: after k turns the image is a run of k writes. Assumes nothing.
use mathlib.Core.Path.{◌≡◌, ◌∙◌, ap}
use Prim.Native.Nat.{◌<◌, min}
use native.Mathlib.Omega.{arith}
use Rattle.base.specs.Bytes.{bytes}
use Rattle.base.specs.Run.{run}
use Rattle.card_log.specs.Journal.{held, commit_write, commit, commit_due}
use Rattle.card_log.specs.Headers.{commit_due_under, ready_as}
use Rattle.card_log.proofs.commit.Goals as goal

pub commit_write-requires : goal.commit_write-requires
commit_write-requires c =
    let d : c.loop-k.k < commit_due c.args.n = omega (arith, c.min-w.ensures, c.commit_due.ensures) in
    record { ready = ready_as c.loop-k.invariant.0 c.requires; due = commit_due_under _ _ d }

pub returns : goal.returns
unfolding commit held
returns c =
    let a = c.args in
    let t = held a.n (bytes a.homes.now) (bytes a.bufs.now) (bytes a.cache.now) in
    let w : c.min-w.result ≡ min a.writes (commit_due a.n) = c.min-w.ensures ∙ ap (min a.writes) c.commit_due.ensures in
    let k : c.loop-k.k ≡ min a.writes (commit_due a.n) = omega arith in
    (w, c.loop-k.invariant.1 ∙ ap (λ m. run (commit_write t) m (bytes a.image.now)) k)
