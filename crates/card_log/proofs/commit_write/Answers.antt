-- `commit_write` meets its contract: each branch is a case of `commit_write`. Assumes nothing.
use mathlib.Core.Path.{◌∙◌, sym}
use native.Mathlib.Omega.{arith}
use Rattle.base.specs.Bytes.{bytes}
use Rattle.card_log.specs.Journal.{held, emptied}
use Rattle.card_log.specs.Installing.{install_last}
use Rattle.card_log.proofs.Crash.{commit-header, commit_install, commit-block}
use Rattle.card_log.proofs.commit_write.Goals as goal

pub returns-then-k-n : goal.returns-then-k-n
unfolding held
returns-then-k-n c =
    let a = c.args in
    let t = held a.n (bytes a.homes.now) (bytes a.bufs.now) (bytes a.cache.now) in
    c.put_header.ensures ∙ sym (commit-header t a.k (bytes a.image.now) (omega arith))

pub returns-then-k-n-2 : goal.returns-then-k-n-2
returns-then-k-n-2 c = commit-block _ _ _ _ _ _ _ _ _ c.if-k-n.false c.if-k-n-2.true c.target.ensures c.source.ensures c.put_buffer.ensures

pub returns-else-k-n-2 : goal.returns-else-k-n-2
unfolding held emptied
returns-else-k-n-2 c =
    let a = c.args in
    let t = held a.n (bytes a.homes.now) (bytes a.bufs.now) (bytes a.cache.now) in
    let d = bytes a.image.now in
    c.put_u32.ensures ∙ sym (install_last t a.n d (omega arith)) ∙ sym (commit_install t a.k d a.n (omega arith))
