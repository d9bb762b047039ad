-- `recover` meets its contract: the two laws of a recovery, cut and done. Assumes nothing.
use mathlib.Core.Path.{◌≡◌, ◌∙◌, sym}
use native.Mathlib.Omega.{arith}
use Rattle.base.specs.Bytes.{bytes}
use Rattle.card_log.specs.Journal.{logged}
use Rattle.card_log.specs.Headers.{log_length}
use Rattle.transactions.specs.Turns.{can_recover, recover-cut, recover_done}
use Rattle.transactions.proofs.recover.Goals as goal

pub recover-w-requires : goal.recover-w-requires
recover-w-requires c = can_recover _ _ c.requires.0 c.requires.1 c.requires.2

pub recover_due-requires : goal.recover_due-requires
recover_due-requires c = omega (arith, (can_recover _ _ c.requires.0 c.requires.1 c.requires.2).few, log_length (bytes c.args.image.now), c.get_u32-n.ensures)

pub returns-then-w-recover_due : goal.returns-then-w-recover_due
returns-then-w-recover_due c =
    let n : c.get_u32-n.result ≡ (logged (bytes c.args.image.now)).count = c.get_u32-n.ensures ∙ sym (log_length _) in
    recover-cut _ _ c.requires.0 c.requires.1 c.requires.2 _ _ _ _ (omega (arith, c.recover-w.auto.image)) c.recover-w.ensures.0 c.recover-w.ensures.1 n _ (omega (arith, c.recover_due.ensures, c.if-w-recover_due.true)) c.no_volume.ensures _ c.done.ensures

pub returns-else-w-recover_due : goal.returns-else-w-recover_due
returns-else-w-recover_due c =
    let n : c.get_u32-n.result ≡ (logged (bytes c.args.image.now)).count = c.get_u32-n.ensures ∙ sym (log_length _) in
    recover_done _ _ c.requires.0 c.requires.1 c.requires.2 _ _ _ _ (omega (arith, c.recover-w.auto.image)) c.recover-w.ensures.0 c.recover-w.ensures.1 n _ (omega (arith, c.recover_due.ensures, c.if-w-recover_due.false)) c.idle.ensures _ c.done-else-w-recover_due.ensures
