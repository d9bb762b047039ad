-- `recover` meets its contract: after k turns the image is a run of k writes, and the log's blocks are still those it began with. Assumes nothing.
use mathlib.Core.Path.{◌≡◌, ◌∙◌, sym, ap, refl}
use Prim.Native.Nat.{◌<◌, min}
use native.Mathlib.Omega.{arith}
use Rattle.base.specs.Bytes.{bytes}
use Rattle.base.specs.Run.{run, run_none}
use Rattle.card_log.specs.Journal.{logged, install_write, recover, recover_due}
use Rattle.card_log.specs.Headers.{Read, log_length, recover_due_under, read_within, read_turn}
use Rattle.card_log.proofs.recover.Goals as goal

pub get_homes-homes-requires : goal.get_homes-homes-requires
get_homes-homes-requires c = omega (arith, c.requires.few, log_length (bytes c.args.image.now), c.get_u32-n.ensures)

pub recover_due-requires : goal.recover_due-requires
recover_due-requires c = omega (arith, c.requires.few, log_length (bytes c.args.image.now), c.get_u32-n.ensures)

pub loop-k-init : goal.loop-k-init
loop-k-init c = (refl, sym (run_none _ _))

pub recover_write-requires : goal.recover_write-requires
recover_write-requires c =
    let r : Read (bytes c.args.image.now) c.get_u32-n.result (bytes c.get_homes-homes.result) = record { count = c.get_u32-n.ensures; homes = c.get_homes-homes.ensures } in
    let d : c.loop-k.k < recover_due c.get_u32-n.result = omega (arith, c.min-w.ensures, c.recover_due.ensures) in
    record { within = read_within _ _ _ r _ c.requires _ c.loop-k.invariant.0; k_le_n = omega (arith, recover_due_under _ _ d) }

pub loop-k-preserved : goal.loop-k-preserved
loop-k-preserved c =
    let r : Read (bytes c.args.image.now) c.get_u32-n.result (bytes c.get_homes-homes.result) = record { count = c.get_u32-n.ensures; homes = c.get_homes-homes.ensures } in
    let d : c.loop-k.k < recover_due c.get_u32-n.result = omega (arith, c.min-w.ensures, c.recover_due.ensures) in (
      omega (arith, c.recover_write.auto.image),
      read_turn _ _ _ r _ c.requires c.loop-k.k (omega (arith, recover_due_under _ _ d)) c.recover_write.ensures c.loop-k.invariant.1,
    )

pub returns : goal.returns
unfolding recover
returns c =
    let a = c.args in
    let d = bytes a.image.now in
    let n : c.get_u32-n.result ≡ (logged d).count = c.get_u32-n.ensures ∙ sym (log_length d) in
    let w : c.min-w.result ≡ min a.writes (recover_due (logged d).count) = c.min-w.ensures ∙ ap (min a.writes) (c.recover_due.ensures ∙ ap recover_due n) in
    let k : c.loop-k.k ≡ min a.writes (recover_due (logged d).count) = omega arith in
    (w, c.loop-k.invariant.1 ∙ ap (λ z. run (install_write (logged d)) z d) k)
