-- `put_block` meets its contract: the lent part comes back with the source in it, `bytes_mid`. Assumes nothing.
use mathlib.Core.Path.{◌≡◌}
use Prim.Native.Nat.{◌+◌, ◌-◌, ◌*◌}
use native.Mathlib.Omega.{arith}
use Rattle.base.specs.Bytes.{bytes_mid}
use Rattle.card_log.proofs.put_block.Goals as goal

pub returns : goal.returns
returns c =
    let a = c.args in
    let k : a.b * 1024 + 1024 - a.b * 1024 ≡ 1024 = omega arith in
    rw (k, c.copy_block.ensures) (bytes_mid a.image.now a.src.now (a.b * 1024) 1024 (omega arith) (omega arith))
