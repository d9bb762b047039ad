-- `base::clear_part` meets its contract: a part of a slice that comes back with zeros in it. Assumes nothing.
use Rattle.std.proofs.Common.{arith}
use Rattle.std.specs.Prelude.{refl}
use Rattle.base.specs.Bytes.{put_part}
use Rattle.base.proofs.clear_part.Goals as goal

pub returns : goal.returns
returns c =
    let e = c.fill.ensures in
    put_part _ _ _ _ _ _ (omega arith) (omega (arith, e.len)) c.requires (λ i h. e.clones i 0 (omega arith) refl)
