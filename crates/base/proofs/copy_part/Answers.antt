-- `base::copy_part` meets its contract: a part of a slice that comes back with the source's bytes in it. Assumes nothing.
use Rattle.std.proofs.Common.{arith}
use Rattle.std.specs.Prelude.{◌+◌, ◌-◌}
use Rattle.base.specs.Bytes.{put_part, bytes_part}
use Rattle.base.proofs.copy_part.Goals as goal

pub returns : goal.returns
returns c =
    let e = c.copy_from_slice.ensures in
    put_part _ _ _ _ _ _ (omega arith) (omega (arith, e.len)) c.requires.0 (λ i h. rw e.after (bytes_part c.args.src.now c.args.s (c.args.s + c.args.n - c.args.s) i (omega arith)))
