-- `base::put_u16` meets its contract: the number's bytes are put into a part of the slice. Assumes nothing.
use Rattle.std.proofs.Common.{arith}
use Rattle.base.specs.Bytes.{put_part}
use Rattle.base.specs.Number.{digit_two}
use Rattle.base.proofs.put_u16.Goals as goal

pub returns : goal.returns
returns c =
    let e = c.copy_from_slice.ensures in
    put_part _ _ _ _ _ _ (omega arith) (omega (arith, e.len)) c.requires (λ i h. rw (e.after, c.to_le_bytes.ensures) (digit_two c.args.v i h))
