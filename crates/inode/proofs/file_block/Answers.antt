-- file_block: direct, no indirect block, listed (Slots.block_direct, block_none, block_listed).
use Rattle.base.specs.Bytes.{bytes}
use Rattle.inode.specs.Slots.{block_direct, block_none, block_listed}
use Rattle.inode.proofs.file_block.Goals as goal

pub returns-then-k-lt12 : goal.returns-then-k-lt12
returns-then-k-lt12 c = block_direct _ c.args.f c.args.k c.if-k-lt12.true

pub returns-then-b-eq0 : goal.returns-then-b-eq0
returns-then-b-eq0 c = block_none _ c.args.f c.args.k c.if-k-lt12.false c.if-b-eq0.true

pub returns : goal.returns
returns c = block_listed _ c.args.f c.args.k (bytes c.block-t.result.now) c.get_u32.result c.if-k-lt12.false c.requires c.if-b-eq0.false c.block-t.ensures.byte c.get_u32.ensures
