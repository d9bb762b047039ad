-- distinct: the slots that the code reads are those of the inode (Apart.by_is).
use Rattle.std.proofs.Common.{arith}
use Rattle.base.specs.Bytes.{bytes}
use Rattle.apart.specs.Apart.{by_low, by_apart}
use Rattle.apart.proofs.distinct.Goals as goal

pub once-requires : goal.once-requires
once-requires c = (
  omega (arith, c.requires.size, c.slots_of.ensures),
  by_low _ c.args.f c.requires (bytes c.block-table.result.now) c.block-table.ensures.byte _ c.slots_of.ensures,
)

pub returns : goal.returns
returns c =
    by_apart _ c.args.f c.requires (bytes c.block-table.result.now) c.block-table.ensures.byte _ c.slots_of.ensures c.once.ensures
