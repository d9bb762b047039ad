-- `superblock::zero_block` meets its contract, by `blank`.
use Rattle.superblock.specs.Blank.{blank}
use Rattle.superblock.proofs.zero_block.Goals as goal

pub returns : goal.returns
returns c = blank
