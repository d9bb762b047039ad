-- `superblock::super_of` meets its contract: each number is what `get_u32` reads at its place.
use Rattle.superblock.proofs.super_of.Goals as goal

pub returns : goal.returns
returns c = λ i. record {
  size = c.get_u32.ensures i;
  nblocks = c.get_u32-2.ensures i;
  ninodes = c.get_u32-3.ensures i;
  nlog = c.get_u32-4.ensures i;
  inodestart = c.get_u32-5.ensures i;
  bmapstart = c.get_u32-6.ensures i;
}
