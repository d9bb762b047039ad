use mathlib.Core.Path.{refl}
use native.Mathlib.Omega.{arith}
use Rattle.planning.specs.Planned.{dir_small, size_few, need_few, planned, listed_as}
use Rattle.planning.proofs.make_plan.Goals as goal

-- src/lib.rt:116:9
pub free_entry-entry-requires : goal.free_entry-entry-requires
free_entry-entry-requires c = dir_small c.args.s _ c.args.i c.requires.1 c.read_inode-f.result c.read_inode-f.ensures

-- src/lib.rt:118:9
pub entry_block-at-requires : goal.entry_block-at-requires
entry_block-at-requires c = dir_small c.args.s _ c.args.i c.requires.1 c.read_inode-f.result c.read_inode-f.ensures

-- src/lib.rt:120:31
pub overflow_mul-entry : goal.overflow_mul-entry
overflow_mul-entry c = omega (arith, size_few c.args.s _ c.args.i c.requires.1 c.read_inode-f.result c.read_inode-f.ensures c.free_entry-entry.result c.free_entry-entry.ensures)

-- src/lib.rt:120:31
pub overflow_add-entry : goal.overflow_add-entry
overflow_add-entry c = omega (arith, size_few c.args.s _ c.args.i c.requires.1 c.read_inode-f.result c.read_inode-f.ensures c.free_entry-entry.result c.free_entry-entry.ensures)

-- src/lib.rt:120:9
pub slots_of-new-requires : goal.slots_of-new-requires
slots_of-new-requires c = omega (arith, size_few c.args.s _ c.args.i c.requires.1 c.read_inode-f.result c.read_inode-f.ensures c.free_entry-entry.result c.free_entry-entry.ensures)

-- src/lib.rt:123:16
pub free_blocks-free-requires : goal.free_blocks-free-requires
free_blocks-free-requires c = (c.requires.0, omega (arith, need_few c.args.s _ c.args.i c.requires.1 c.read_inode-f.result c.read_inode-f.ensures c.free_entry-entry.result c.free_entry-entry.ensures c.args.kind _ c.slots_of-new.result _ _ c.slots_of-old.ensures c.slots_of-new.ensures c.saturating_sub-more.ensures c.own_blocks.ensures))

-- src/lib.rt:129:9
pub list_all-touched-requires : goal.list_all-touched-requires
list_all-touched-requires c = omega (arith, c.free_blocks-free.ensures.most, need_few c.args.s _ c.args.i c.requires.1 c.read_inode-f.result c.read_inode-f.ensures c.free_entry-entry.result c.free_entry-entry.ensures c.args.kind _ c.slots_of-new.result _ _ c.slots_of-old.ensures c.slots_of-new.ensures c.saturating_sub-more.ensures c.own_blocks.ensures)

-- src/lib.rt:111:1
pub returns : goal.returns
returns c =
    planned c.args.s _ c.args.i c.requires.1 c.read_inode-f.result c.read_inode-f.ensures c.free_entry-entry.result c.free_entry-entry.ensures c.args.kind _ c.list_all-touched.result c.free_blocks-free.result c.maps_of-maps.result c.slots_of-old.result c.slots_of-new.result c.saturating_sub-more.result c.own_blocks.result _ c.free_inode-inum.result c.listing_block-listing.result c.entry_block-at.result
    c.free_inode-inum.ensures c.slots_of-old.ensures c.slots_of-new.ensures c.saturating_sub-more.ensures c.own_blocks.ensures refl c.free_blocks-free.ensures c.maps_of-maps.ensures
    c.listing_block-listing.ensures c.entry_block-at.ensures (listed_as _ _ _ _ _ _ _ _ _ _ c.list_all-touched.ensures c.inode_block-mine.ensures c.inode_block-its.ensures) refl
