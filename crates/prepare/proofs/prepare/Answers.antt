-- `prepare::prepare` meets its contract: what the parts find, together (`prepares`). Assumes nothing.
use Rattle.prepare.specs.Prepares.{prepares, code_p_few, code_need, code_last, more_room, kilobytes_few, kilobytes_end}
use Rattle.prepare.proofs.prepare.Goals as goal

pub free_blocks-free-requires : goal.free_blocks-free-requires
free_blocks-free-requires c = (c.requires.numbers, more_room _ (code_need _ _ _ c.args.offset c.args.count c.requires _ c.read_inode-f.ensures _ c.slots_of-p.ensures _ _ c.slots_of.ensures c.saturating_sub-need.ensures))

pub spots_of-spots-requires : goal.spots_of-spots-requires
spots_of-spots-requires c = (more_room _ (kilobytes_few _ _ _ c.requires.few c.kilobytes-m.ensures), kilobytes_end c.args.offset c.args.count _ c.requires.limit c.kilobytes-m.ensures, code_last _ _ _ c.args.offset c.args.count c.requires _ c.read_inode-f.ensures _ c.slots_of-p.ensures _ c.kilobytes-m.ensures)

pub touches-touched-requires : goal.touches-touched-requires
touches-touched-requires c = (c.requires.numbers, kilobytes_few _ _ _ c.requires.few c.kilobytes-m.ensures, code_need _ _ _ c.args.offset c.args.count c.requires _ c.read_inode-f.ensures _ c.slots_of-p.ensures _ _ c.slots_of.ensures c.saturating_sub-need.ensures, code_p_few _ _ _ c.args.offset c.args.count c.requires _ c.read_inode-f.ensures _ c.slots_of-p.ensures)

pub returns : goal.returns
returns c = prepares _ _ _ c.args.offset c.args.count c.requires _ _ _ _ _ _ _ _ _ c.read_inode-f.ensures c.slots_of-p.ensures c.slots_of.ensures c.saturating_sub-need.ensures c.free_blocks-free.ensures c.top_of-top.ensures c.kilobytes-m.ensures c.spots_of-spots.ensures c.touches-touched.ensures
