-- spot: the block of the slot and the byte in it, by `spot_is`.
use Rattle.reads.specs.Read.{spot_is}
use Rattle.reads.proofs.Card.spot.Goals as goal

pub returns : goal.returns
returns c = spot_is _ _ _ _ _ _ c.requires.0 c.requires.2 c.requires.3 c.slot_of.ensures c.slot_of-2.ensures
