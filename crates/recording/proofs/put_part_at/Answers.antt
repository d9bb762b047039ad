-- `recording::put_part_at` meets its contract: a change of the buffer is that change of what is seen. Assumes nothing.
use Rattle.recording.specs.Store.{changed}
use Rattle.recording.proofs.put_part_at.Goals as goal

pub returns : goal.returns
returns c = changed _ _ _ _ _ _ _ _ _ c.place_of.ensures c.requires.0.below c.requires.0.inside c.copy_part.ensures
