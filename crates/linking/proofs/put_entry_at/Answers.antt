-- `linking::put_entry_at` meets its contract: a store in the block's buffer is that change of what is seen (`changed`).
use native.Mathlib.Omega.{arith}
use Rattle.recording.specs.Store.{changed}
use Rattle.linking.proofs.put_entry_at.Goals as goal

pub returns : goal.returns
returns c = changed _ _ _ _ _ _ _ _ _ (omega (arith, c.buffer_of-j.ensures)) c.requires.below c.requires.inside c.put_entry.ensures
