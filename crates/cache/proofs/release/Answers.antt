-- Each return by its row; the last reference moves the buffer, any other does not.
use native.Mathlib.Omega.{arith}
use Rattle.base.specs.Decide.{yes_by}
use Rattle.bio.specs.Order.{named-place}
use Rattle.cache.proofs.release.Goals as goal

pub last_released-requires : goal.last_released-requires
last_released-requires c = (omega arith, named-place _ _ (yes_by c.well_formed-2.ensures c.if-not-well_formed.false).order (omega arith))
