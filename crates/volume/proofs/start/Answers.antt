-- `volume::start` meets its contract. Assumes nothing.
use Rattle.volume.specs.Opens.{origin-root, origin_handle}
use Rattle.volume.proofs.start.Goals as goal

pub returns-then-x-eq47 : goal.returns-then-x-eq47
returns-then-x-eq47 c = origin-root _ _ _ c.get-x.ensures c.if-x-eq47.true

pub returns : goal.returns
returns c = origin_handle _ _ _ c.get-x.ensures c.if-x-eq47.false
