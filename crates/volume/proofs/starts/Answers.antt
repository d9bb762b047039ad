-- `volume::starts` meets its contract. Assumes nothing.
use Rattle.volume.specs.Opens.{starts_root, starts_handle}
use Rattle.volume.proofs.starts.Goals as goal

pub returns-then-x-eq47 : goal.returns-then-x-eq47
returns-then-x-eq47 c = starts_root _ _ _ c.get-x.ensures _ _ c.if-x-eq47.true

pub returns : goal.returns
returns c = starts_handle _ _ _ c.get-x.ensures _ _ c.if-x-eq47.false c.good_handle.ensures
