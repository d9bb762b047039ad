-- `base::read_u16` meets its contract. The two bytes joined are the number at a: `from_two`. Assumes nothing.
use mathlib.Core.Path.{refl}
use Rattle.base.specs.Bytes.{bytes}
use Rattle.base.specs.Number.{from_two, here}
use Rattle.base.proofs.read_u16.Goals as goal

pub returns : goal.returns
returns c = let a = c.args in from_two (bytes a.s.now) a.a _ _ _ (here (bytes a.s.now) a.a) refl c.from_le_bytes.ensures
