-- `base::read_u32` meets its contract. The four bytes joined are the number at a: `from_four`. Assumes nothing.
use mathlib.Core.Path.{refl}
use Rattle.base.specs.Bytes.{bytes}
use Rattle.base.specs.Number.{from_four, here}
use Rattle.base.proofs.read_u32.Goals as goal

pub returns : goal.returns
returns c = let a = c.args in from_four (bytes a.s.now) a.a _ _ _ _ _ (here (bytes a.s.now) a.a) refl refl refl c.from_le_bytes.ensures
