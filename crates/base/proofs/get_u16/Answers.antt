-- `base::get_u16` meets its contract: where the slice reaches it is `read_u16`; else the two bytes joined are the number at a: `from_two`. Assumes nothing.
use Rattle.base.specs.Bytes.{bytes}
use Rattle.base.specs.Number.{from_two}
use Rattle.base.proofs.get_u16.Goals as goal

pub returns : goal.returns
returns c = let a = c.args in from_two (bytes a.s.now) a.a _ _ _ c.get_past.ensures c.get_past-2.ensures c.from_le_bytes.ensures
