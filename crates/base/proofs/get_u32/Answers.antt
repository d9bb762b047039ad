-- `base::get_u32` meets its contract: where the slice reaches it is `read_u32`; else the four bytes joined are the number at a: `from_four`. Assumes nothing.
use Rattle.base.specs.Bytes.{bytes}
use Rattle.base.specs.Number.{from_four}
use Rattle.base.proofs.get_u32.Goals as goal

pub returns : goal.returns
returns c = let a = c.args in from_four (bytes a.s.now) a.a _ _ _ _ _ c.get_past.ensures c.get_past-2.ensures c.get_past-3.ensures c.get_past-4.ensures c.from_le_bytes.ensures
