-- `state::holder` meets its contract: the buffer at the block's place, or the search's. Assumes nothing.
use Prim.Native.Nat.{◌%◌}
use native.Mathlib.Omega.{arith}
use Rattle.state.specs.Marks.{holder_here, holder_found}
use Rattle.state.proofs.holder.Goals as goal

pub overflow_cast-j : goal.overflow_cast-j
overflow_cast-j c = omega (arith, c.requires (c.args.b % 256))

pub offset_bounds-blocks-j : goal.offset_bounds-blocks-j
offset_bounds-blocks-j c = omega (arith, c.requires (c.args.b % 256))

pub bounds-blocks-j : goal.bounds-blocks-j
bounds-blocks-j c = omega (arith, c.requires (c.args.b % 256))

pub returns-then-blocks-j : goal.returns-then-blocks-j
returns-then-blocks-j c = holder_here _ _ _ (omega (arith, c.requires (c.args.b % 256))) c.if-blocks-j.true

pub returns : goal.returns
returns c = holder_found _ _ _ c.find.ensures
