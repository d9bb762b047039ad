-- `base::get_past` meets its contract. Past the end a memory is 0, also where the sum of the two would wrap: `bytes_past`. Assumes nothing.
use native.Mathlib.Omega.{arith}
use Prim.Native.Nat.{◌+◌}
use Rattle.base.specs.Bytes.{bytes_past}
use Rattle.base.proofs.get_past.Goals as goal

pub returns-then-s-i : goal.returns-then-s-i
returns-then-s-i c = let a = c.args in bytes_past a.s.now (a.i + a.k) (omega arith)

pub returns-then-s-i-2 : goal.returns-then-s-i-2
returns-then-s-i-2 c = let a = c.args in bytes_past a.s.now (a.i + a.k) (omega arith)
