use mathlib.Core.Path.{◌≡◌}
use Prim.Native.Nat.{ℕ, ◌<◌}
use mathlib.Core.Bool.{false}
use Rattle.base.specs.Bytes.{bytes}
use Rattle.vacant.specs.Vacant.{free_at}
use Rattle.vacant.proofs.free_in.Given as goal

abbrev pub invariant-loop-k : goal.invariant-loop-k
invariant-loop-k l = (j : ℕ) → j < l.k → free_at (bytes l.s) l.stride l.start j ≡ false
