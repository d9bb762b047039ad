-- Numbers are distinct: the loop has shown it of those passed.
use Prim.Native.Nat.{◌≤◌}
use Rattle.bio.specs.Among.{Distinct}
use Rattle.bio.proofs.distinct.Given as goal

abbrev pub invariant-loop-i : goal.invariant-loop-i
invariant-loop-i l = (l.i ≤ l.n) × Distinct l.xs l.i l.limit
