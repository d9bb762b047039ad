-- What came fits the buffer.
use Prim.Native.Nat.{◌≤◌}
use lib.ListN.{length}
use Rattle.cache_replay.proofs.read_all.Given as goal

abbrev pub invariant-loop : goal.invariant-loop
invariant-loop g l = l.n ≤ length l.buffer
