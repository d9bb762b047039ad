-- The number so far has nine digits at most.
use Rattle.std.proofs.Common.{◌<◌}
use Rattle.calls_replay.proofs.number.Given as goal

abbrev pub invariant-loop-x : goal.invariant-loop-x
invariant-loop-x l = l.v < 1000000000
