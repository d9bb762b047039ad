-- The digits end within the text.
use Rattle.std.proofs.Common.{◌≤◌, length}
use Rattle.cache_replay.proofs.Numbers.take.Given as goal

abbrev pub invariant-loop-i : goal.invariant-loop-i
invariant-loop-i l = l.end ≤ length l.digits
