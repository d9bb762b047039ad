-- ascends: the addresses passed are at most the last, and distinct (Apart.Climbed); a turn is `climbed_direct`.
use Rattle.base.specs.Bytes.{bytes}
use Rattle.apart.specs.Apart.{slot_by, Climbed}
use Rattle.apart.proofs.ascends.Given as goal

abbrev pub invariant-loop-p : goal.invariant-loop-p
invariant-loop-p l = Climbed (slot_by l.f (bytes l.table)) l.p l.last
