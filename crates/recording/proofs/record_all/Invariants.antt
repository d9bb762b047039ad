-- `recording::record_all` meets its contract: the state is that of `record_all` after each turn. Assumes nothing.
use Rattle.base.specs.Bytes.{bytes}
use Rattle.recording.specs.Steps.{At}
use Rattle.recording.proofs.record_all.Given as goal

abbrev pub invariant-loop-i : goal.invariant-loop-i
invariant-loop-i l = At l.fn.v l.w l.touched l.i (bytes l.image) (bytes l.initial.cache) l.cache
