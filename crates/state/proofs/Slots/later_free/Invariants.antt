-- `state::Slots::later_free` meets its contract: the bits of the counts passed, together (`Together`). Assumes nothing.
use Rattle.state.specs.Slots.{Together}
use Rattle.state.proofs.Slots.later_free.Given as goal

abbrev pub invariant-loop-k : goal.invariant-loop-k
invariant-loop-k l = Together l.self.refs l.k l.any
