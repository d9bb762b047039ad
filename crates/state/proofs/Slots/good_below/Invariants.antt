-- `state::Slots::good_below` meets its contract: the slots in use that were passed are good. Assumes nothing.
use Rattle.state.specs.Slots.{GoodBelow}
use Rattle.state.proofs.Slots.good_below.Given as goal

abbrev pub invariant-loop-k : goal.invariant-loop-k
invariant-loop-k l = GoodBelow l.self.inums l.self.refs l.ninodes l.k
