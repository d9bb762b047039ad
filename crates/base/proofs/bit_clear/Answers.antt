-- `base::bit_clear` meets its contract. The mask of the complement is `with_bit v k 0`: `code_clear`. Assumes nothing.
use borrow.Author.Rules.{rules}
use Rattle.base.specs.Bit.{code_clear}
use Rattle.base.proofs.bit_clear.Goals as goal

pub returns : goal.returns
returns c = search (rules, code_clear)
