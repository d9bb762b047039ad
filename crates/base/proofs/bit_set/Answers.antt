-- `base::bit_set` meets its contract. The or with one shifted bit is `with_bit v k 1`: `code_set`. Assumes nothing.
use borrow.Author.Rules.{rules}
use Rattle.base.specs.Bit.{code_set}
use Rattle.base.proofs.bit_set.Goals as goal

pub returns : goal.returns
returns c = search (rules, code_set)
