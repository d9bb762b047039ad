-- `base::bit_of` meets its contract. The shifted and masked byte is `bit_at`: `code_bit`. Assumes nothing.
use borrow.Author.Rules.{rules}
use Rattle.base.specs.Bit.{code_bit}
use Rattle.base.proofs.bit_of.Goals as goal

pub returns : goal.returns
returns c = search (rules, code_bit)
