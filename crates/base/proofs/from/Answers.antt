-- `base::from` meets its contract. A part that runs to the end reads as the whole moved by i: `bytes_from`; past the end both are 0: `bytes-none`. Assumes nothing.
use borrow.Author.Rules.{rules}
use Prim.Native.Nat.{◌-◌}
use lib.ListN.{length}
use Rattle.base.specs.Bytes.{bytes_from, bytes-none}
use Rattle.base.proofs.from.Goals as goal

pub returns-then-i-s : goal.returns-then-i-s
returns-then-i-s c = λ k. bytes_from c.args.s.now c.args.i k (length c.args.s.now - c.args.i) (search rules)

pub returns-else-i-s : goal.returns-else-i-s
returns-else-i-s c = λ k. bytes-none c.args.s.now c.args.i k (search rules)
