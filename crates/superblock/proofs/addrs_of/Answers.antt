-- `superblock::addrs_of` meets its contract: the loop has filled the first p addresses as they stand on the card (`filled_more`).
use Prim.Native.Nat.{◌+◌, ◌*◌}
use native.Mathlib.Omega.{arith}
use Rattle.base.specs.Bytes.{bytes}
use Rattle.base.specs.Number.{get}
use Rattle.base.specs.First.{tabulate_is, filled_more}
use borrow.Author.Rules.{rules}
use Rattle.superblock.proofs.addrs_of.Goals as goal

pub loop-p-init : goal.loop-p-init
loop-p-init c = (search rules, search rules, λ j h. absurd (omega arith))

pub loop-p-preserved : goal.loop-p-preserved
loop-p-preserved c = (search rules, search rules, filled_more (λ j. get (bytes c.args.s.now) (12 + 4 * j) 4) c.loop-p.addrs c.loop-p.p _ (search rules) c.get_u32.ensures c.loop-p.invariant.2)

pub returns : goal.returns
returns c = tabulate_is _ 13 _ c.loop-p.invariant.1 (λ j h. c.loop-p.invariant.2 j (omega arith))
