-- `superblock::padded` meets its contract: the loop has filled the first k bytes of the name (`filled_more`).
use native.Mathlib.Omega.{arith}
use Rattle.base.specs.Bytes.{bytes}
use Rattle.base.specs.First.{tabulate_is, filled_more}
use Rattle.superblock.specs.Entry.{padded}
use borrow.Author.Rules.{rules}
use Rattle.superblock.proofs.padded.Goals as goal

pub loop-k-init : goal.loop-k-init
loop-k-init c = (search rules, search rules, λ j h. absurd (omega arith))

pub loop-k-preserved : goal.loop-k-preserved
loop-k-preserved c = (search rules, search rules, filled_more (bytes c.args.part.now) c.loop-k.name c.loop-k.k _ (search rules) c.get.ensures c.loop-k.invariant.2)

pub returns : goal.returns
unfolding padded
returns c = tabulate_is _ 14 _ c.loop-k.invariant.1 (λ j h. c.loop-k.invariant.2 j (omega arith))
