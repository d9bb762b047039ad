-- `format::put_ones` meets its contract: the whole bytes, then the last one (`ones-written`). Assumes nothing.
use mathlib.Core.Path.{refl}
use native.Mathlib.Omega.{arith}
use Rattle.format.specs.Laws.{ones-written, part_filled}
use borrow.Author.Rules.{rules}
use Rattle.format.proofs.put_ones.Goals as goal

pub returns : goal.returns
returns c = ones-written _ _ _ _ _ (part_filled c.args.dst.now c.fill.new.self _ _ _ _ (c.fill.ensures.after (λ y e. e)) refl (omega arith)) (search rules) c.low_ones.ensures
