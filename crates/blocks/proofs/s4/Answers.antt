-- s4: cleared marks, all fresh, then the bits.
use Rattle.base.specs.Decide.{no_by, yes_by}
use Rattle.blocks.specs.Marks.{s4_not_fresh, s4_bits, cleared}
use Rattle.blocks.proofs.s4.Goals as goal

pub returns-else-mark_all : goal.returns-else-mark_all
returns-else-mark_all c = rw c.if-mark_all.false (s4_not_fresh _ c.args.card.now.good _ _ (cleared _ _ c.clear.ensures) c.requires.0 (no_by c.mark_all.ensures.fresh c.if-mark_all.false))

pub returns-then-mark_all : goal.returns-then-mark_all
returns-then-mark_all c = s4_bits _ c.args.card.now.good _ _ (cleared _ _ c.clear.ensures) c.requires.0 _ _ (c.mark_all.ensures.marks c.if-mark_all.true) (yes_by c.mark_all.ensures.fresh c.if-mark_all.true) c.bits_ok.ensures
