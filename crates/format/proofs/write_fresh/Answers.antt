-- `format::write_fresh` meets its contract: the parts, put one after the other over zeros, make up a fresh card (`fresh-written`).
use mathlib.Core.Path.{◌∙◌}
use Rattle.format.specs.Laws.{fresh-written, filled_zero}
use Rattle.format.proofs.write_fresh.Goals as goal

pub returns : goal.returns
returns c =
    c.put_root.ensures
    ∙ rw (c.put_ones.ensures, c.put_inode.ensures, c.put_super.ensures, filled_zero _ _ (c.fill.ensures.after (λ y e. e)))
    (fresh-written c.args.s c.requires.0 _ c.root_inode.ensures)
