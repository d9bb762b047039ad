-- dir_if: only a directory is asked.
use Rattle.names.specs.Names.{listing}
use Rattle.names.proofs.dir_if.Goals as goal

pub dir_ok-requires : goal.dir_ok-requires
dir_ok-requires c = (c.requires, listing _ _ _ _ _ c.requires c.kind.ensures c.if-kind-ne1.false c.size.ensures)
