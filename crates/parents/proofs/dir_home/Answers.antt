-- dir_home: past the last entry nothing is asked.
use Rattle.parents.specs.Climb.{row-all}
use Rattle.parents.proofs.dir_home.Goals as goal

pub row_home-requires : goal.row_home-requires
row_home-requires c = (c.requires, c.entries_of.ensures.most)

pub returns : goal.returns
returns c = row-all _ _ _ _ _ c.entries_of.ensures c.row_home.ensures
