-- count_all: the counts are those of the directories below j (`Upto`).
use Rattle.links.specs.Counts.{all_start, all_turn}
use borrow.Author.Rules.{rules}
use Rattle.links.proofs.count_all.Goals as goal

pub loop-j-init : goal.loop-j-init
loop-j-init c = (search rules, search rules, all_start _ _ c.requires.2)

pub loop-j-preserved : goal.loop-j-preserved
loop-j-preserved c = (search rules, search rules, all_turn _ c.loop-j.j _ _ c.loop-j.invariant.2 c.count_row.ensures)
