-- judge_tree: the counts start at 0.
use Rattle.blocks.specs.Marks.{cleared}
use borrow.Author.Rules.{rules}
use Rattle.checker.proofs.judge_tree.Goals as goal

pub count_all-requires : goal.count_all-requires
count_all-requires c = (c.requires.0.s3, search rules, cleared _ _ c.clear.ensures)
