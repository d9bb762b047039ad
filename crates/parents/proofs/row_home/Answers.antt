-- row_home: each of the range is asked.
use borrow.Author.Rules.{rules}
use Rattle.reads.specs.Every.{every}
use Rattle.parents.proofs.row_home.Goals as goal

pub returns : goal.returns
returns c = every _ c.all.ensures.ran (λ x q b k. search rules)
