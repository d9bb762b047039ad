-- all_home: each is asked.
use mathlib.Core.Path.{refl}
use borrow.Author.Rules.{rules}
use Rattle.reads.specs.Every.{every_below}
use Rattle.parents.proofs.all_home.Goals as goal

pub returns : goal.returns
returns c = every_below _ refl c.all.ensures.ran (λ x q b k. search rules)
