-- fresh_name: each entry before is asked.
use mathlib.Core.Path.{refl}
use borrow.Author.Rules.{rules}
use Rattle.reads.specs.Every.{every_below}
use Rattle.names.specs.Names.{differs_at}
use Rattle.names.proofs.fresh_name.Goals as goal

pub returns : goal.returns
returns c = every_below _ refl c.all.ensures.ran (λ x q b k. search (rules, differs_at))
