-- s5: each inode is asked.
use mathlib.Core.Path.{refl}
use borrow.Author.Rules.{rules}
use Rattle.reads.specs.Every.{every_below}
use Rattle.base.specs.Bytes.{bytes}
use Rattle.base.specs.Decide.{alike}
use Rattle.names.specs.Names.{s5_to}
use Rattle.names.proofs.s5.Goals as goal

pub returns : goal.returns
returns c = alike (s5_to c.args.card.now.sb (bytes c.args.card.now.image.now)) (λ s i l. s.each i) (every_below _ refl c.all.ensures.ran (λ x q b k. search rules))
