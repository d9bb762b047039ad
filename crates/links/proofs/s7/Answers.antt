-- s7: the root, then all others.
use Rattle.base.specs.Decide.{alike}
use Rattle.links.specs.Counts.{s7_to, s7_from}
use mathlib.Core.Path.{sym, ◌∙◌}
use Rattle.links.proofs.s7.Goals as goal

pub returns-then-nlink-eq1 : goal.returns-then-nlink-eq1
returns-then-nlink-eq1 c = alike (s7_to _ _ c.args.card.now.good _ c.requires.1 (sym c.nlink.ensures.eq ∙ c.if-nlink-eq1.true)) (s7_from _ _ c.args.card.now.good _ c.requires.1) c.links_ok.ensures
