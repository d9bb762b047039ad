-- s6: the root's two tests, once, home, and the walk.
use mathlib.Core.Path.{sym, ◌∙◌}
use Rattle.base.specs.Decide.{not_so, no_by, yes_by, alike}
use Rattle.parents.specs.Climb.{is_once, is_home, stays, s6_to, s6_reaches}
use Rattle.parents.proofs.s6.Goals as goal

pub returns-then-not-all_once : goal.returns-then-not-all_once
returns-then-not-all_once c = not_so (λ s. no_by c.all_once.ensures c.if-not-all_once.true (is_once _ c.args.card.now.good _ c.requires.0 _ c.requires.2 s))

pub returns-else-all_home : goal.returns-else-all_home
returns-else-all_home c = rw c.if-all_home.false (not_so (λ s. no_by c.all_home.ensures c.if-all_home.false (is_home _ c.args.card.now.good _ c.requires.0 s)))

pub all_climb-requires : goal.all_climb-requires
all_climb-requires c = (c.requires.0, stays _ c.args.card.now.good _ c.requires.0 _ c.requires.2 (sym c.num_of.ensures.eq ∙ c.if-num_of-ne1.false) (yes_by c.all_once.ensures c.if-not-all_once.false) (yes_by c.all_home.ensures c.if-all_home.true))

pub returns-then-all_home : goal.returns-then-all_home
returns-then-all_home c = alike (s6_to _ c.args.card.now.good _ c.requires.0 _ c.requires.2 (sym c.num_of.ensures.eq ∙ c.if-num_of-ne1.false) (yes_by c.all_once.ensures c.if-not-all_once.false) (yes_by c.all_home.ensures c.if-all_home.true) c.if-work-ne0.false) (s6_reaches _ c.args.card.now.good _ c.requires.0) c.all_climb.ensures
