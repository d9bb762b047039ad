-- climbs: x is what n steps up give; the pigeonhole ends the walk (`climb_end`).
use native.Mathlib.Omega.{arith}
use mathlib.Core.Path.{refl, ap, sym, ◌∙◌}
use Rattle.base.specs.Decide.{eq_decides}
use Rattle.reads.specs.Read.{shown}
use Rattle.rules.specs.Tree.{tree, up, follow}
use Rattle.parents.specs.Climb.{up_more, climb_end}
use Rattle.parents.proofs.climbs.Goals as goal

pub loop-n-init : goal.loop-n-init
unfolding follow
loop-n-init c = refl

pub loop-n-preserved : goal.loop-n-preserved
loop-n-preserved c = c.num_of-x.ensures.eq ∙ ap (up (tree (shown c.args.card.now))) c.loop-n.invariant ∙ sym (up_more (tree (shown c.args.card.now)) c.loop-n._n c.args.i)

pub returns : goal.returns
returns c = climb_end _ _ _ c.loop-n._n _ _ c.requires.1 (omega arith) c.loop-n.invariant (eq_decides _ _)
