-- climbs: x is what n steps up give; the pigeonhole ends the walk (`climb_end`).
use mathlib.Core.Path.{◌≡◌}
use Rattle.reads.specs.Read.{shown}
use Rattle.rules.specs.Tree.{tree, up, follow}
use Rattle.parents.proofs.climbs.Given as goal

abbrev pub invariant-loop-n : goal.invariant-loop-n
invariant-loop-n l = l.x ≡ follow (up (tree (shown l.card))) l._n l.i
