-- `grow::grow_by` meets its contract: the loop's invariant: what is seen has grown by j slots; a turn is `growing_more`. Assumes nothing.
use mathlib.Core.Path.{◌≡◌}
use lib.ListN.{length}
use Rattle.base.specs.Bytes.{bytes}
use Rattle.grow.specs.Growing.{Growing}
use Rattle.grow.proofs.grow_by.Given as goal

abbrev pub invariant-loop-j : goal.invariant-loop-j
invariant-loop-j l = (length l.cache ≡ 30720) × Growing l.table.blocks l.table.counts (bytes l.initial.cache) (bytes l.cache) l.s l.i l.p (bytes l.list) l.n l.top l.j
