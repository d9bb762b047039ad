-- count_row: the counts are those at the start and the tally of the entries below k (`Row`).
use native.Mathlib.Omega.{arith}
use mathlib.Core.Path.{refl}
use Rattle.links.specs.Counts.{row_start, row_turn, row_done}
use borrow.Author.Rules.{rules}
use Rattle.links.proofs.count_row.Goals as goal

pub loop-k-init : goal.loop-k-init
loop-k-init c = (search rules, search rules, search rules, row_start _ _ _)

pub loop-k-preserved : goal.loop-k-preserved
loop-k-preserved c = (search rules, omega (arith, c.requires.0.most), search rules, row_turn _ _ c.loop-k.k _ c.loop-k.work _ _ c.loop-k.invariant.3 c.loop-k.invariant.0 c.num_of.ensures.eq (omega (arith, c.num_of.ensures.lt, c.loop-k.invariant.2, c.requires.1)) refl)

pub returns : goal.returns
returns c = row_done _ _ c.loop-k.k _ _ _ c.loop-k.invariant.3 c.requires.0 c.loop-k-test.false c.loop-k.invariant.0 c.loop-k.invariant.1
