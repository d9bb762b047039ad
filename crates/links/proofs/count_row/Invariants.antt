-- count_row: the counts are those at the start and the tally of the entries below k (`Row`).
use Prim.Native.Nat.{◌≤◌}
use mathlib.Core.Path.{◌≡◌}
use lib.ListN.{length}
use Rattle.base.specs.Bytes.{bytes}
use Rattle.reads.specs.Read.{shown}
use Rattle.rules.specs.Tree.{tree}
use Rattle.links.specs.Counts.{Row}
use Rattle.links.proofs.count_row.Given as goal

abbrev pub invariant-loop-k : goal.invariant-loop-k
invariant-loop-k l = (2 ≤ l.k) × (l.k ≤ 17152) × (length l.work ≡ length l.initial.work) × Row (tree (shown l.card)) l.j l.k (bytes l.initial.work) (bytes l.work)
