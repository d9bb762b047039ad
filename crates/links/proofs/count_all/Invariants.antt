-- count_all: the counts are those of the directories below j (`Upto`).
use Prim.Native.Nat.{ℕ, ◌<◌, ◌≤◌}
use mathlib.Core.Path.{◌≡◌}
use lib.ListN.{length}
use Rattle.base.specs.Bytes.{bytes}
use Rattle.reads.specs.Read.{shown}
use Rattle.rules.specs.Tree.{tree}
use Rattle.links.specs.Counts.{Upto}
use Rattle.links.proofs.count_all.Given as goal

abbrev pub invariant-loop-j : goal.invariant-loop-j
invariant-loop-j l = (l.j ≤ l.card.sb.ninodes) × (length l.work ≡ length l.initial.work) × ((i : ℕ) → i < 65536 → Upto (tree (shown l.card)) l.j i (bytes l.work i))
