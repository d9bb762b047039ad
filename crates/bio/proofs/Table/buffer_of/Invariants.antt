-- The search for a buffer that holds a block: none of those passed does.
use mathlib.Core.Path.{◌≡◌}
use mathlib.Core.Bool.{false}
use Prim.Native.Nat.{ℕ, ◌<◌, ◌≤◌}
use Rattle.bio.specs.Seen.{pinned}
use Rattle.bio.proofs.Table.buffer_of.Given as goal

abbrev pub invariant-loop-j : goal.invariant-loop-j
invariant-loop-j l = (l.j ≤ 30) × ((k : ℕ) → k < l.j → pinned l.self.blocks l.self.counts l.b k ≡ false)
