-- `buffers` meets its contract: the first i buffers are those of their homes. Assumes nothing.
use mathlib.Core.Path.{◌≡◌}
use Prim.Native.Nat.{ℕ, ◌<◌}
use lib.ListN.{length, get_or}
use Rattle.bio.specs.Seen.{buffer_of}
use Rattle.transactions.proofs.buffers.Given as goal

abbrev pub invariant-loop-i : goal.invariant-loop-i
invariant-loop-i l = (length l.bufs ≡ 30) × ((k : ℕ) → k < l.i → get_or l.bufs k 0 ≡ buffer_of l.table.blocks l.table.counts (get_or l.homes k 0))
