-- `superblock::padded` meets its contract: the loop has filled the first k bytes of the name (`filled_more`).
use Prim.Native.Nat.{ℕ, ◌<◌, ◌≤◌}
use mathlib.Core.Path.{◌≡◌}
use lib.ListN.{length, get_or}
use Rattle.base.specs.Bytes.{bytes}
use Rattle.superblock.proofs.padded.Given as goal

abbrev pub invariant-loop-k : goal.invariant-loop-k
invariant-loop-k l = (l.k ≤ 14) × (length l.name ≡ 14) × ((j : ℕ) → j < l.k → get_or l.name j 0 ≡ bytes l.part j)
