-- `superblock::addrs_of` meets its contract: the loop has filled the first p addresses as they stand on the card (`filled_more`).
use Prim.Native.Nat.{ℕ, ◌+◌, ◌*◌, ◌<◌, ◌≤◌}
use mathlib.Core.Path.{◌≡◌}
use lib.ListN.{length, get_or}
use Rattle.base.specs.Bytes.{bytes}
use Rattle.base.specs.Number.{get}
use Rattle.superblock.proofs.addrs_of.Given as goal

abbrev pub invariant-loop-p : goal.invariant-loop-p
invariant-loop-p l = (l.p ≤ 13) × (length l.addrs ≡ 13) × ((j : ℕ) → j < l.p → get_or l.addrs j 0 ≡ get (bytes l.s) (12 + 4 * j) 4)
