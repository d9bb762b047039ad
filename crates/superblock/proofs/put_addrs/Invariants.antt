-- `superblock::put_addrs` meets its contract: the loop has put the first p addresses (`addrs_more`).
use Prim.Native.Nat.{◌+◌, ◌*◌, ◌≤◌}
use mathlib.Core.Path.{◌≡◌}
use lib.ListN.{length}
use Rattle.base.specs.Bytes.{bytes, put}
use Rattle.superblock.specs.Node.{addr_bytes}
use Rattle.superblock.proofs.put_addrs.Given as goal

abbrev pub invariant-loop-p : goal.invariant-loop-p
invariant-loop-p l = (l.p ≤ 13) × (length l.dst ≡ length l.initial.dst) × (bytes l.dst ≡ put (bytes l.initial.dst) (l.a + 12) (4 * l.p) (λ k. addr_bytes (bytes l.addrs) (12 + k)))
