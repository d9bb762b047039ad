-- `content::read_content` meets its contract. The loop's invariant: the first d bytes are in the buffer; a turn is `more`. Assumes nothing.
use mathlib.Core.Path.{◌≡◌}
use Prim.Native.Nat.{◌-◌, ◌+◌, ◌≤◌}
use lib.ListN.{length}
use Rattle.base.specs.Bytes.{bytes, put}
use Rattle.superblock.specs.Node.{node}
use Rattle.bio.specs.Memory.{memory}
use Rattle.content.specs.Parts.{content_at}
use Rattle.content.proofs.read_content.Given as goal

abbrev pub invariant-loop-d : goal.invariant-loop-d
invariant-loop-d l = (l.d ≤ l.n) × (length l.buffer ≡ length l.initial.buffer) × (bytes l.buffer ≡ put (bytes l.initial.buffer) 0 l.d (λ k. content_at (memory l.card) (node l.f) (l.offset + k)))

abbrev pub decreases-loop-d : goal.decreases-loop-d
decreases-loop-d l = l.n - l.d
