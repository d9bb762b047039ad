-- `empty::put_inode_at` meets its contract: a change of the buffer is that change of what is seen. Assumes nothing.
use Prim.Native.Nat.{ℕ, ◌+◌, ◌*◌}
use mathlib.Core.Path.{ap}
use Rattle.recording.specs.Store.{changed}
use Rattle.empty.proofs.put_inode_at.Goals as goal

pub returns : goal.returns
returns c = changed _ _ _ _ _ _ _ _ _ (ap (λ (x : ℕ). x * 1024 + c.args.off) c.buffer_of-j.ensures) c.requires.below c.requires.inside c.put_inode.ensures
