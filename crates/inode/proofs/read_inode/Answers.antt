-- read_inode: the block holds the record at its byte (Fetch.fetch).
use mathlib.Core.Path.{refl}
use Rattle.base.specs.Bytes.{bytes}
use Rattle.inode.specs.Fetch.{fetch}
use Rattle.inode.proofs.read_inode.Goals as goal

pub returns : goal.returns
returns c =
    fetch c.args.s _ (bytes c.block-t.result.now) c.args.i _ _ c.inode_of.result refl refl
    c.block-t.ensures.byte c.inode_of.ensures
