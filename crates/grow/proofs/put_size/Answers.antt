-- `grow::put_size` meets its contract: the record with its size changed is the size's bytes changed (`size_put`). Assumes nothing.
use Rattle.grow.specs.Growing.{size_put}
use borrow.Author.Rules.{rules}
use Rattle.grow.proofs.put_size.Goals as goal

pub returns : goal.returns
returns c = size_put _ _ _ _ c.args.s c.args.i c.requires (λ x. search rules) _ c.node_at-a.ensures _ _ c.inode_of-r.ensures c.put_inode.ensures _ c.with_size.ensures
