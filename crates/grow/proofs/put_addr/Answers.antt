-- `grow::put_addr` meets its contract: the record with one address changed is that address's bytes changed (`addr_put`). Assumes nothing.
use Rattle.grow.specs.Growing.{addr_put}
use borrow.Author.Rules.{rules}
use Rattle.grow.proofs.put_addr.Goals as goal

pub returns : goal.returns
returns c = addr_put _ _ _ _ c.args.s c.args.i c.requires.0 (λ x. search rules) _ c.node_at-a.ensures _ _ c.inode_of-r.ensures c.put_inode.ensures c.args.p _ c.requires.1 c.with_addr.ensures
