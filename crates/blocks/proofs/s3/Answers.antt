-- s3: the root's kind, then each inode.
use Rattle.blocks.specs.Fits.{s3_each}
use Rattle.blocks.proofs.s3.Goals as goal

pub returns-then-kind-eq1 : goal.returns-then-kind-eq1
returns-then-kind-eq1 c = s3_each _ _ c.args.card.now.good.inodes_least _ _ c.kind.ensures c.if-kind-eq1.true c.inodes_ok.ensures
