-- fetch_fit: the inode fetched is the Disk's, and the test says whether it is fit.
use Rattle.std.proofs.Common.{refl}
use Rattle.base.specs.Decide.{yes_by}
use Rattle.inode.specs.Fetch.{fetched}
use Rattle.walk.specs.Step.{fetches_no}
use Rattle.walk.proofs.fetch_fit.Goals as goal

pub returns-then-not-fit : goal.returns-then-not-fit
returns-then-not-fit c = (refl, fetches_no c.args.s _ c.args.i c.read_inode-f.result (fetched c.args.s _ c.args.i c.read_inode-f.result c.requires.1.some c.requires.1.inside c.read_inode-f.ensures) c.fit.ensures c.if-not-fit.true)

pub returns : goal.returns
returns c = record { is = fetched c.args.s _ c.args.i c.read_inode-f.result c.requires.1.some c.requires.1.inside c.read_inode-f.ensures; fit = yes_by c.fit.ensures c.if-not-fit.false }
