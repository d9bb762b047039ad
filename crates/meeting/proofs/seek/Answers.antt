use Rattle.inode.specs.Fetch.{fetched}
use Rattle.meeting.specs.Meets.{fit_small, sought-at, sought_missing, sought-live}
use Rattle.meeting.proofs.seek.Goals as goal

pub dir_lookup-requires : goal.dir_lookup-requires
dir_lookup-requires c = fit_small c.args.s _ c.args.p.inum c.read_inode-f.result (fetched c.args.s _ c.args.p.inum c.read_inode-f.result c.requires.1.from.some c.requires.1.from.inside c.read_inode-f.ensures) c.requires.1.fit

pub named-requires : goal.named-requires
named-requires c = (c.requires.0, sought-live c.args.s _ c.args.path.now c.args.p c.read_inode-f.result (fetched c.args.s _ c.args.p.inum c.read_inode-f.result c.requires.1.from.some c.requires.1.from.inside c.read_inode-f.ensures) c.requires.1.dir c.requires.1.fit c.dir_lookup.result c.dir_lookup.ensures _ c.in-Some.is)

pub returns-in-Some : goal.returns-in-Some
returns-in-Some c = sought-at c.args.s _ c.args.path.now c.args.p c.read_inode-f.result (fetched c.args.s _ c.args.p.inum c.read_inode-f.result c.requires.1.from.some c.requires.1.from.inside c.read_inode-f.ensures) c.requires.1.dir c.requires.1.fit c.dir_lookup.result c.dir_lookup.ensures _ _ c.in-Some.is c.named.ensures

pub returns-in-None : goal.returns-in-None
returns-in-None c = sought_missing c.args.s _ c.args.path.now c.args.p c.read_inode-f.result (fetched c.args.s _ c.args.p.inum c.read_inode-f.result c.requires.1.from.some c.requires.1.from.inside c.read_inode-f.ensures) c.requires.1.dir c.requires.1.fit c.dir_lookup.result c.dir_lookup.ensures c.in-None.is
