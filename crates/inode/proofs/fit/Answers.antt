-- fit: a law of Fitness for each answer; the two blocks found are the bitmap and the indirect block of what is seen.
use mathlib.Core.Path.{refl}
use Rattle.base.specs.Bytes.{bytes}
use Rattle.base.specs.Decide.{no_by, yes_by}
use Rattle.superblock.specs.Node.{node}
use Rattle.inode.specs.Fitness.{unfit_address, fit_small, fit_large}
use Rattle.inode.proofs.fit.Goals as goal

pub returns-then-not-addresses_good : goal.returns-then-not-addresses_good
returns-then-not-addresses_good c =
    unfit_address c.args.s c.requires.numbers _ (bytes c.block-map.result.now) c.block-map.ensures.byte (node c.args.f) _
    refl (no_by c.addresses_good.ensures c.if-not-addresses_good.true)

pub returns-then-n-le12 : goal.returns-then-n-le12
returns-then-n-le12 c =
    fit_small c.args.s c.requires.numbers _ (bytes c.block-map.result.now) c.block-map.ensures.byte (node c.args.f) _
    refl (yes_by c.shape_ok.ensures c.if-not-shape_ok.false) (yes_by c.addresses_good.ensures c.if-not-addresses_good.false) c.if-n-le12.true

pub returns : goal.returns
returns c =
    fit_large c.args.s c.requires.numbers _ (bytes c.block-map.result.now) c.block-map.ensures.byte (node c.args.f) _
    refl (yes_by c.shape_ok.ensures c.if-not-shape_ok.false) (yes_by c.addresses_good.ensures c.if-not-addresses_good.false) (bytes c.block-table.result.now) c.if-n-le12.false
    c.block-table.ensures.byte c.entries_good.ensures
