-- `volume::stat` meets its contract: each answer is a row, or `stat_told`. Assumes nothing.
use mathlib.Core.Path.{ap}
use mathlib.Core.Logic.{inl, inr}
use Rattle.volume.specs.Signed.{stored}
use Rattle.volume.specs.Inside.{numbers, lent, handle_from, stat_unfit, stat_told}
use Rattle.base.specs.Decide.{no_by, yes_by}
use Rattle.volume.specs.Answers.{left}
use Rattle.volume.proofs.stat.Goals as goal

pub returns-then-not-whole : goal.returns-then-not-whole
returns-then-not-whole c = inl (no_by c.whole.ensures c.if-not-whole.true, ap left c.refused.ensures)

pub returns-then-cache-ne30720 : goal.returns-then-cache-ne30720
returns-then-cache-ne30720 c = inr (λ f. f (yes_by c.whole.ensures c.if-not-whole.false), inl (c.if-cache-ne30720.true, ap left c.refused-then-cache-ne30720.ensures))

pub returns-then-not-good_handle : goal.returns-then-not-good_handle
returns-then-not-good_handle c = inr (λ f. f (yes_by c.whole.ensures c.if-not-whole.false), inr (λ f. f c.if-cache-ne30720.false, inl (no_by c.good_handle.ensures c.if-not-good_handle.true, ap left c.refused-then-not-good_handle.ensures)))

pub read_inode-f-requires : goal.read_inode-f-requires
read_inode-f-requires c = let w = yes_by c.whole.ensures c.if-not-whole.false in let g = yes_by c.good_handle.ensures c.if-not-good_handle.false in (numbers _ _ w, (handle_from _ _ w _ g).inside)

pub fit-requires : goal.fit-requires
fit-requires c = lent _ _ (yes_by c.whole.ensures c.if-not-whole.false) _ c.if-cache-ne30720.false

pub returns-then-not-fit : goal.returns-then-not-fit
returns-then-not-fit c = stat_unfit c.args.v c.args.image.now c.args.cache.now c.args.h c.read_inode-f.result (yes_by c.whole.ensures c.if-not-whole.false) c.if-cache-ne30720.false (yes_by c.good_handle.ensures c.if-not-good_handle.false) c.read_inode-f.ensures (no_by c.fit.ensures c.if-not-fit.true) c.refused-then-not-fit.ensures

pub returns : goal.returns
returns c = rw c.done.ensures (stat_told c.args.v c.args.image.now c.args.cache.now c.args.h c.read_inode-f.result (yes_by c.whole.ensures c.if-not-whole.false) c.if-cache-ne30720.false (yes_by c.good_handle.ensures c.if-not-good_handle.false) c.read_inode-f.ensures _ (yes_by c.fit.ensures c.if-not-fit.false) (stored _ _ c.signed.ensures))
