-- `volume::read` meets its contract: each answer is a row, or `read_told`. Assumes nothing.
use native.Mathlib.Omega.{arith}
use mathlib.Core.Logic.{inl, inr}
use mathlib.Core.Path.{refl}
use Rattle.volume.specs.Inside.{numbers, lent, handle_from, not_below, read_unfit, read_device, read_past}
use Rattle.volume.proofs.ReadTold.{read_told}
use Rattle.base.specs.Decide.{no_by, yes_by}
use Rattle.content.specs.Parts.{fit_readable}
use Rattle.volume.specs.Read.{read_gave}
use Rattle.volume.proofs.read.Goals as goal

pub returns-then-not-whole : goal.returns-then-not-whole
returns-then-not-whole c = inl (no_by c.whole.ensures c.if-not-whole.true, read_gave c.args.buffer.now c.refused.ensures)

pub returns-then-cache-ne30720 : goal.returns-then-cache-ne30720
returns-then-cache-ne30720 c = inr (λ f. f (yes_by c.whole.ensures c.if-not-whole.false), inl (c.if-cache-ne30720.true, read_gave c.args.buffer.now c.refused-then-cache-ne30720.ensures))

pub returns-then-buffer-count : goal.returns-then-buffer-count
returns-then-buffer-count c = inr (λ f. f (yes_by c.whole.ensures c.if-not-whole.false), inr (λ f. f c.if-cache-ne30720.false, inl (c.if-buffer-count.true, read_gave c.args.buffer.now c.refused-then-buffer-count.ensures)))

pub returns-then-not-good_handle : goal.returns-then-not-good_handle
returns-then-not-good_handle c = inr (λ f. f (yes_by c.whole.ensures c.if-not-whole.false), inr (λ f. f c.if-cache-ne30720.false, inr (not_below c.if-buffer-count.false, inl (no_by c.good_handle.ensures c.if-not-good_handle.true, read_gave c.args.buffer.now c.refused-then-not-good_handle.ensures))))

pub read_inode-f-requires : goal.read_inode-f-requires
read_inode-f-requires c = let w = yes_by c.whole.ensures c.if-not-whole.false in let g = yes_by c.good_handle.ensures c.if-not-good_handle.false in (numbers _ _ w, (handle_from _ _ w _ g).inside)

pub fit-requires : goal.fit-requires
fit-requires c = lent _ _ (yes_by c.whole.ensures c.if-not-whole.false) _ c.if-cache-ne30720.false

pub returns-then-not-fit : goal.returns-then-not-fit
returns-then-not-fit c = read_unfit c.args.v c.args.image.now c.args.cache.now c.args.h c.read_inode-f.result (yes_by c.whole.ensures c.if-not-whole.false) c.if-cache-ne30720.false (yes_by c.good_handle.ensures c.if-not-good_handle.false) c.read_inode-f.ensures c.args.offset c.args.count c.args.buffer.now c.if-buffer-count.false (no_by c.fit.ensures c.if-not-fit.true) c.refused-then-not-fit.ensures

pub returns-then-is : goal.returns-then-is
returns-then-is c = read_device c.args.v c.args.image.now c.args.cache.now c.args.h c.read_inode-f.result (yes_by c.whole.ensures c.if-not-whole.false) c.if-cache-ne30720.false (yes_by c.good_handle.ensures c.if-not-good_handle.false) c.read_inode-f.ensures c.args.offset c.args.count c.args.buffer.now c.if-buffer-count.false (yes_by c.fit.ensures c.if-not-fit.false) (yes_by c.is.ensures c.if-is.true) c.refused-then-is.ensures

pub returns-then-size-offset : goal.returns-then-size-offset
returns-then-size-offset c = read_past c.args.v c.args.image.now c.args.cache.now c.args.h c.read_inode-f.result (yes_by c.whole.ensures c.if-not-whole.false) c.if-cache-ne30720.false (yes_by c.good_handle.ensures c.if-not-good_handle.false) c.read_inode-f.ensures c.args.offset c.args.count c.args.buffer.now c.if-buffer-count.false (yes_by c.fit.ensures c.if-not-fit.false) _ (no_by c.is.ensures c.if-is.false) refl c.if-size-offset.true c.refused-then-size-offset.ensures

pub read_content-requires : goal.read_content-requires
read_content-requires c = let w = yes_by c.whole.ensures c.if-not-whole.false in (fit_readable _ _ _ (lent _ _ w _ c.if-cache-ne30720.false) (yes_by c.fit.ensures c.if-not-fit.false), omega (arith, c.min-n.ensures, c.if-size-offset.false), omega (arith, c.min-n.ensures, c.if-buffer-count.false))

pub returns : goal.returns
returns c = rw c.done.ensures (read_told c.args.v c.args.image.now c.args.cache.now c.args.h c.read_inode-f.result (yes_by c.whole.ensures c.if-not-whole.false) c.if-cache-ne30720.false (yes_by c.good_handle.ensures c.if-not-good_handle.false) c.read_inode-f.ensures c.args.offset c.args.count c.args.buffer.now c.if-buffer-count.false (yes_by c.fit.ensures c.if-not-fit.false) _ c.min-n.result _ (no_by c.is.ensures c.if-is.false) refl c.if-size-offset.false c.min-n.ensures c.read_content.ensures)
