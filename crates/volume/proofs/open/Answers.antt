-- `volume::open` meets its contract: each answer is a row, or the next state, by the laws of specs/Opens. Assumes nothing.
use native.Mathlib.Omega.{arith}
use mathlib.Core.Path.{ap, refl}
use mathlib.Core.Logic.{inl, inr}
use Rattle.volume.specs.Opens.{start_from, count_most, came, open_stopped, open_full, open_told}
use Rattle.base.specs.Decide.{no_by, yes_by}
use Rattle.volume.specs.Answers.{left}
use Rattle.volume.specs.Open.{take_done}
use Rattle.volume.specs.Inside.{lent}
use Rattle.volume.proofs.open.Goals as goal

pub returns-then-not-whole : goal.returns-then-not-whole
returns-then-not-whole c = inl (no_by c.whole.ensures c.if-not-whole.true, ap left c.refused.ensures)

pub returns-then-cache-ne30720 : goal.returns-then-cache-ne30720
returns-then-cache-ne30720 c = inr (λ f. f (yes_by c.whole.ensures c.if-not-whole.false), inl (c.if-cache-ne30720.true, ap left c.refused-then-cache-ne30720.ensures))

pub returns-then-too_long : goal.returns-then-too_long
returns-then-too_long c = inr (λ f. f (yes_by c.whole.ensures c.if-not-whole.false), inr (λ f. f c.if-cache-ne30720.false, inl (c.too_long.ensures.true_is c.if-too_long.true, ap left c.refused-then-too_long.ensures)))

pub returns-then-not-starts : goal.returns-then-not-starts
returns-then-not-starts c = inr (λ f. f (yes_by c.whole.ensures c.if-not-whole.false), inr (λ f. f c.if-cache-ne30720.false, inr (c.too_long.ensures.false_is c.if-too_long.false, inl (no_by c.starts.ensures c.if-not-starts.true, ap left c.refused-then-not-starts.ensures))))

pub follow-requires : goal.follow-requires
follow-requires c = let w = yes_by c.whole.ensures c.if-not-whole.false in (lent _ _ w _ c.if-cache-ne30720.false, rw c.start.ensures (start_from c.args.v c.args.image.now w c.args.path.now c.args.h (yes_by c.starts.ensures c.if-not-starts.false)))

pub returns-then-not-has_room : goal.returns-then-not-has_room
returns-then-not-has_room c = open_full c.args.v c.args.image.now c.args.cache.now c.args.path.now c.args.h (yes_by c.whole.ensures c.if-not-whole.false) c.if-cache-ne30720.false (c.too_long.ensures.false_is c.if-too_long.false) (yes_by c.starts.ensures c.if-not-starts.false) _ (came c.args.v c.args.image.now c.args.cache.now c.args.path.now c.args.h c.start.result c.follow.result _ c.start.ensures c.follow.ensures c.in-Ok.is) _ c.slot_for-k.ensures (no_by c.has_room.ensures c.if-not-has_room.true) c.refused-then-not-has_room.ensures

pub returns-else-not-has_room : goal.returns-else-not-has_room
returns-else-not-has_room c = rw (take_done _ _ _ _ c.take_slot.ensures (let r = (yes_by c.has_room.ensures c.if-not-has_room.false) in record { slot = r.slot; below = omega (arith, r.below, count_most c.args.v c.args.image.now (yes_by c.whole.ensures c.if-not-whole.false) c.slot_for-k.result r.slot) })) (open_told c.args.v c.args.image.now c.args.cache.now c.args.path.now c.args.h (yes_by c.whole.ensures c.if-not-whole.false) c.if-cache-ne30720.false (c.too_long.ensures.false_is c.if-too_long.false) (yes_by c.starts.ensures c.if-not-starts.false) _ (came c.args.v c.args.image.now c.args.cache.now c.args.path.now c.args.h c.start.result c.follow.result _ c.start.ensures c.follow.ensures c.in-Ok.is) c.slot_for-k.result _ _ _ _ c.slot_for-k.ensures (yes_by c.has_room.ensures c.if-not-has_room.false) refl refl refl refl)

pub returns-in-Err : goal.returns-in-Err
returns-in-Err c = open_stopped c.args.v c.args.image.now c.args.cache.now c.args.path.now c.args.h (yes_by c.whole.ensures c.if-not-whole.false) c.if-cache-ne30720.false (c.too_long.ensures.false_is c.if-too_long.false) (yes_by c.starts.ensures c.if-not-starts.false) _ (came c.args.v c.args.image.now c.args.cache.now c.args.path.now c.args.h c.start.result c.follow.result _ c.start.ensures c.follow.ensures c.in-Err.is) c.refused-in-Err.ensures
