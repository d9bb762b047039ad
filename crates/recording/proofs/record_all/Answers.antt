-- `recording::record_all` meets its contract: the state is that of `record_all` after each turn. Assumes nothing.
use native.Mathlib.Omega.{arith}
use mathlib.Core.Path.{sym, ap, ◌∙◌}
use lib.ListN.{length}
use Rattle.base.specs.Bytes.{bytes}
use Rattle.recording.specs.Steps.{at_none, at_ready, at_old, at_new, at_count}
use Rattle.recording.proofs.record_all.Goals as goal
use Rattle.recording.proofs.record_all.Goals.{then-not-is_recorded, else-not-is_recorded}

pub loop-i-init : goal.loop-i-init
loop-i-init c = at_none _ _ _ _ c.requires.2

pub is_recorded-requires : goal.is_recorded-requires
is_recorded-requires c = omega (arith, at_count _ _ _ _ _ _ _ _ c.requires.0 c.loop-i.invariant c.loop-i-test.true)

pub overflow_mul-k : goal.overflow_mul-k
overflow_mul-k c =
    let r = at_ready _ _ _ _ _ _ _ _ c.requires.0 c.loop-i.invariant c.loop-i-test.true _ (sym c.is_recorded.ensures ∙ c.if-not-is_recorded.true) c.choose-k.ensures in
    omega (arith, r.below)

pub copy_part-requires : goal.copy_part-requires
copy_part-requires c =
    let r = at_ready _ _ _ _ _ _ _ _ c.requires.0 c.loop-i.invariant c.loop-i-test.true _ (sym c.is_recorded.ensures ∙ c.if-not-is_recorded.true) c.choose-k.ensures in
    (omega (arith, r.below, c.loop-i.invariant.long), omega (arith, r.inside))

pub bounds-w-k : goal.bounds-w-k
bounds-w-k c =
    let r = at_ready _ _ _ _ _ _ _ _ c.requires.0 c.loop-i.invariant c.loop-i-test.true _ (sym c.is_recorded.ensures ∙ c.if-not-is_recorded.true) c.choose-k.ensures in
    r.below

pub offset_bounds-w-k : goal.offset_bounds-w-k
offset_bounds-w-k c =
    let r = at_ready _ _ _ _ _ _ _ _ c.requires.0 c.loop-i.invariant c.loop-i-test.true _ (sym c.is_recorded.ensures ∙ c.if-not-is_recorded.true) c.choose-k.ensures in
    omega (arith, r.below)

pub offset_bounds-w-k-then-not-is_recorded : goal.offset_bounds-w-k-then-not-is_recorded
offset_bounds-w-k-then-not-is_recorded c =
    let r = at_ready _ _ _ _ _ _ _ _ c.requires.0 c.loop-i.invariant c.loop-i-test.true _ (sym c.is_recorded.ensures ∙ c.if-not-is_recorded.true) c.choose-k.ensures in
    omega (arith, r.below)

pub bounds-w-k-then-not-is_recorded : goal.bounds-w-k-then-not-is_recorded
bounds-w-k-then-not-is_recorded c =
    let r = at_ready _ _ _ _ _ _ _ _ c.requires.0 c.loop-i.invariant c.loop-i-test.true _ (sym c.is_recorded.ensures ∙ c.if-not-is_recorded.true) c.choose-k.ensures in
    r.below

pub bounds-w-k-then-not-is_recorded-2 : goal.bounds-w-k-then-not-is_recorded-2
bounds-w-k-then-not-is_recorded-2 c =
    let r = at_ready _ _ _ _ _ _ _ _ c.requires.0 c.loop-i.invariant c.loop-i-test.true _ (sym c.is_recorded.ensures ∙ c.if-not-is_recorded.true) c.choose-k.ensures in
    r.below

pub offset_bounds-w-last : goal.offset_bounds-w-last
offset_bounds-w-last c =
    let r = at_ready _ _ _ _ _ _ _ _ c.requires.0 c.loop-i.invariant c.loop-i-test.true _ (sym c.is_recorded.ensures ∙ c.if-not-is_recorded.true) c.choose-k.ensures in
    omega (arith, r.few)

pub bounds-w-last : goal.bounds-w-last
bounds-w-last c =
    let r = at_ready _ _ _ _ _ _ _ _ c.requires.0 c.loop-i.invariant c.loop-i-test.true _ (sym c.is_recorded.ensures ∙ c.if-not-is_recorded.true) c.choose-k.ensures in
    r.few

pub overflow_add-w-then-not-is_recorded : goal.overflow_add-w-then-not-is_recorded
overflow_add-w-then-not-is_recorded c =
    let r = at_ready _ _ _ _ _ _ _ _ c.requires.0 c.loop-i.invariant c.loop-i-test.true _ (sym c.is_recorded.ensures ∙ c.if-not-is_recorded.true) c.choose-k.ensures in
    omega (arith, r.few)

pub overflow_add-w : goal.overflow_add-w
overflow_add-w c =
    let r = at_ready _ _ _ _ _ _ _ _ c.requires.0 c.loop-i.invariant c.loop-i-test.true _ (sym c.is_recorded.ensures ∙ c.if-not-is_recorded.true) c.choose-k.ensures in
    omega (arith, r.free)

pub overflow_cast-last : goal.overflow_cast-last
overflow_cast-last c = omega (arith, at_count _ _ _ _ _ _ _ _ c.requires.0 c.loop-i.invariant c.loop-i-test.true)

pub loop-i-preserved : goal.loop-i-preserved
loop-i-preserved c = elim c.if-not-is_recorded.branch [
  | then-not-is_recorded w ↦ rw w.w-is (at_new _ _ _ _ _ _ _ _ c.requires.0 c.loop-i.invariant c.loop-i-test.true _ _
      (sym c.is_recorded.ensures ∙ w.if-not-is_recorded.true) w.choose-k.ensures
      (ap bytes w.cache-is ∙ w.copy_part.ensures) (ap length w.cache-is ∙ w.copy_part.auto.dst ∙ c.loop-i.invariant.long))
  | else-not-is_recorded w ↦ rw (w.cache-is, w.w-is)
      (at_old _ _ _ _ _ _ _ _ c.requires.0 c.loop-i.invariant c.loop-i-test.true (sym c.is_recorded.ensures ∙ w.if-not-is_recorded.false))
]
