-- `plan::spot` meets its contract: a slot that is there (`spot_old`), or one that it gets (`spot_new`). Assumes nothing.
use mathlib.Core.Path.{ap, ◌∙◌}
use native.Mathlib.Omega.{arith}
use Prim.Native.Nat.{◌-◌}
use Rattle.base.specs.Bytes.{bytes}
use Rattle.plan.specs.Spots.{spot_old, spot_new}
use Rattle.plan.proofs.spot.Goals as goal

pub returns-then-q-p : goal.returns-then-q-p
returns-then-q-p c = c.file_block.ensures ∙ spot_old _ _ _ _ _ (omega (arith, c.slot_of-q.ensures))

pub returns : goal.returns
returns c = ap (λ x. bytes c.args.free.now (x - c.args.p)) c.slot_of-q.ensures ∙ spot_new _ _ _ _ _ (omega (arith, c.slot_of-q.ensures))
