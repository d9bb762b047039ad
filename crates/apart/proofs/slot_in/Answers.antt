-- slot_in: direct or listed.
use mathlib.Core.Path.{◌∙◌}
use Rattle.base.specs.Bytes.{bytes}
use Rattle.apart.specs.Apart.{by_direct, by_listed}
use Rattle.apart.proofs.slot_in.Goals as goal

pub returns-then-p-lt13 : goal.returns-then-p-lt13
returns-then-p-lt13 c = by_direct c.args.f (bytes c.args.table.now) c.args.p c.if-p-lt13.true

pub returns : goal.returns
returns c = c.get_u32.ensures ∙ by_listed c.args.f (bytes c.args.table.now) c.args.p c.if-p-lt13.false
