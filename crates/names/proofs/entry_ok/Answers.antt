-- entry_ok: each field of EntryOk by one test.
use mathlib.Core.Path.{◌∙◌}
use native.Mathlib.Omega.{arith}
use Rattle.base.specs.Decide.{yes_by}
use Rattle.names.specs.Names.{entry_name, good_at}
use Rattle.names.proofs.entry_ok.Goals as goal

pub returns-then-kind-ne0 : goal.returns-then-kind-ne0
returns-then-kind-ne0 c = entry_name _ _ _ _ _ record { eq = c.get_u16-x.ensures ∙ c.spot-a.ensures.num; lt = omega arith } c.if-x-eq0.false (yes_by c.fresh_name.ensures c.if-fresh_name.true) c.if-k-lt2.false c.kind.ensures _ c.if-kind-ne0.true (good_at _ _ _ _ _ c.spot-a.ensures _ c.good_name.ensures)
