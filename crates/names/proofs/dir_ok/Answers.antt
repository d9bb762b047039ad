-- dir_ok: "." and "..", then all entries.
use mathlib.Core.Path.{◌∙◌}
use native.Mathlib.Omega.{arith}
use Rattle.base.specs.Decide.{yes_by}
use Rattle.names.specs.Names.{dir_entries, dots-at}
use Rattle.names.proofs.dir_ok.Goals as goal

pub returns-then-is_dots : goal.returns-then-is_dots
returns-then-is_dots c = dir_entries _ _ _ _ c.requires.1.ends record { eq = c.get_u16.ensures ∙ c.spot-a.ensures.num; lt = omega arith } c.if-get_u16-i.false _ (yes_by (dots-at _ _ _ _ _ c.spot-a.ensures _ _ c.is_dots.ensures) c.if-not-is_dots.false) (yes_by (dots-at _ _ _ _ _ c.spot-b.ensures _ _ c.is_dots-2.ensures) c.if-is_dots.true) c.entries_ok.ensures
