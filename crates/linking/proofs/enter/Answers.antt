use mathlib.Core.Path.{refl}
use Rattle.linking.specs.Becomes.{changed_as}
use Rattle.linking.specs.Entered.{naming_is}
use Rattle.linking.proofs.enter.Goals as goal

pub returns : goal.returns
returns c = changed_as _ _ _ _ _ _ _ _ _ c.put_entry_at.ensures (naming_is _ _ c.padded.result _ refl c.padded.ensures)
