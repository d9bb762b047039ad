use mathlib.Core.Path.{refl}
use Rattle.linking.specs.Entered.{new_dir_is}
use Rattle.linking.proofs.new_dir.Goals as goal

-- src/lib.rt:73:1
pub returns : goal.returns
returns c = rw c.code.ensures (new_dir_is _ _ _ _ _ refl refl)
