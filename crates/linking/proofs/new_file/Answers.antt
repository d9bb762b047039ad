use mathlib.Core.Path.{refl}
use Rattle.linking.specs.Entered.{new_file_is}
use Rattle.linking.proofs.new_file.Goals as goal

-- src/lib.rt:60:1
pub returns : goal.returns
returns c = new_file_is _ _ _ _ refl
