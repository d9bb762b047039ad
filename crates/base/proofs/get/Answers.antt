-- `base::get` meets its contract. In range it is the element; past the end a memory is 0: `bytes_past`. Assumes nothing.
use mathlib.Core.Path.{sym}
use lib.ListN.{get_or-eq_default}
use Rattle.base.proofs.get.Goals as goal

pub returns-else-i-s : goal.returns-else-i-s
returns-else-i-s c = sym (get_or-eq_default c.args.s.now 0 c.if-i-s.false)
