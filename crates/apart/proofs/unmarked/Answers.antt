-- unmarked: the marks are those of the slots passed, which are distinct (Apart.Marked).
use Rattle.apart.specs.Apart.{marked_start}
use borrow.Author.Rules.{rules}
use Rattle.apart.proofs.unmarked.Goals as goal

pub loop-p-init : goal.loop-p-init
loop-p-init c = (search rules, marked_start 8192 _)
