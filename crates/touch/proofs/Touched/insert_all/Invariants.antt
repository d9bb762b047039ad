-- `Touched::insert_all` meets its contract: the loop's invariant: the numbers passed are members. Assumes nothing.
use Rattle.base.specs.Bytes.{bytes}
use Rattle.touch.specs.Insert.{InsertedAll}
use Rattle.touch.proofs.Touched.insert_all.Given as goal

abbrev pub invariant-loop-x : goal.invariant-loop-x
invariant-loop-x l = InsertedAll l.initial.self.list l.initial.self.n (bytes l.xs) l.x-index l.self.list l.self.n
