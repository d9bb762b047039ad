-- blank_from: the largest byte passed (Tail.Largest).
use Rattle.base.specs.Bytes.{bytes}
use Rattle.inode.specs.Tail.{Largest}
use Rattle.inode.proofs.blank_from.Given as goal

abbrev pub invariant-loop-i : goal.invariant-loop-i
invariant-loop-i l = Largest (bytes l.table) l.a l.i l.most
