-- unmarked: the marks are those of the slots passed, which are distinct (Apart.Marked).
use mathlib.Core.Path.{◌≡◌}
use lib.ListN.{length}
use Rattle.base.specs.Bytes.{bytes}
use Rattle.apart.specs.Apart.{slot_by, Marked}
use Rattle.apart.proofs.unmarked.Given as goal

abbrev pub invariant-loop-p : goal.invariant-loop-p
invariant-loop-p l = (length l.marks ≡ 8192) × Marked l.marks (slot_by l.f (bytes l.table)) l.p
