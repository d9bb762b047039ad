-- `empty::free_slots` meets its contract: after p turns the blocks of the first p slots are freed (`free_more`). Assumes nothing.
use mathlib.Core.Path.{◌≡◌}
use lib.ListN.{length}
use Rattle.base.specs.Bytes.{bytes}
use Rattle.apart.specs.Apart.{slot_by}
use Rattle.bitmap.specs.Bits.{Becomes}
use Rattle.empty.specs.Emptying.{frees_all}
use Rattle.empty.proofs.free_slots.Given as goal

abbrev pub invariant-loop-p : goal.invariant-loop-p
invariant-loop-p l = (length l.cache ≡ 30720) × Becomes l.table.blocks l.table.counts (bytes l.initial.cache) (bytes l.cache) (λ d. frees_all l.s d (slot_by l.f (bytes l.entries)) l.p)
