-- `get_homes` meets its contract: the first i homes are those of the header. Assumes nothing.
use mathlib.Core.Path.{◌≡◌}
use Prim.Native.Nat.{ℕ, ◌<◌, ◌+◌, ◌*◌}
use lib.ListN.{length, get_or}
use Rattle.base.specs.Bytes.{bytes}
use Rattle.base.specs.Number.{get}
use Rattle.card_log.specs.Journal.{header}
use Rattle.card_log.proofs.get_homes.Given as goal

abbrev pub invariant-loop-i : goal.invariant-loop-i
invariant-loop-i l = (length l.homes ≡ 30) × ((k : ℕ) → k < l.i → get_or l.homes k 0 ≡ get (bytes l.image) (header + 4 * (k + 1)) 4)
