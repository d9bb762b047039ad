-- all_climb: all inodes below i pass.
use Prim.Native.Nat.{ℕ, ◌<◌}
use mathlib.Core.Path.{◌≡◌}
use Rattle.reads.specs.Read.{shown}
use Rattle.rules.specs.Tree.{tree, Reaches}
use Rattle.parents.proofs.all_climb.Given as goal

abbrev pub invariant-loop-i : goal.invariant-loop-i
invariant-loop-i l = (q : ℕ) → q < l.i → ((shown l.card).ino q).kind ≡ 1 → Reaches (tree (shown l.card)) q
