-- `bitmap::search` meets its contract: the loop's invariant: the array has all the free blocks passed, in order; a turn is `sofar_in` or `sofar_out`, then `sofar_skip`. Assumes nothing.
use Prim.Native.Nat.{ℕ}
use lib.ListN.{length-set}
use mathlib.Core.Path.{refl, sym, ◌∙◌}
use native.Mathlib.Omega.{arith}
use Rattle.bitmap.specs.Search.{sofar_none, sofar_out, sofar_in, sofar_skip, found_enough, found_all}
use borrow.Author.Rules.{rules}
use Rattle.bitmap.proofs.search.Goals as goal
use Rattle.bitmap.proofs.search.Goals.{then-clear, else-clear}

pub loop-b-init : goal.loop-b-init
loop-b-init c = (search rules, sofar_skip _ _ _ _ _ _ _ (sofar_none _ _ _ _ _ refl (omega (arith, c.requires.0.laid.nblocks))) c.skip-b.ensures)

pub returns-then-found-k : goal.returns-then-found-k
returns-then-found-k c = found_enough _ _ _ _ _ _ c.loop-b.invariant.1 (omega arith)

pub loop-b-preserved : goal.loop-b-preserved
loop-b-preserved c = elim c.if-clear.branch [
  | then-clear w ↦ rw (w.list-is, w.found-is) (omega (arith, length-set {A = ℕ}), sofar_skip _ _ _ _ _ _ _ (sofar_in _ _ _ _ _ _ c.loop-b.invariant.1 (omega arith) (sym c.clear.ensures ∙ w.if-clear.true) (omega (arith, c.loop-b.invariant.1.most)) (omega (arith, c.loop-b.invariant.0, c.loop-b.invariant.1.most, c.requires.1))) c.skip-b-in-loop-b.ensures)
  | else-clear w ↦ rw (w.list-is, w.found-is) (c.loop-b.invariant.0, sofar_skip _ _ _ _ _ _ _ (sofar_out _ _ _ _ _ _ c.loop-b.invariant.1 (omega arith) (sym c.clear.ensures ∙ w.if-clear.false)) c.skip-b-in-loop-b.ensures)
]

pub returns : goal.returns
returns c = found_all _ _ _ _ _ _ c.loop-b.invariant.1 (omega arith)
