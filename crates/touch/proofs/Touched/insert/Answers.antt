-- `Touched::insert` meets its contract: where the number is there (`inserted_old`), and where it is put in (`inserted_new`). Assumes nothing.
use native.Mathlib.Omega.{arith}
use borrow.Author.Rules.{rules}
use Rattle.touch.specs.Insert.{found_is, moved_is, inserted_old, inserted_new}
use Rattle.touch.proofs.Touched.insert.Goals as goal
use Rattle.touch.proofs.Touched.insert.Goals.{else-k-self-via-then-k-self+else-self-k, else-k-self-via-else-k-self}

pub returns-then-self-k : goal.returns-then-self-k
returns-then-self-k c = inserted_old _ _ _ _ (found_is _ _ _ _ _ (search rules) c.place_for.ensures c.unwrap_or-k.ensures) (search rules) c.if-k-self.true c.if-self-k.true

pub returns : goal.returns
returns c =
    let e = found_is c.args.self.now.list c.args.self.now.n c.args.b _ _ (search rules) c.place_for.ensures c.unwrap_or-k.ensures in
    inserted_new _ _ _ _ e (elim c.else-k-self.branch [
      | else-k-self-via-then-k-self+else-self-k w ↦ λ h z. w.if-self-k.false z
      | else-k-self-via-else-k-self w ↦ λ h z. let l = w.if-k-self.false in omega arith
    ]) _ (moved_is _ _ _ _ (search rules) c.copy_within.ensures.len c.copy_within.ensures.by_index.0 c.copy_within.ensures.by_index.1) c.requires
