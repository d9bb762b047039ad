use native.Mathlib.Omega.{arith}
use Rattle.planning.specs.Planned.{inserted_part, all_listed}
use Rattle.planning.proofs.list_all.Goals as goal

-- src/lib.rt:93:1
pub returns : goal.returns
returns c = all_listed _ _ _ _ _ _ _ _ _ _ _ _ _ _ _ _ _ _ _ _ c.requires c.none-touched.ensures c.insert.ensures c.insert-2.ensures c.insert_some.ensures c.insert_some-2.ensures (inserted_part _ _ _ _ _ _ (omega arith) c.insert_all.ensures) (inserted_part _ _ _ _ _ _ (omega arith) c.insert_all-2.ensures)
