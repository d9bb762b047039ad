-- entries_good: every entry in use is good, and the rest of the block is 0 (Tail.tail_good).
use Rattle.std.proofs.Common.{arith, rules, tests, ℕ, ◌*◌}
use Rattle.std.proofs.lemmas.Iterator.{YieldsList-from_range, cases_from_all}
use Rattle.base.specs.Bytes.{bytes}
use Rattle.base.specs.Number.{get}
use Rattle.base.specs.Decide.{yes_by}
use Rattle.inode.specs.Slots.{TakenBy}
use Rattle.inode.specs.Fitness.{all_decides}
use Rattle.inode.specs.Tail.{tail_good, used_good}
use Rattle.inode.proofs.entries_good.Goals as goal

pub returns-then-all : goal.returns-then-all
returns-then-all c =
    let good = λ (k : ℕ). TakenBy c.args.s (bytes c.args.map.now) (get (bytes c.args.table.now) (4 * k) 4) in
    let all = all_decides good c.min-used.result _ (cases_from_all _ _ _ good (λ k. good k → ⊥) c.all.ensures.ran
    (YieldsList-from_range 0 c.min-used.result _ (cc) (omega arith)) (λ x q k. search (rules, tests)) (λ x q k. search (rules, tests))) in
    tail_good _ _ _ _ c.min-used.result (λ h. omega arith) (omega arith) (λ k h. used_good _ _ _ _ _ (omega arith) (yes_by all c.if-all.true k h)) c.blank_from.ensures
