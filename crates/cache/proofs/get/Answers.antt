-- Each return past the tests by its law in specs/Steps.antt.
use Rattle.base.specs.Decide.{yes_by}
use Rattle.cache.specs.Steps.{free_room, get_hit, get_none, get_miss}
use Rattle.cache.proofs.get.Goals as goal

pub returns-then-j-lt30 : goal.returns-then-j-lt30
returns-then-j-lt30 c = get_hit _ _ _ _ (yes_by c.well_formed-2.ensures c.if-not-well_formed.false) c.if-memory-ne30720.false (yes_by c.inside.ensures c.if-not-inside.false) _ c.find-j.ensures c.if-j-lt30.true c.if-table-j-eq1000.false c.hold.ensures c.done.ensures

pub returns-then-k-ge30 : goal.returns-then-k-ge30
returns-then-k-ge30 c = get_none _ _ _ _ (yes_by c.well_formed-2.ensures c.if-not-well_formed.false) c.if-memory-ne30720.false (yes_by c.inside.ensures c.if-not-inside.false) _ c.find-j.ensures _ c.least_recent-k.ensures c.if-j-lt30.false c.if-k-ge30.true c.refused-then-k-ge30.ensures

pub hold-requires-2 : goal.hold-requires-2
hold-requires-2 c = (c.if-k-ge30.false, free_room c.args.table c.least_recent-k.result c.least_recent-k.ensures c.if-k-ge30.false)

pub returns : goal.returns
returns c = get_miss _ _ _ _ (yes_by c.well_formed-2.ensures c.if-not-well_formed.false) c.if-memory-ne30720.false (yes_by c.inside.ensures c.if-not-inside.false) _ c.find-j.ensures _ c.least_recent-k.ensures c.if-j-lt30.false c.if-k-ge30.false c.hold-2.ensures c.done-2.ensures c.copy_part.ensures
