-- `state::buffered` meets its contract: the three passes together. Assumes nothing.
use Rattle.base.specs.Decide.{alike, yes_by}
use Rattle.state.specs.Marks.{is_agreed, is_buffered, zeros, zeros-long}
use borrow.Author.Rules.{rules}
use Rattle.state.proofs.buffered.Goals as goal

pub place_blocks-requires : goal.place_blocks-requires
place_blocks-requires c = (zeros 256, zeros-long 256)

pub mark_homes-requires : goal.mark_homes-requires
mark_homes-requires c = (search rules, zeros 30, zeros-long 30, c.place_blocks.ensures.1.small c.if-not-place_blocks.false, yes_by c.place_blocks.ensures.1.tests c.if-not-place_blocks.false)

pub returns-then-mark_homes : goal.returns-then-mark_homes
returns-then-mark_homes c =
    let o = yes_by c.place_blocks.ensures.1.tests c.if-not-place_blocks.false in
    let f = yes_by c.mark_homes.ensures.tests c.if-mark_homes.true in
    let k = c.mark_homes.ensures.marked c.if-mark_homes.true in
    alike (is_buffered _ _ _ _ _ _ _ k o f) (is_agreed _ _ _ _ _ _ _ k) c.agree.ensures
