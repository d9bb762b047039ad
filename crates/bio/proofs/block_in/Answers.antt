-- A block is found once, in its buffer or on the card: a law of specs for each.
use Rattle.bio.specs.Part.{block_held, block-card}
use borrow.Author.Rules.{rules}
use Rattle.bio.proofs.block_in.Goals as goal

pub returns-then-j-lt30 : goal.returns-then-j-lt30
returns-then-j-lt30 c = block_held _ _ _ _ _ _ _ c.buffer_of-j.ensures (search rules) c.part.ensures

pub returns-else-j-lt30 : goal.returns-else-j-lt30
returns-else-j-lt30 c = block-card _ _ _ _ _ _ _ c.buffer_of-j.ensures (search rules) c.part-else-j-lt30.ensures
