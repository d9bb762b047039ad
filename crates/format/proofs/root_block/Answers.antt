-- `format::root_block` meets its contract: two entries put into zeros (`root-written`).
use mathlib.Core.Path.{◌≡◌, ◌∙◌}
use Rattle.superblock.specs.declared.Entry.{Entry}
use Rattle.format.specs.Formatted.{dot, dotdot}
use Rattle.format.specs.Laws.{root-written}
use borrow.Author.Rules.{rules}
use Rattle.format.proofs.root_block.Goals as goal

pub returns : goal.returns
returns c =
    let one : ◌≡◌ {A = Entry} (record { inum = 1; name = c.padded.result }) dot = λ i. record { inum = 1; name = c.padded.ensures i } in
    let two : ◌≡◌ {A = Entry} (record { inum = 1; name = c.padded-2.result }) dotdot = λ i. record { inum = 1; name = c.padded-2.ensures i } in
    (search rules, c.put_entry-2.ensures ∙ rw c.put_entry.ensures (root-written c.zero_block-block.result _ _ one two c.zero_block-block.ensures.zero))
