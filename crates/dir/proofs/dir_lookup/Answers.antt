-- dir_lookup: no entry of the blocks passed has the name; one block is answered for by Entries.block-found and block_passed.
use Rattle.std.proofs.Common.{sym, refl, ◌∙◌, arith}
use Rattle.base.specs.Bytes.{bytes}
use Rattle.path.specs.Names.{name_of}
use Rattle.dir.specs.Entries.{look_none, block-found, block_passed}
use Rattle.dir.proofs.dir_lookup.Goals as goal

pub returns-in-Some : goal.returns-in-Some
returns-in-Some c =
    block-found (bytes c.block-s.result.now) _ c.args.f (name_of c.args.part.now) c.loop-b.b c.file_block-at.result c.min-count.result _
    c.block-s.ensures.byte c.file_block-at.ensures refl c.min-count.ensures c.in-Some.k _ _
    (sym c.entry_in.ensures ∙ c.in-Some.is) c.loop-b.invariant c.get_u16.ensures refl

pub loop-b-preserved : goal.loop-b-preserved
loop-b-preserved c =
    block_passed (bytes c.block-s.result.now) _ c.args.f (name_of c.args.part.now) c.loop-b.b c.file_block-at.result c.min-count.result _
    c.block-s.ensures.byte c.file_block-at.ensures refl c.min-count.ensures
    (sym c.entry_in.ensures ∙ c.in_default.is) c.loop-b.invariant

pub returns : goal.returns
returns c = sym (look_none _ c.args.f (name_of c.args.part.now) (λ j h. c.loop-b.invariant j (omega (arith)) h))
