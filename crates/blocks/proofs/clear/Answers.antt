-- clear: what is filled is 0, and the rest stays.
use mathlib.Core.Path.{◌≡◌, ◌∙◌}
use native.Mathlib.Omega.{arith}
use lib.ListN.{replicate}
use lib.Seq.{length-take-le}
use Rattle.std.proofs.lemmas.List.{get_or-replicate}
use Rattle.base.specs.Bytes.{bytes_mid, put_same}
use borrow.Author.Rules.{rules}
use Rattle.blocks.proofs.clear.Goals as goal

pub returns : goal.returns
returns c =
    let l = length-take-le c.args.n c.args.work.now c.requires in
    let e : c.fill.new.self ≡ replicate c.args.n 0 = c.fill.ensures.after (λ y h. search rules) ∙ rw l in
    bytes_mid c.args.work.now c.fill.new.self 0 c.args.n (c.fill.ensures.len ∙ l) (omega arith) ∙ put_same _ 0 c.args.n _ _ (λ k m. rw e (get_or-replicate c.args.n k 0 0 m))
