use mathlib.Core.Path.{refl, ap, ◌∙◌}
use Prim.Native.Nat.{ℕ}
use Rattle.std.specs.Prelude.{get_or, unwrap_or}
use Rattle.building.specs.Applied.{rest_as, applied}
use Rattle.building.proofs.apply.Goals as goal

-- src/lib.rt:80:1
pub returns : goal.returns
returns c = applied _ _ _ _ _ _ _ _ c.args.want.kind c.args.want.major c.args.want.minor c.args.p.now c.args.part.now c.rest_of-rest.result _ c.top_of-top.result c.unwrap_or-at.result (rest_as _ _ _ _ c.rest_of-rest.ensures c.own_blocks.ensures) c.requires.few refl c.top_of-top.ensures
    (c.unwrap_or-at.ensures ∙ ap (λ (x : ℕ). unwrap_or c.args.p.now.at (get_or c.rest_of-rest.result x 0)) c.saturating_sub-last.ensures) c.make_inode.ensures c.widen.ensures c.enter.ensures
