-- component: the two cases of part_of.
use mathlib.Core.Path.{◌≡◌, ap, sym, ◌∙◌}
use native.Mathlib.Omega.{arith}
use Rattle.base.specs.Bytes.{bytes}
use Rattle.path.specs.Parts.{start_of, end_of, part_end, part_name, start_le}
use Rattle.path.proofs.component.Goals as goal

pub returns-then-x-eq0 : goal.returns-then-x-eq0
returns-then-x-eq0 c =
    let l = c.args.path.now in
    let e : c.skip_slashes-start.result ≡ start_of l = c.skip_slashes-start.ensures in
    let x : c.get-x.result ≡ bytes l (start_of l) = c.get-x.ensures ∙ ap (bytes l) e in
    sym (part_end l (sym x ∙ c.if-x-eq0.true))

pub component_end-end-requires : goal.component_end-end-requires
component_end-end-requires c = omega (arith, start_le c.args.path.now)

pub returns : goal.returns
returns c =
    let l = c.args.path.now in
    let e : c.skip_slashes-start.result ≡ start_of l = c.skip_slashes-start.ensures in
    let x : c.get-x.result ≡ bytes l (start_of l) = c.get-x.ensures ∙ ap (bytes l) e in
    let z : c.component_end-end.result ≡ end_of l (start_of l) = c.component_end-end.ensures ∙ ap (end_of l) e in
    let p = part_name l (λ q. c.if-x-eq0.false (x ∙ q)) in
    cc
