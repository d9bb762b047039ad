-- component_end: the library's search for a byte that ends the component, in the rest of the path.
use Rattle.std.proofs.Common.{Option, ◌≡◌, ap, ◌∙◌, rules, tests, ℕ, ◌+◌, ◌-◌}
use Rattle.std.specs.Prelude.{position, eqb, length, unwrap_or, cond, true, drop, take}
use Rattle.std.proofs.lemmas.Iterator.{YieldsList-from_slice}
use Rattle.std.proofs.lemmas.Iterator.Search.{position_from_yields_List}
use Rattle.path.specs.Parts.{end_from}
use Rattle.path.proofs.component_end.Goals as goal

pub returns : goal.returns
returns c =
    let l = c.args.path.now in
    let rest = take (length l - c.args.start) (drop c.args.start l) in
    let e : c.position-n.result ≡ position (λ x. cond (eqb x 47) true (eqb x 0)) rest = position_from_yields_List _ _ _ _ c.position-n.ensures.ran (YieldsList-from_slice rest cc) (λ x b q k. search (rules, tests)) in
    ap (λ (n : ℕ). c.args.start + n) (c.unwrap_or.ensures ∙ ap (λ (r : Option ℕ). unwrap_or r (length rest)) e) ∙ end_from l c.args.start
