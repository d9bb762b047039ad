-- skip_slashes: the library's search for a byte that is no "/".
use Rattle.std.proofs.Common.{Option, ◌≡◌, ap, ◌∙◌, sym, rules, tests, ℕ}
use Rattle.std.specs.Prelude.{position, not, eqb, length, unwrap_or}
use Rattle.std.proofs.lemmas.Iterator.{YieldsList-from_slice}
use Rattle.std.proofs.lemmas.Iterator.Search.{position_from_yields_List}
use Rattle.path.specs.Parts.{start_of, other}
use Rattle.path.specs.Search.{first_position}
use Rattle.path.proofs.skip_slashes.Goals as goal

pub returns : goal.returns
unfolding start_of other
returns c =
    let l = c.args.path.now in
    let e : c.position.result ≡ position (λ x. not (eqb x 47)) l = position_from_yields_List _ _ _ _ c.position.ensures.ran (YieldsList-from_slice l cc) (λ x b q k. search (rules, tests)) in
    c.unwrap_or.ensures ∙ ap (λ (r : Option ℕ). unwrap_or r (length l)) e ∙ sym (first_position (λ x. not (eqb x 47)) l)
