-- same_name: the library's test of all 14 bytes.
use Rattle.std.proofs.Common.{◌∙◌, rules, tests, ℕ, ◌+◌}
use Rattle.std.specs.Prelude.{eqb, refl}
use Rattle.std.proofs.lemmas.Iterator.{YieldsList-from_range}
use Rattle.std.proofs.lemmas.Iterator.Search.{all_from_yields_List}
use Rattle.base.specs.Bytes.{bytes}
use Rattle.path.specs.Search.{all_range}
use Rattle.path.specs.Names.{same-padded}
use Rattle.path.proofs.same_name.Goals as goal

pub returns : goal.returns
returns c =
    let test = λ (k : ℕ). eqb (bytes c.args.s.now (c.args.o + k)) (bytes c.args.part.now k) in
    all_from_yields_List test _ _ _ c.all.ensures.ran (YieldsList-from_range 0 14 14 (cc) refl) (λ x b q k. search (rules, tests))
    ∙ all_range test 14 ∙ same-padded (λ t. bytes c.args.s.now (c.args.o + t)) c.args.part.now
