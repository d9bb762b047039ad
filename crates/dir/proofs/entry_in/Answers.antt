-- entry_in: the library's search among the entries.
use Rattle.std.proofs.Common.{◌∙◌, rules, tests, arith, ℕ, ◌*◌}
use Rattle.std.proofs.lemmas.Iterator.{YieldsList-from_range}
use Rattle.std.proofs.lemmas.Iterator.Search.{position_from_yields_List}
use Rattle.base.specs.Bytes.{bytes}
use Rattle.path.specs.Search.{position_range}
use Rattle.path.specs.Names.{name_of}
use Rattle.dir.specs.Entries.{entry_is}
use Rattle.dir.proofs.entry_in.Goals as goal

pub returns : goal.returns
returns c =
    let test = λ (k : ℕ). entry_is (bytes c.args.s.now) (name_of c.args.part.now) (16 * k) in
    position_from_yields_List test _ _ _ c.position.ensures.ran (YieldsList-from_range 0 c.args.count _ (cc) (omega arith)) (λ x b q k. search (rules, tests)) ∙ position_range test c.args.count
