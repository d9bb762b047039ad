-- has_bit: the byte at the bit's address, by `bit_is`.
use mathlib.Core.Path.{sym, ◌∙◌}
use native.Mathlib.Omega.{arith}
use Rattle.base.specs.Bytes.{bytes}
use Rattle.base.specs.Decide.{alike, eq_decides}
use Rattle.reads.specs.Read.{bit_is}
use Rattle.reads.proofs.Card.has_bit.Goals as goal

pub returns : goal.returns
returns c =
    let e = bit_is c.args.self.now.sb (bytes c.args.self.now.image.now) c.args.b _ c.get-v.result (omega arith) c.get-v.ensures c.bit_of.ensures in
    alike (λ h. sym e ∙ h) (λ h. e ∙ h) (eq_decides _ _)
