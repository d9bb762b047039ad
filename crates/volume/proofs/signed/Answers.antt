-- `volume::signed` meets its contract, by the laws of specs/Signed. Assumes nothing.
use Rattle.volume.specs.Signed.{signed_pos, signed_fits, signed_neg}
use Rattle.volume.proofs.signed.Goals as goal

pub returns-then-n-lt32768 : goal.returns-then-n-lt32768
returns-then-n-lt32768 c = signed_pos _ c.if-n-lt32768.true

pub overflow_sub-result : goal.overflow_sub-result
overflow_sub-result c = signed_fits _ c.if-n-lt32768.false

pub returns : goal.returns
returns c = signed_neg _ c.if-n-lt32768.false
