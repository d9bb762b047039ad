-- check: the lent part comes back and is cleared (`says_of`).
use mathlib.Core.Path.{◌∙◌}
use native.Mathlib.Omega.{arith}
use lib.Seq.{length-take-le}
use Rattle.checker.specs.Judge.{says_of}
use Rattle.checker.proofs.check.Goals as goal

pub judge-verdict-requires : goal.judge-verdict-requires
judge-verdict-requires c = omega (arith, length-take-le 65536 c.args.work.now c.if-work-lt65536.false)

pub returns : goal.returns
returns c = says_of c.args.image.now c.args.work.now c.judge-verdict.new.work c.clear.new.work c.judge-verdict.result c.judge-verdict.ensures c.if-work-lt65536.false (c.judge-verdict.auto.work ∙ length-take-le 65536 c.args.work.now c.if-work-lt65536.false) c.clear.ensures
