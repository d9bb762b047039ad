-- differs: a free entry, words that differ, or the whole name.
use Prim.Native.Nat.{◌+◌}
use mathlib.Core.Path.{sym, ◌∙◌}
use native.Mathlib.Omega.{arith}
use Rattle.base.specs.Bytes.{bytes}
use Rattle.names.specs.Names.{words_differ}
use Rattle.names.proofs.differs.Goals as goal

pub returns-then-four_bytes : goal.returns-then-four_bytes
returns-then-four_bytes c = words_differ (bytes c.args.image.now) c.args.a c.args.b 0 (c.args.a + 2) (c.args.b + 2) (omega arith) (omega arith) (omega arith) (λ e. c.if-four_bytes.true (c.four_bytes.ensures ∙ e ∙ sym c.four_bytes-2.ensures))

pub returns-then-four_bytes-2 : goal.returns-then-four_bytes-2
returns-then-four_bytes-2 c = words_differ (bytes c.args.image.now) c.args.a c.args.b 4 (c.args.a + 6) (c.args.b + 6) (omega arith) (omega arith) (omega arith) (λ e. c.if-four_bytes-2.true (c.four_bytes-3.ensures ∙ e ∙ sym c.four_bytes-4.ensures))
