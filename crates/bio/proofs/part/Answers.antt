-- The part of a slice: one law of specs for each return.
use Prim.Native.Nat.{◌+◌, ◌-◌}
use Rattle.bio.specs.Part.{part_none, part_rest, part_whole}
use native.Mathlib.Omega.{arith}
use borrow.Author.Rules.{rules}
use Rattle.bio.proofs.part.Goals as goal

pub returns-then-s-i : goal.returns-then-s-i
returns-then-s-i c = part_none _ _ (search rules)

pub returns-then-s-i-lt1024 : goal.returns-then-s-i-lt1024
returns-then-s-i-lt1024 c = part_rest _ _ (search rules)

pub returns : goal.returns
returns c = part_whole c.args.s.now c.args.i (c.args.i + 1024 - c.args.i) (omega arith) (omega arith)
