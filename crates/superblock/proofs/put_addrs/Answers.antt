-- `superblock::put_addrs` meets its contract: the loop has put the first p addresses (`addrs_more`).
use mathlib.Core.Path.{◌≡◌, refl, sym}
use native.Mathlib.Omega.{arith}
use Rattle.base.specs.Bytes.{put-none}
use Rattle.superblock.specs.Record.{addrs_more}
use borrow.Author.Rules.{rules}
use Rattle.superblock.proofs.put_addrs.Goals as goal

pub loop-p-init : goal.loop-p-init
loop-p-init c = (search rules, refl, sym (put-none _ _ _))

pub loop-p-preserved : goal.loop-p-preserved
loop-p-preserved c = (search rules, search rules, addrs_more _ _ _ _ c.loop-p.invariant.2 c.put_u32.ensures)

pub returns : goal.returns
returns c =
    let e : c.loop-p.p ≡ 13 = omega arith in
    rw e at c.loop-p.invariant.2
