-- `good_header` meets its contract: the header is good exactly where its length is and the homes read from it are. Assumes nothing.
use native.Mathlib.Omega.{arith}
use Rattle.base.specs.Bytes.{bytes}
use Rattle.base.specs.Decide.{not_so, alike}
use Rattle.card_log.specs.Headers.{Read, header_long_not, header_good, header_homes}
use Rattle.card_log.proofs.good_header.Goals as goal
use Rattle.card_log.proofs.good_header.Goals.{then-n-gt29-via-then-n-gt29, then-n-gt29-via-else-n-gt29+then-sb-n}

pub returns-then-n-gt29 : goal.returns-then-n-gt29
returns-then-n-gt29 c = not_so (header_long_not _ _ _ c.get_u32-n.ensures (λ a b. elim c.then-n-gt29.branch [
  | then-n-gt29-via-then-n-gt29 w ↦ omega (arith, w.if-n-gt29.true)
  | then-n-gt29-via-else-n-gt29+then-sb-n w ↦ omega (arith, w.if-sb-n.true)
]))

pub returns : goal.returns
returns c =
    let r : Read (bytes c.args.image.now) c.get_u32-n.result (bytes c.get_homes.result) = record { count = c.get_u32-n.ensures; homes = c.get_homes.ensures } in
    alike (λ g. header_good c.args.sb _ _ _ r c.if-n-gt29.false (omega (arith, c.if-sb-n.false)) g) (λ g. header_homes c.args.sb _ _ _ r g) c.good_homes.ensures
