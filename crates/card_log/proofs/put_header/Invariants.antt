-- `put_header` meets its contract: the homes are put one after the other, then the length before them. Assumes nothing.
use mathlib.Core.Path.{◌≡◌}
use lib.ListN.{length}
use Rattle.base.specs.Bytes.{bytes}
use Rattle.card_log.specs.Words.{put_words}
use Rattle.card_log.proofs.put_header.Given as goal

abbrev pub invariant-loop-i : goal.invariant-loop-i
invariant-loop-i l = (length l.image ≡ length l.initial.image) × (bytes l.image ≡ put_words (bytes l.initial.image) 2052 l.i (bytes l.homes))
