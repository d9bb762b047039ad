-- What a whole state records is good to commit: its homes are a good header, and its buffers and homes lie in the cache and the image.
-- Assumes nothing.
use Rattle.std.specs.Prelude.{◌≡◌, List, ℕ, ◌*◌, ◌<◌, length, get_or}
use Rattle.std.proofs.Common.{sym, ap, ◌∙◌, arith}
use Rattle.base.specs.Bytes.{Bytes, bytes}
use Rattle.superblock.specs.declared.Super.{Super}
use Rattle.superblock.specs.Geometry.{GoodNumbers}
use Rattle.bio.specs.Seen.{buffer_of, held_below}
use Rattle.card_log.specs.Journal.{held, GoodLog, Ready}
use Rattle.state.specs.declared.Volume.{Volume}
use Rattle.state.specs.Whole.{Whole}
use Rattle.transactions.specs.Calls.{recorded_tx}

module _ (v : Volume) (image : List ℕ) (w : Whole v image) where
  -- the numbers of a whole state are good, and the image is as long as they say
  pub numbers : GoodNumbers v.sb
  numbers = rw w.card.same w.card.good.numbers

  pub long : length image ≡ v.sb.size * 1024
  long = w.card.good.whole ∙ ap (λ (s : Super). s.size * 1024) (sym w.card.same)

  pub recorded_good : (cache : Bytes) → GoodLog v.sb (recorded_tx v cache)
  unfolding held
  recorded_good cache =
      record {
        few = omega (arith, w.counts.room);
        room = omega (arith, w.counts.room);
        high = λ i l. w.buffered.list.low i l;
        low = λ i l. w.buffered.list.high i l;
        distinct = λ i j l m e. w.buffered.list.distinct.same i j l m (w.buffered.list.high i l) e;
      }

  pub buffer_below : (i : ℕ) → i < v.recorded → buffer_of v.table.blocks v.table.counts (get_or v.homes i 0) < 30
  buffer_below i l =
      let p = w.buffered.buffers.held i l in
      held_below v.table.blocks v.table.counts (get_or v.homes i 0) p.at p.below p.block (omega (arith, p.count))

  pub recorded_ready : (n : ℕ) (bufs : ℕ → ℕ) (cache : ℕ) → n ≡ v.recorded → cache ≡ 30720
      → ((i : ℕ) → i < n → bufs i ≡ buffer_of v.table.blocks v.table.counts (get_or v.homes i 0))
      → Ready n (bytes v.homes) bufs cache (length image)
  recorded_ready n bufs cache q e h =
      record {
        memory = e;
        few = omega (arith, w.counts.room);
        log = omega (arith, w.counts.room, long, numbers.laid.inodestart, numbers.laid.bmapstart, numbers.laid.nblocks);
        home = λ i l. omega (arith, w.buffered.list.high i (omega arith), long);
        buf = λ i l. omega (arith, h i l, buffer_below i (omega arith));
      }
