-- The states that mount, begin and end leave are whole: what a mount or a commit that finished gives, and an operation more or less open.
-- Assumes nothing.
use Rattle.std.specs.Prelude.{◌≡◌, List, ℕ, ◌+◌, ◌-◌, ◌<◌, length, get_or}
use Rattle.std.proofs.Math.Path.{refl, sym}
use Rattle.std.proofs.Common.{◌∙◌, arith}
use Rattle.base.specs.Bytes.{bytes}
use Rattle.base.specs.First.{tabulate, get_d_tabulate, length-tabulate}
use Rattle.superblock.specs.Geometry.{Good, super_of}
use Rattle.bio.specs.Among.{among_yes, distinct_none}
use Rattle.bio.specs.Fresh.{fresh_table, none}
use Rattle.state.specs.declared.Volume.{Volume}
use Rattle.state.specs.Whole.{Whole}
use Rattle.transactions.specs.Calls.{idle, zeros, with_ops, ended, IsBusy}
use Rattle.transactions.specs.Kept.{super_same, good_kept}

zero_at : (n k : ℕ) → k < n → get_or (zeros n) k 0 ≡ 0
zero_at n k l = get_d_tabulate (λ i. 0) n k l

-- a fresh volume on a good card
pub idle_whole : (image : List ℕ) → Good image → Whole (idle (super_of (bytes image)) 1) image
unfolding idle fresh_table
idle_whole image g =
    record {
      live = refl;
      card = record { good = g; same = refl };
      counts = record { ops = omega arith; room = omega (arith, g.numbers.log_least); idle = λ e. refl };
      buffered = record {
        list = record { low = λ i l. absurd (omega arith); high = λ i l. absurd (omega arith); distinct = distinct_none (zeros 30) (super_of (bytes image)).size 0 };
        buffers = record { held = λ i l. absurd (omega arith); others = λ j l m. zero_at 30 j l; once = record { same = λ i j l m s e. absurd (empty i l s) } };
      };
      order = record { each = λ k l. among_yes (tabulate (λ i. i) 30) 30 k k l (get_d_tabulate (λ i. i) 30 k l) };
      slots = record {
        low = λ k l u. absurd (unused k l u);
        high = λ k l u. absurd (unused k l u);
        count = λ k l u. absurd (unused k l u);
        distinct = λ j k l m u x e. absurd (unused j l u);
      };
      lengths = record {
        blocks = length-tabulate (λ k. none) 30;
        counts = length-tabulate (λ k. 0) 30;
        order = length-tabulate (λ k. k) 30;
        homes = length-tabulate (λ k. 0) 30;
        inums = length-tabulate (λ k. 0) 50;
        refs = length-tabulate (λ k. 0) 50;
      };
    }
  where
    empty : (i : ℕ) → i < 30 → get_or (tabulate (λ k. none) 30) i 0 < (super_of (bytes image)).size → ⊥
    empty i l s = omega (arith, get_d_tabulate (λ k. none) 30 i l, g.numbers.size_most)

    unused : (k : ℕ) → k < 50 → 0 < get_or (zeros 50) k 0 → ⊥
    unused k l u = omega (arith, zero_at 50 k l)

module _ (v : Volume) (image : List ℕ) (w : Whole v image) where
  -- one operation more: a volume that is not busy has at most one open
  pub more_whole : (IsBusy v.recorded v.ops → ⊥) → Whole (with_ops v (v.ops + 1)) image
  unfolding with_ops
  more_whole b =
      record {
        live = w.live;
        card = w.card;
        counts = record { ops = omega (arith, b); room = w.counts.room; idle = λ e. absurd (omega arith) };
        buffered = w.buffered;
        order = w.order;
        slots = w.slots;
        lengths = record { blocks = w.lengths.blocks; counts = w.lengths.counts; order = w.lengths.order; homes = w.lengths.homes; inums = w.lengths.inums; refs = w.lengths.refs };
      }

  -- one less, and not the last
  pub less_whole : 1 < v.ops → Whole (with_ops v (v.ops - 1)) image
  unfolding with_ops
  less_whole h =
      record {
        live = w.live;
        card = w.card;
        counts = record { ops = omega (arith, w.counts.ops); room = w.counts.room; idle = λ e. absurd (omega arith) };
        buffered = w.buffered;
        order = w.order;
        slots = w.slots;
        lengths = record { blocks = w.lengths.blocks; counts = w.lengths.counts; order = w.lengths.order; homes = w.lengths.homes; inums = w.lengths.inums; refs = w.lengths.refs };
      }

  -- after a commit, on the image that it leaves
  pub ended_whole : (image' : List ℕ) → length image' ≡ length image → ((x : ℕ) → x < 2048 → bytes image' x ≡ bytes image x) → Whole (ended v) image'
  unfolding ended
  ended_whole image' long same =
      record {
        live = w.live;
        card = record { good = good_kept image image' long same w.card.good; same = w.card.same ∙ sym (super_same image image' long same) };
        counts = record { ops = omega arith; room = omega (arith, w.counts.room); idle = λ e. refl };
        buffered = record {
          list = record { low = λ i l. absurd (omega arith); high = λ i l. absurd (omega arith); distinct = distinct_none v.homes v.sb.size 0 };
          buffers = record { held = λ i l. absurd (omega arith); others = λ j l m. zero_at 30 j l; once = w.buffered.buffers.once };
        };
        order = w.order;
        slots = w.slots;
        lengths =
            record {
              blocks = w.lengths.blocks;
              counts = length-tabulate (λ k. 0) 30;
              order = w.lengths.order;
              homes = w.lengths.homes;
              inums = w.lengths.inums;
              refs = w.lengths.refs;
            };
      }
