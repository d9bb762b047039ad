-- close: the rows 1 and 4, and the state with a reference less. Assumes nothing.
use Rattle.std.specs.Prelude.{◌≡◌, List, [], ◌∷◌, ℕ, ◌-◌, get_or, length, set}
use Rattle.std.proofs.Common.{◌∙◌, inl, inr, length-set}
use Rattle.base.specs.Rows.{Row, row}
use Rattle.state.specs.Whole.{Whole, GoodSlots}
use Rattle.state.specs.declared.Volume.{Volume}
use Rattle.state.specs.declared.Handle.{Handle}
use Rattle.slots.specs.Handles.{GoodHandle}
use Rattle.slots.specs.Keeps.{good_less}
use Rattle.volume.specs.Answers.{done, Left, refused, Answers, answers_one}

-- the rows for close
abbrev pub close_rows : Volume → List ℕ → Handle → List (Row ℕ)
close_rows v image h =
    row 1 (Whole v image → ⊥)
    ∷ row 4 (GoodHandle v.slots.inums v.slots.refs h → ⊥)
    ∷ []

-- the volume with these slots
abbrev pub with_slots : Volume → List ℕ → List ℕ → Volume
with_slots v inums refs = record {
  sb = v.sb;
  table = v.table;
  homes = v.homes;
  recorded = v.recorded;
  ops = v.ops;
  slots = record { inums = inums; refs = refs };
  live = v.live;
}

-- slot k has a reference less: with none left it is free
abbrev pub closed : Volume → ℕ → Volume
closed v k = with_slots v v.slots.inums (set v.slots.refs k (get_or v.slots.refs k 0 - 1))

-- what close gives
abbrev pub CloseGives : Volume → List ℕ → Handle → Left Unit → Type 0
CloseGives v image h = Answers (refused v) (close_rows v image h) (closed v h.slot, done record {})

-- ---- the answer is unique, and the next state whole

pub close_one : (v : Volume) (image : List ℕ) (h : Handle) (a b : Left Unit) → CloseGives v image h a → CloseGives v image h b → a ≡ b
close_one v image h a b p q = answers_one (refused v) (close_rows v image h) (closed v h.slot, done record {}) a b p q

-- whole but for its slots
pub slots_whole : (v : Volume) (image inums refs : List ℕ) → Whole v image → length inums ≡ 50 → length refs ≡ 50 → GoodSlots inums refs v.sb.ninodes
    → Whole (with_slots v inums refs) image
slots_whole v image inums refs w li lr g = record {
  live = w.live;
  card = w.card;
  counts = w.counts;
  buffered = w.buffered;
  order = w.order;
  slots = g;
  lengths = record {
    blocks = w.lengths.blocks;
    counts = w.lengths.counts;
    order = w.lengths.order;
    homes = w.lengths.homes;
    inums = li;
    refs = lr;
  };
}

pub close_whole : (v : Volume) (image : List ℕ) (h : Handle) (l : Left Unit) → Whole v image → CloseGives v image h l → Whole l.0 image
close_whole v image h l w (inl g) = absurd (g.0 w)
close_whole v image h l w (inr (_, inl g)) = rw g.1 w
close_whole v image h l w (inr (_, inr (_, g))) =
    rw g
    (slots_whole v image v.slots.inums (set v.slots.refs h.slot (get_or v.slots.refs h.slot 0 - 1)) w w.lengths.inums
    (length-set v.slots.refs h.slot (get_or v.slots.refs h.slot 0 - 1) ∙ w.lengths.refs)
    (good_less v.slots.inums v.slots.refs v.sb.ninodes h.slot w.slots))
