-- A state is whole, rule by rule: what every call asks of the state that it is given. Contents are not compared. Assumes nothing.
use Rattle.std.specs.Prelude.{◌≡◌, false, List, ℕ, ◌+◌, ◌≤◌, ◌<◌, min, get_or, length}
use Rattle.base.specs.Bytes.{bytes}
use Rattle.bio.specs.Among.{among, Distinct}
use Rattle.bio.specs.Order.{Named}
use Rattle.superblock.specs.declared.Super.{Super}
use Rattle.superblock.specs.Geometry.{Good, super_of}
pub use Rattle.state.specs.declared.Slots.{Slots}
pub use Rattle.state.specs.declared.Volume.{Volume}
pub use Rattle.state.specs.declared.Handle.{Handle}

-- its superblock numbers are good and the image's
pub record Card (s : Super) (image : List ℕ) : Type 0 where
  pub good : Good image
  pub same : s ≡ super_of (bytes image)

-- open is 0 to 2; the recorded homes are within the room, none at open 0
pub record Counts (opened recorded nlog : ℕ) : Type 0 where
  pub ops : opened ≤ 2
  pub room : recorded + 2 ≤ min 30 nlog
  pub idle : opened ≡ 0 → recorded ≡ 0

-- recorded homes are distinct, in range
pub record GoodHomes (homes : List ℕ) (n from to : ℕ) : Type 0 where
  pub low : (i : ℕ) → i < n → from ≤ get_or homes i 0
  pub high : (i : ℕ) → i < n → get_or homes i 0 < to
  pub distinct : Distinct homes n to

-- block b is in a buffer with count 1
pub record Pinned (blocks counts : List ℕ) (b : ℕ) : Type 0 where
  pub at : ℕ
  pub below : at < 30
  pub block : get_or blocks at 0 ≡ b
  pub count : get_or counts at 0 ≡ 1

-- each home is in a buffer with count 1; all other counts are 0; no block of the card is in two buffers
pub record GoodBuffers (blocks counts homes : List ℕ) (n size : ℕ) : Type 0 where
  pub held : (i : ℕ) → i < n → Pinned blocks counts (get_or homes i 0)
  pub others : (j : ℕ) → j < 30 → among homes n (get_or blocks j 0) ≡ false → get_or counts j 0 ≡ 0
  pub once : Distinct blocks 30 size

-- the two
pub record Buffered (blocks counts homes : List ℕ) (n low size : ℕ) : Type 0 where
  pub list : GoodHomes homes n low size
  pub buffers : GoodBuffers blocks counts homes n size

-- slots in use hold distinct inodes from 1 to ninodes - 1, counts 1 to 1,000
pub record GoodSlots (inums refs : List ℕ) (ninodes : ℕ) : Type 0 where
  pub low : (k : ℕ) → k < 50 → 0 < get_or refs k 0 → 1 ≤ get_or inums k 0
  pub high : (k : ℕ) → k < 50 → 0 < get_or refs k 0 → get_or inums k 0 < ninodes
  pub count : (k : ℕ) → k < 50 → 0 < get_or refs k 0 → get_or refs k 0 ≤ 1000
  pub distinct : (j k : ℕ) → j < 50 → k < 50 → 0 < get_or refs j 0 → 0 < get_or refs k 0 → get_or inums j 0 ≡ get_or inums k 0 → j ≡ k

-- 30 and 50 of each, as the types of the code say
pub record Lengths (v : Volume) : Type 0 where
  pub blocks : length v.table.blocks ≡ 30
  pub counts : length v.table.counts ≡ 30
  pub order : length v.table.order ≡ 30
  pub homes : length v.homes ≡ 30
  pub inums : length v.slots.inums ≡ 50
  pub refs : length v.slots.refs ≡ 50

-- a mounted volume's state is whole; the order names each buffer, and has as many places, so each once (`named_once` of Given)
pub record Whole (v : Volume) (image : List ℕ) : Type 0 where
  pub live : v.live ≡ 1
  pub card : Card v.sb image
  pub counts : Counts v.ops v.recorded v.sb.nlog
  pub buffered : Buffered v.table.blocks v.table.counts v.homes v.recorded v.sb.inodestart v.sb.size
  pub order : Named v.table.order
  pub slots : GoodSlots v.slots.inums v.slots.refs v.sb.ninodes
  pub lengths : Lengths v
