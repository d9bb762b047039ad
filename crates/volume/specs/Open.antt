-- open: the rows 1, 2, 4, 5, 6, 7 and 11, and the state with a reference more on the slot that holds the inode, else on the lowest
-- free one. Assumes nothing.
use Rattle.std.specs.Prelude.{Result, Ok, Err, ◌≡◌, cond, ◌≢◌, List, [], ◌∷◌, ℕ, ◌+◌, ◌<◌, get_or, length, set, eqb}
use Rattle.base.specs.Bytes.{bytes}
use Rattle.std.proofs.Common.{inl, inr}
use Rattle.base.specs.Rows.{Row, row}
use Rattle.base.specs.declared.Refusal.{Refusal}
use Rattle.base.specs.declared.Refusal.TheVariants.{Unfit, NotDirectory, NoName}
use Rattle.path.specs.Parts.{path_len}
use Rattle.walk.specs.Walks.{walk_of}
use Rattle.state.specs.Whole.{Whole}
use Rattle.state.specs.declared.Volume.{Volume}
use Rattle.state.specs.declared.Handle.{Handle}
use Rattle.slots.specs.Handles.{GoodHandle, Room, slot_for}
use Rattle.volume.specs.Answers.{done, Left, refused, Answers, answers_one, disk_of}
use Rattle.volume.specs.Close.{with_slots}

-- a walk of the path can start: it begins with "/", or the handle is good
pub data Starts (inums refs path : List ℕ) (h : Handle) : Type 0 where
  rooted : bytes path 0 ≡ 47 → Starts inums refs path h
  handled : GoodHandle inums refs h → Starts inums refs path h

-- where it starts: at inode 1, or at the handle's
unfoldable pub origin : List ℕ → Handle → ℕ
origin path h = cond (eqb (bytes path 0) 47) 1 h.inum

-- the walk of the path on what the volume sees
abbrev pub walked : Volume → List ℕ → List ℕ → List ℕ → Handle → Result ℕ Refusal
walked v image cache path h = walk_of v.sb (disk_of v cache image) (origin path h) path

-- the inode that a walk has reached
abbrev pub reached : Result ℕ Refusal → ℕ
reached (Ok i) = i
reached (Err r) = 0

-- the slot for inode i: the one that holds it, else the lowest free one, else 50
abbrev pub slot_in : Volume → ℕ → ℕ
slot_in v i = slot_for v.slots.inums v.slots.refs i

-- the rows for open; 5, 6 and 7 are what the walk met first
abbrev pub open_rows : Volume → List ℕ → List ℕ → List ℕ → Handle → List (Row ℕ)
open_rows v image cache path h =
    row 1 (Whole v image → ⊥)
    ∷ row 2 (length cache ≢ 30720)
    ∷ row 2 (128 < path_len path)
    ∷ row 4 (Starts v.slots.inums v.slots.refs path h → ⊥)
    ∷ row 5 (walked v image cache path h ≡ Err Unfit)
    ∷ row 6 (walked v image cache path h ≡ Err NotDirectory)
    ∷ row 7 (walked v image cache path h ≡ Err NoName)
    ∷ row 11 (Room v.slots.refs (slot_in v (reached (walked v image cache path h))) → ⊥)
    ∷ []

-- slot k is for inode i, with a reference more
abbrev pub opened : Volume → ℕ → ℕ → Volume
opened v k i = with_slots v (set v.slots.inums k i) (set v.slots.refs k (get_or v.slots.refs k 0 + 1))

-- slot k can take a reference more
pub record Takes (refs : List ℕ) (k : ℕ) : Type 0 where
  pub slot : k < 50
  pub below : get_or refs k 0 < 1000

-- a reference taken on slot k, for inode i: 11 where it can take none, else the next state and the handle
abbrev pub TakeGives : Volume → ℕ → ℕ → Left Handle → Type 0
TakeGives v k i = Answers (refused v) (row 11 (Takes v.slots.refs k → ⊥) ∷ []) (opened v k i, done (record { slot = k; inum = i }))

pub take_done : (v : Volume) (k i : ℕ) (l : Left Handle) → TakeGives v k i l → Takes v.slots.refs k → l ≡ (opened v k i, done (record { slot = k; inum = i }))
take_done v k i l (inl g) t = absurd (g.0 t)
take_done v k i l (inr g) t = g.1

-- inode i opened: the next state, and its handle
abbrev pub open_to : Volume → ℕ → Left Handle
open_to v i = (opened v (slot_in v i) i, done (record { slot = slot_in v i; inum = i }))

-- what open gives
abbrev pub OpenGives : Volume → List ℕ → List ℕ → List ℕ → Handle → Left Handle → Type 0
OpenGives v image cache path h = Answers (refused v) (open_rows v image cache path h) (open_to v (reached (walked v image cache path h)))

-- ---- the answer is unique

pub open_one : (v : Volume) (image cache path : List ℕ) (h : Handle) (a b : Left Handle) → OpenGives v image cache path h a → OpenGives v image cache path h b → a ≡ b
open_one v image cache path h a b p q = answers_one (refused v) (open_rows v image cache path h) (open_to v (reached (walked v image cache path h))) a b p q
