-- read: the rows 1, 2, 4, 5, 8 and 9; the bytes of the content as it is seen, and the buffer past them untouched. Assumes nothing.
use Rattle.std.specs.Prelude.{◌≡◌, refl, ◌≢◌, List, [], ◌∷◌, ℕ, ◌+◌, ◌-◌, ◌<◌, min, length}
use Rattle.std.proofs.Common.{ap}
use Rattle.base.specs.Bytes.{Bytes, bytes, put}
use Rattle.base.specs.Rows.{Row, row}
use Rattle.superblock.specs.Disk.{Disk}
use Rattle.rules.specs.Fit.{Fit, byte_of}
use Rattle.state.specs.Whole.{Whole}
use Rattle.state.specs.declared.Volume.{Volume}
use Rattle.state.specs.declared.Handle.{Handle}
use Rattle.slots.specs.Handles.{GoodHandle}
use Rattle.volume.specs.Answers.{Said, done, instead, told, Answers, answers_one, answers_keep, disk_of}
use Rattle.state.specs.declared.After.{After}

-- what read leaves: the state, what it says, and what the buffer holds
abbrev pub ReadLeft : Type 0
ReadLeft = Volume × Said ℕ × Bytes

abbrev pub read_left : After ℕ → List ℕ → ReadLeft
read_left a buffer = (a.volume, told a.answer, bytes buffer)

-- the rows for read
abbrev pub read_rows : Volume → List ℕ → List ℕ → Handle → ℕ → ℕ → List ℕ → List (Row ℕ)
read_rows v image cache h offset count buffer =
    row 1 (Whole v image → ⊥)
    ∷ row 2 (length cache ≢ 30720)
    ∷ row 2 (length buffer < count)
    ∷ row 4 (GoodHandle v.slots.inums v.slots.refs h → ⊥)
    ∷ row 5 (Fit v.sb (disk_of v cache image) ((disk_of v cache image).ino h.inum) → ⊥)
    ∷ row 8 (((disk_of v cache image).ino h.inum).kind ≡ 3)
    ∷ row 9 (((disk_of v cache image).ino h.inum).size < offset)
    ∷ []

-- how many bytes are read: count, or what there is from offset on
abbrev pub read_count : Disk → ℕ → ℕ → ℕ → ℕ
read_count d i offset count = min count ((d.ino i).size - offset)

-- a buffer with the first n bytes of inode i's content from offset on in front
abbrev pub read_into : Disk → ℕ → ℕ → ℕ → Bytes → Bytes
read_into d i offset n buffer = put buffer 0 n (λ k. byte_of d i (offset + k))

-- what read gives; the state stays as it was
abbrev pub ReadGives : Volume → List ℕ → List ℕ → Handle → ℕ → ℕ → List ℕ → ReadLeft → Type 0
ReadGives v image cache h offset count buffer =
    Answers (λ n. (v, instead n, bytes buffer)) (read_rows v image cache h offset count buffer)
    (v, done (read_count (disk_of v cache image) h.inum offset count), read_into (disk_of v cache image) h.inum offset (read_count (disk_of v cache image) h.inum offset count) (bytes buffer))

-- ---- the answer is unique, and the next state whole

module _ (v : Volume) (image cache : List ℕ) (h : Handle) (offset count : ℕ) (buffer : List ℕ) where
  pub read_one : (a b : ReadLeft) → ReadGives v image cache h offset count buffer a → ReadGives v image cache h offset count buffer b → a ≡ b
  read_one a b p q = answers_one (λ n. (v, instead n, bytes buffer)) (read_rows v image cache h offset count buffer) _ a b p q

  pub read_same : (l : ReadLeft) → ReadGives v image cache h offset count buffer l → l.0 ≡ v
  read_same l g = answers_keep (λ (x : ReadLeft). x.0) (λ n. (v, instead n, bytes buffer)) (read_rows v image cache h offset count buffer) _ l v (λ n. refl) refl g

  pub read_whole : (l : ReadLeft) → Whole v image → ReadGives v image cache h offset count buffer l → Whole l.0 image
  read_whole l w g = rw (read_same l g) w

-- ---- where the code answers

pub read_gave : {a b : After ℕ} (buffer : List ℕ) → a ≡ b → read_left a buffer ≡ read_left b buffer
read_gave buffer e = ap {B = ReadLeft} (λ (r : After ℕ). read_left r buffer) e
