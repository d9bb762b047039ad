-- stat: the rows 1, 2, 4 and 5; kind, link count and size of the inode as it is seen. Assumes nothing.
use Rattle.std.specs.Prelude.{◌≡◌, refl, ◌≢◌, List, [], ◌∷◌, ℕ, length}
use Rattle.base.specs.Rows.{Row, row}
use Rattle.superblock.specs.Node.{Node}
use Rattle.rules.specs.Fit.{Fit}
use Rattle.state.specs.Whole.{Whole}
use Rattle.state.specs.declared.Volume.{Volume}
use Rattle.state.specs.declared.Handle.{Handle}
use Rattle.slots.specs.Handles.{GoodHandle}
use Rattle.volume.specs.Answers.{done, Left, refused, Answers, answers_one, answers_keep, disk_of}
use Rattle.volume.specs.Signed.{signed}
use Rattle.volume.specs.declared.Facts.{Facts}

-- the rows for stat
abbrev pub stat_rows : Volume → List ℕ → List ℕ → Handle → List (Row ℕ)
stat_rows v image cache h =
    row 1 (Whole v image → ⊥)
    ∷ row 2 (length cache ≢ 30720)
    ∷ row 4 (GoodHandle v.slots.inums v.slots.refs h → ⊥)
    ∷ row 5 (Fit v.sb (disk_of v cache image) ((disk_of v cache image).ino h.inum) → ⊥)
    ∷ []

-- kind, link count and size of an inode; the link count is signed
abbrev pub facts_of : Node → Facts
facts_of r = record { kind = r.kind; nlink = signed r.nlink; size = r.size }

-- what stat gives; the state stays as it was
abbrev pub StatGives : Volume → List ℕ → List ℕ → Handle → Left Facts → Type 0
StatGives v image cache h = Answers (refused v) (stat_rows v image cache h) (v, done (facts_of ((disk_of v cache image).ino h.inum)))

-- ---- the answer is unique, and the next state whole

module _ (v : Volume) (image cache : List ℕ) (h : Handle) where
  pub stat_one : (a b : Left Facts) → StatGives v image cache h a → StatGives v image cache h b → a ≡ b
  stat_one a b p q = answers_one (refused v) (stat_rows v image cache h) (v, done (facts_of ((disk_of v cache image).ino h.inum))) a b p q

  pub stat_same : (l : Left Facts) → StatGives v image cache h l → l.0 ≡ v
  stat_same l g = answers_keep (λ (x : Left Facts). x.0) (refused v) (stat_rows v image cache h) (v, done (facts_of ((disk_of v cache image).ino h.inum))) l v (λ n. refl) refl g

  pub stat_whole : (l : Left Facts) → Whole v image → StatGives v image cache h l → Whole l.0 image
  stat_whole l w g = rw (stat_same l g) w
