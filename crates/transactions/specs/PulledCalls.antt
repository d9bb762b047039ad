-- THE PULLED CARD, SAID OF THE CALLS THEMSELVES. `EndGives` and `MountGives` are what the contracts of `end` and `mount` say, so this speaks of
-- every run of them.
--
-- A mounted volume is in order and the log on its card is empty. Its last open operation is ended, and any number of the writes reaches the card.
-- Then the card is mounted any number of times, and each time any number of the writes reaches it. Then it is mounted once more: that mount does
-- not refuse, it is finished where it is given 30 writes, and where it is finished there is a volume in order and an empty log again, and every
-- byte outside the log is as it was on the card before (up to n writes of the `end`, for n recorded blocks) or as the volume saw it (from n + 1
-- writes on).
--
-- The proof is `calls_survive` in Survive.antt.
use Rattle.std.specs.Prelude.{◌≡◌, ◌⊎◌, List, ℕ, ◌+◌, ◌≤◌, length}
use Rattle.base.specs.Bytes.{bytes}
use Rattle.bio.specs.Seen.{seen}
use Rattle.card_log.specs.Journal.{Outside, logged}
use Rattle.state.specs.declared.Volume.{Volume}
use Rattle.state.specs.Whole.{Whole}
use Rattle.transactions.specs.Calls.{Left, paper, EndGives, MountGives}

-- what any number of mounts leave of a card, one after the other, each with any number of writes
pub data Mounts : List ℕ → List ℕ → Type 0 where
  none : {image : List ℕ} → Mounts image image
  next : {image last : List ℕ} (cache writes : ℕ) (l : Left) → MountGives cache image writes l → Mounts l.1 last → Mounts image last

-- a mount that finished after all this
pub record Afresh (v : Volume) (image cache : List ℕ) (writes : ℕ) (m : Left) : Type 0 where
  pub whole : Whole m.0.volume m.1
  pub empty : (logged (bytes m.1)).count ≡ 0
  pub old : writes ≤ v.recorded → (x : ℕ) → Outside v.sb x → bytes m.1 x ≡ bytes image x
  pub new : v.recorded + 1 ≤ writes → (x : ℕ) → Outside v.sb x
      → bytes m.1 x ≡ seen v.table.blocks v.table.counts (bytes cache) (bytes image) x

-- what the last mount answers: done (0) or cut (19), and done where it is given 30 writes
pub record Outcome (v : Volume) (image cache : List ℕ) (writes : ℕ) (given : ℕ) (m : Left) : Type 0 where
  pub answers : ((paper m.0.answer).0 ≡ 0) ⊎ ((paper m.0.answer).0 ≡ 19)
  pub enough : 30 ≤ given → (paper m.0.answer).0 ≡ 0
  pub done : (paper m.0.answer).0 ≡ 0 → Afresh v image cache writes m

abbrev pub CallsSurvive : Type 0
CallsSurvive =
    (v : Volume) (image cache : List ℕ) → Whole v image → v.ops ≡ 1 → length cache ≡ 30720 → (logged (bytes image)).count ≡ 0
    → (writes : ℕ) (l : Left) → EndGives v image cache writes l
    → (card : List ℕ) → Mounts l.1 card
    → (given : ℕ) (m : Left) → MountGives 30720 card given m
    → Outcome v image cache writes given m
