-- Mount, begin and end: the refusals of each, in their order, and what a call that meets none of them leaves. A refusal leaves the state
-- and every byte of the image as they were. Where no row holds, what the rows deny is said outright (`good`, `header`, `was`). Assumes nothing.
use Rattle.std.specs.Prelude.{◌≡◌, ◌≢◌, List, [], ◌∷◌, ℕ, ◌+◌, ◌-◌, ◌*◌, ◌≤◌, ◌<◌, length, Result, Ok, Err}
use Rattle.base.specs.Bytes.{Bytes, bytes}
use Rattle.base.specs.First.{tabulate}
use Rattle.base.specs.Refusals as refusals
use Rattle.base.specs.Rows.{Row, row, Gives}
use Rattle.base.specs.declared.Refusal.{Refusal}
use Rattle.base.specs.declared.Refusal.TheVariants.{NotWhole, BadCall, NoTransaction, Busy, BadSuper, BadLog}
use Rattle.superblock.specs.declared.Super.{Super}
use Rattle.superblock.specs.Geometry.{Good, super_of}
use Rattle.bio.specs.Fresh.{fresh_table}
use Rattle.bio.specs.Seen.{buffer_of}
use Rattle.card_log.specs.Journal.{Tx, held, GoodLog, logged, recover, recover_due, commit, commit_due}
use Rattle.state.specs.declared.Volume.{Volume}
use Rattle.state.specs.Whole.{Whole}
use Rattle.transactions.specs.declared.Written.{Written}
use Rattle.transactions.specs.declared.Written.TheVariants.{All, Cut}
use Rattle.state.specs.declared.After.{After}

-- the number of an answer, 0 for none, and the block writes that it reports
abbrev pub paper : Result Written Refusal → ℕ × ℕ
paper (Ok (All w)) = (0, w)
paper (Ok (Cut w)) = (19, w)
paper (Err r) = (refusals.number r, 0)

-- n zeros
abbrev pub zeros : ℕ → List ℕ
zeros n = tabulate (λ k. 0) n

-- a volume with a fresh table, nothing open, nothing recorded, no slot in use
unfoldable pub idle : Super → ℕ → Volume
idle s l = record { sb = s; table = fresh_table; homes = zeros 30; recorded = 0; ops = 0; slots = record { inums = zeros 50; refs = zeros 50 }; live = l }

-- what a finished mount gives; and no volume, for a mount that was cut or refused: it answers 1
abbrev pub mounted : Super → Volume
mounted s = idle s 1

abbrev pub no_volume : Volume
no_volume = idle (record { size = 0; nblocks = 0; ninodes = 0; nlog = 0; inodestart = 0; bmapstart = 0 }) 0

-- v with k operations open
unfoldable pub with_ops : Volume → ℕ → Volume
with_ops v k = record { sb = v.sb; table = v.table; homes = v.homes; recorded = v.recorded; ops = k; slots = v.slots; live = v.live }

-- v after a commit that was cut: it answers 1 from now on
unfoldable pub stopped : Volume → Volume
stopped v = record { sb = v.sb; table = v.table; homes = v.homes; recorded = v.recorded; ops = v.ops; slots = v.slots; live = 0 }

-- v after a commit that finished: nothing open or recorded, and every buffer's count 0
unfoldable pub ended : Volume → Volume
ended v =
    record {
      sb = v.sb;
      table = record { blocks = v.table.blocks; counts = zeros 30; order = v.table.order };
      homes = v.homes;
      recorded = 0;
      ops = 0;
      slots = v.slots;
      live = v.live;
    }

-- the state as it is given, with a refusal
abbrev pub refused : Volume → Refusal → After Written
refused v n = record { volume = v; answer = Err n }

-- what a call leaves that may write the card: its answer with the state, and the image
abbrev pub Left : Type 0
Left = After Written × List ℕ

-- ---- mount

abbrev pub mount_rows : ℕ → List ℕ → List (Row Refusal)
mount_rows cache image =
    row BadCall (cache ≢ 30720)
    ∷ row BadSuper (Good image → ⊥)
    ∷ row BadLog (GoodLog (super_of (bytes image)) (logged (bytes image)) → ⊥)
    ∷ []

-- a recovery of which `writes` reach the card: 19 and no volume exactly where that is below the writes due, else done with the writes due
pub record Recovered (image : List ℕ) (writes : ℕ) (l : Left) : Type 0 where
  pub good : Good image
  pub header : GoodLog (super_of (bytes image)) (logged (bytes image))
  pub size : length l.1 ≡ length image
  pub card : bytes l.1 ≡ recover writes (bytes image)
  pub cut : writes < recover_due (logged (bytes image)).count → (paper l.0.answer ≡ (19, writes)) × (l.0.volume ≡ no_volume)
  pub done : recover_due (logged (bytes image)).count ≤ writes
      → (paper l.0.answer ≡ (0, recover_due (logged (bytes image)).count)) × (l.0.volume ≡ mounted (super_of (bytes image)))

-- `cache` is the length of the cache's memory
abbrev pub MountGives : ℕ → List ℕ → ℕ → Left → Type 0
MountGives cache image writes = Gives (λ n. (refused no_volume n, image)) (mount_rows cache image) (Recovered image writes)

-- ---- begin

-- busy when 1 + recorded + (open + 1)·10 > 30
abbrev pub IsBusy : ℕ → ℕ → Type 0
IsBusy recorded opened = 30 < 1 + recorded + (opened + 1) * 10

abbrev pub begin_rows : Volume → List ℕ → List (Row Refusal)
begin_rows v image =
    row NotWhole (Whole v image → ⊥)
    ∷ row Busy (IsBusy v.recorded v.ops)
    ∷ []

-- one operation more is open, and all else is the same
pub record Begun (v : Volume) (image : List ℕ) (a : After Written) : Type 0 where
  pub was : Whole v image
  pub answer : paper a.answer ≡ (0, 0)
  pub volume : a.volume ≡ with_ops v (v.ops + 1)

abbrev pub BeginGives : Volume → List ℕ → After Written → Type 0
BeginGives v image = Gives (refused v) (begin_rows v image) (Begun v image)

-- ---- end

-- what is recorded: the homes, and for each the buffer that holds it
abbrev pub recorded_tx : Volume → Bytes → Tx
recorded_tx v cache = held v.recorded (bytes v.homes) (λ i. buffer_of v.table.blocks v.table.counts (bytes v.homes i)) cache

abbrev pub end_rows : Volume → List ℕ → ℕ → List (Row Refusal)
end_rows v image cache =
    row NotWhole (Whole v image → ⊥)
    ∷ row BadCall (cache ≢ 30720)
    ∷ row NoTransaction (v.ops ≡ 0)
    ∷ []

-- not the last one: one operation less is open, nothing is written
pub record Closed (v : Volume) (image : List ℕ) (l : Left) : Type 0 where
  pub answer : paper l.0.answer ≡ (0, 0)
  pub volume : l.0.volume ≡ with_ops v (v.ops - 1)
  pub same : l.1 ≡ image

-- the last one: a commit of the recorded blocks of which `writes` reach the card
pub record Committed (v : Volume) (image : List ℕ) (cache : Bytes) (writes : ℕ) (l : Left) : Type 0 where
  pub size : length l.1 ≡ length image
  pub card : bytes l.1 ≡ commit (recorded_tx v cache) writes (bytes image)
  pub cut : writes < commit_due v.recorded → (paper l.0.answer ≡ (19, writes)) × (l.0.volume ≡ stopped v)
  pub done : commit_due v.recorded ≤ writes → (paper l.0.answer ≡ (0, commit_due v.recorded)) × (l.0.volume ≡ ended v)

pub record Ended (v : Volume) (image : List ℕ) (cache : Bytes) (writes : ℕ) (l : Left) : Type 0 where
  pub was : Whole v image
  pub more : 1 < v.ops → Closed v image l
  pub last : v.ops ≡ 1 → Committed v image cache writes l

abbrev pub EndGives : Volume → List ℕ → List ℕ → ℕ → Left → Type 0
EndGives v image cache writes = Gives (λ n. (refused v n, image)) (end_rows v image (length cache)) (Ended v image (bytes cache) writes)
