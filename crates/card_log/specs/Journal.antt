-- The write-ahead log: a commit and a recovery as numbered block writes, and their runs of which a given number reaches the card.
-- The header is block 2 (a length, then the homes), logged block i is block 3 + i; a commit is n log writes, the header, n home writes, the
-- header emptied; a recovery is the home writes and the header emptied. Assumes nothing.
use Rattle.std.specs.Prelude.{◌≡◌, ◌⊎◌, cond, List, [], ◌∷◌, ℕ, zero, suc, ◌+◌, ◌-◌, ◌*◌, ◌≤◌, ◌<◌, min, ltb, eqb}
use Rattle.base.specs.Bytes.{Bytes, put, block, put_block}
use Rattle.base.specs.Number.{get, digit}
use Rattle.base.specs.Run.{run}
use Rattle.superblock.specs.declared.Super.{Super}
use Rattle.card_log.specs.Words.{put_words}

-- n blocks, number i with a home and its new contents
pub record Tx : Type 0 where
  pub count : ℕ
  pub home : ℕ → ℕ
  pub content : ℕ → Bytes

-- n homes, and beside each the block of a memory that has its contents: the cache's buffers, or the card's log
unfoldable pub held : ℕ → (ℕ → ℕ) → (ℕ → ℕ) → Bytes → Tx
held n homes bufs memory = record { count = n; home = homes; content = λ i. block memory (bufs i) }

-- the header's address, and the block that holds logged block i: the log starts at block 2 on every good card
abbrev pub header : ℕ
header = 2048

abbrev pub log_block : ℕ → ℕ
log_block i = 3 + i

-- the numbers of a header: the length, then the homes
unfoldable pub words : ℕ → (ℕ → ℕ) → ℕ → ℕ
words n h zero = n
words n h (suc i) = h i

-- home write number k
unfoldable pub home_write : Tx → ℕ → Bytes → Bytes
home_write t k d = put_block d (t.home k) (t.content k)

-- the length in the header becomes 0
unfoldable pub emptied : Bytes → Bytes
emptied d = put d header 4 (digit 0)

-- write number k of installing t: its home writes, then the header emptied
unfoldable pub install_write : Tx → ℕ → Bytes → Bytes
install_write t k d = cond (ltb k t.count) (home_write t k d) (emptied d)

-- write number k of committing t: its log writes, the header (the length and the first n homes), then the installing
unfoldable pub commit_write : Tx → ℕ → Bytes → Bytes
commit_write t k d =
    cond (ltb k t.count) (put_block d (log_block k) (t.content k))
    (cond (eqb k t.count) (put_words d header (t.count + 1) (words t.count t.home))
    (install_write t (k - (t.count + 1)) d))

-- the writes that are due
unfoldable pub commit_due : ℕ → ℕ
commit_due n = cond (eqb n 0) 0 (2 * n + 2)

unfoldable pub recover_due : ℕ → ℕ
recover_due n = cond (eqb n 0) 0 (n + 1)

-- a commit of t of which at most k writes reach the card, and one that finishes
unfoldable pub commit : Tx → ℕ → Bytes → Bytes
commit t k d = run (commit_write t) (min k (commit_due t.count)) d

unfoldable pub committed : Tx → Bytes → Bytes
committed t d = run (commit_write t) (commit_due t.count) d

-- what the log on a card says
unfoldable pub logged : Bytes → Tx
logged d = held (get d header 4) (λ i. get d (header + 4 * (i + 1)) 4) log_block d

-- a recovery of which at most k writes reach the card, and one that finishes
unfoldable pub recover : ℕ → Bytes → Bytes
recover k d = run (install_write (logged d)) (min k (recover_due (logged d).count)) d

unfoldable pub recovered : Bytes → Bytes
recovered d = run (install_write (logged d)) (recover_due (logged d).count) d

-- recoveries one after the other, each with the number of its writes that reach the card
unfoldable pub recoveries : List ℕ → Bytes → Bytes
recoveries [] d = d
recoveries (k ∷ ks) d = recoveries ks (recover k d)

-- d with the homes of t replaced
unfoldable pub replaced : Tx → Bytes → Bytes
replaced t d = run (home_write t) t.count d

-- n homes are distinct, from `low` on and below `high`
pub record HomesIn (homes : ℕ → ℕ) (n low high : ℕ) : Type 0 where
  pub from : (i : ℕ) → i < n → low ≤ homes i
  pub below : (i : ℕ) → i < n → homes i < high
  pub distinct : (i j : ℕ) → i < n → j < n → homes i ≡ homes j → i ≡ j

-- a good header: length at most min(29, nlog - 1), homes distinct, at least inodestart and below size
pub record GoodLog (s : Super) (t : Tx) : Type 0 where
  pub few : t.count ≤ 29
  pub room : t.count + 1 ≤ s.nlog
  pub high : (i : ℕ) → i < t.count → s.inodestart ≤ t.home i
  pub low : (i : ℕ) → i < t.count → t.home i < s.size
  pub distinct : (i j : ℕ) → i < t.count → j < t.count → t.home i ≡ t.home j → i ≡ j

-- an address outside the log area, which is blocks 2 to inodestart - 1
abbrev pub Outside : Super → ℕ → Type 0
Outside s x = (x < header) ⊎ (s.inodestart * 1024 ≤ x)

-- the card after a commit of t of which k writes reached it, recoveries of which ks did, and one that finished
unfoldable pub after_crash : Tx → ℕ → List ℕ → Bytes → Bytes
after_crash t k ks d = recovered (recoveries ks (commit t k d))

-- the log is empty, and outside the log area the card d holds e
pub record Settled (s : Super) (d e : Bytes) : Type 0 where
  pub empty : (logged d).count ≡ 0
  pub holds : (x : ℕ) → Outside s x → d x ≡ e x

-- what a commit of n blocks asks of a cache and an image of these lengths: buffers and homes lie in them
pub record Ready (n : ℕ) (homes bufs : ℕ → ℕ) (cache image : ℕ) : Type 0 where
  pub memory : cache ≡ 30720
  pub few : n ≤ 29
  pub log : (3 + n) * 1024 ≤ image
  pub home : (i : ℕ) → i < n → homes i * 1024 + 1024 ≤ image
  pub buf : (i : ℕ) → i < n → bufs i < 30

-- what a recovery of n blocks asks of an image of this length: log and homes lie in it, the homes past the log's blocks
pub record Within (n : ℕ) (homes : ℕ → ℕ) (image : ℕ) : Type 0 where
  pub few : n ≤ 29
  pub log : (3 + n) * 1024 ≤ image
  pub home : (i : ℕ) → i < n → homes i * 1024 + 1024 ≤ image
  pub past : (i : ℕ) → i < n → 3 + n ≤ homes i
