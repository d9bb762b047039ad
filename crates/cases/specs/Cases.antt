-- The marked cases, each computed from the very definitions that the contracts cite. A further case is a further row. Assumes nothing.
use Rattle.std.specs.Prelude.{List, [], ◌∷◌, ℕ, ◌*◌, ◌+◌, ◌≤◌, min}
use Rattle.base.specs.First.{tabulate}
use Rattle.superblock.specs.declared.Super.{Super}
use Rattle.superblock.specs.Geometry.{GoodNumbers, data_start, inode_block, inode_byte, bit_addr}
use Rattle.format.specs.Formatted.{numbers_of, fresh}
use Rattle.format.specs.Laws.{numbers_good}
use Rattle.std.proofs.Common.{arith}
use Rattle.std.proofs.Math.Decide.{dec_lt, dec_le}
use Rattle.base.specs.Bytes.{Bytes, bytes}
use Rattle.card_log.specs.Journal.{Tx, held, commit_due, after_crash}
use Rattle.recording.specs.Record.{Room, news_of}
use Rattle.transactions.specs.Calls.{IsBusy}
use Rattle.superblock.specs.Disk.{disk}
use Rattle.walk.specs.Walks.{walk_of, given}
use Rattle.walk.specs.Cases.{numbers, letters, card}
use Rattle.cases.specs.Table.{Case, case, told}

-- where the areas are, and how many data blocks there are
abbrev pub areas : Super → List ℕ
areas s = s.inodestart ∷ s.bmapstart ∷ data_start s ∷ s.nblocks ∷ []

-- cases 1 and 2, and cases 3 and 4
abbrev pub small : Super
small = numbers_of 64 16 30

abbrev pub large : Super
large = numbers_of 2000 200 30

-- both are good
pub small_good : GoodNumbers small
small_good = numbers_good 64 16 30 (omega arith) (omega arith) (omega arith) (omega arith) (omega arith) (omega arith)

pub large_good : GoodNumbers large
large_good = numbers_good 2000 200 30 (omega arith) (omega arith) (omega arith) (omega arith) (omega arith) (omega arith)

-- the first n bytes of a fresh card's bitmap
abbrev pub bitmap : Super → ℕ → List ℕ
bitmap s n = tabulate (λ k. fresh s (bit_addr s (8 * k))) n

-- where an inode is
abbrev pub place : Super → ℕ → List ℕ
place s i = inode_block s i ∷ inode_byte i ∷ []

-- begin is busy, the very fact that its row is given for
abbrev pub busy : (recorded opened : ℕ) → Dec (IsBusy recorded opened)
busy recorded opened = dec_lt 30 (1 + recorded + (opened + 1) * 10)

-- there is room for one block more, 63, after the first n of the blocks 32, 33, ..: number 14 is not given
abbrev pub some : List ℕ
some = tabulate (λ k. 32 + k) 30

abbrev pub room_from : (n : ℕ) → Dec (n + news_of some n (63 ∷ []) 1 + 2 ≤ min 30 30) → Dec (Room some n 30 (63 ∷ []) 1)
room_from n (yes h) = yes (record { fits = h })
room_from n (no h) = no (λ r. h r.fits)

abbrev pub room : (n : ℕ) → Dec (Room some n 30 (63 ∷ []) 1)
room n = room_from n (dec_le (n + news_of some n (63 ∷ []) 1 + 2) (min 30 30))

-- four blocks of sevens for the recorded list 32, 35, 34, 36
abbrev pub sevens : Tx
sevens = held 4 (bytes (32 ∷ 35 ∷ 34 ∷ 36 ∷ [])) (λ i. i) (λ x. 7)

-- a byte of each of them, on a fresh card, after k writes of their commit and one recovery
abbrev pub found : ℕ → List ℕ
found k =
    let d : Bytes = after_crash sevens k [] (fresh small) in
    d (32 * 1024 + 64) ∷ d (35 * 1024) ∷ d (34 * 1024) ∷ d (36 * 1024) ∷ []

-- what a walk gives of the path "/" and these bytes, on a card with the files "a" (inode 2) and "abcdefghijklmn" (inode 3) in its root
abbrev pub walked : List ℕ → List ℕ
walked path = given (walk_of numbers (disk numbers card) 1 (47 ∷ path))

-- the table: a row for each case, by its number
unfoldable pub cases : List Case
cases =
    case 1 (areas small) (32 ∷ 34 ∷ 35 ∷ 29 ∷ [])
    ∷ case 2 (bitmap small 5) (255 ∷ 255 ∷ 255 ∷ 255 ∷ 15 ∷ [])
    ∷ case 3 (areas large) (32 ∷ 45 ∷ 46 ∷ 1954 ∷ [])
    ∷ case 4 (place large 199) (44 ∷ 448 ∷ [])
    ∷ case 5 (told (busy 0 0) ∷ told (busy 0 1) ∷ told (busy 0 2) ∷ []) (0 ∷ 0 ∷ 1 ∷ [])
    ∷ case 6 (told (busy 9 1) ∷ told (busy 10 1) ∷ []) (0 ∷ 1 ∷ [])
    ∷ case 7 (told (room 27) ∷ told (room 28) ∷ []) (1 ∷ 0 ∷ [])
    ∷ case 10 (commit_due 4 ∷ []) (10 ∷ [])
    ∷ case 10 (found 4) (1 ∷ 1 ∷ 255 ∷ 0 ∷ [])
    ∷ case 10 (found 5) (7 ∷ 7 ∷ 7 ∷ 7 ∷ [])
    ∷ case 11 (walked (letters (111 ∷ 112 ∷ []))) (0 ∷ 3 ∷ [])
    ∷ case 12 (walked (97 ∷ 47 ∷ [])) (0 ∷ 2 ∷ [])
    ∷ case 12 (walked (97 ∷ 47 ∷ 98 ∷ [])) (6 ∷ [])
    ∷ []
