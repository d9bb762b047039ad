-- THE THEOREM THAT SETTLES THE DISPUTE: what is on a card that was pulled in the middle of a save, and put in again.
--
-- Take any card whose log is empty, and any n blocks to save, with good homes. Pull the card after any number k of the 2n + 2 writes of the
-- commit. Mount it again, any number of times, and pull it in the middle of each recovery, after any number of its writes. Then let one
-- recovery finish. Now the log is empty. If k is at most n (the header was not written), every byte outside the log is as it was before the
-- save. If k is at least n + 1 (the header was written), every byte outside the log is as the finished save would have left it. Nothing in
-- between ever comes out. On the way no mount finds a bad header (answer 18), and a recovery after one that finished has nothing to write.
--
-- The proof is `pulled_card` in proofs/Crash.antt.
use Rattle.std.specs.Prelude.{◌≡◌, List, ℕ, ◌+◌, ◌*◌, ◌/◌, ◌≤◌, ◌<◌}
use Rattle.base.specs.Bytes.{Bytes}
use Rattle.superblock.specs.declared.Super.{Super}
use Rattle.superblock.specs.Geometry.{Laid}
use Rattle.card_log.specs.Journal.{Tx, GoodLog, Outside, logged, commit, committed, recoveries, recover_due, after_crash}

-- what a finished commit leaves: the new contents in their homes, every other byte outside the log as before, and an empty log
pub record Saved (s : Super) (t : Tx) (d : Bytes) : Type 0 where
  pub empty : (logged (committed t d)).count ≡ 0
  pub homes : (i j : ℕ) → i < t.count → j < 1024 → committed t d (t.home i * 1024 + j) ≡ t.content i j
  pub rest : (x : ℕ) → Outside s x → ((i : ℕ) → i < t.count → t.home i ≡ x / 1024 → ⊥) → committed t d x ≡ d x

-- what holds of the card d and the blocks t when k writes of the commit, and then ks of the recoveries, reached the card
pub record Survives (s : Super) (t : Tx) (d : Bytes) (k : ℕ) (ks : List ℕ) : Type 0 where
  -- the header that the next mount finds is good
  pub good : GoodLog s (logged (recoveries ks (commit t k d)))
  -- after the recovery that finishes the log is empty, so a further one writes nothing
  pub empty : (logged (after_crash t k ks d)).count ≡ 0
  pub nothing_due : recover_due (logged (after_crash t k ks d)).count ≡ 0
  -- up to n writes of the commit: all as before
  pub old : k ≤ t.count → (x : ℕ) → Outside s x → after_crash t k ks d x ≡ d x
  -- from n + 1 writes on: all as the commit would leave it
  pub new : t.count + 1 ≤ k → (x : ℕ) → Outside s x → after_crash t k ks d x ≡ committed t d x
  -- and what that is
  pub saved : Saved s t d

-- the theorem, for every card that is laid out as the format says and has an empty log, all good blocks, and every way to be pulled
abbrev pub PulledCard : Type 0
PulledCard =
    (s : Super) → Laid s → s.size ≤ 8191 → (t : Tx) → GoodLog s t → (d : Bytes) → (logged d).count ≡ 0
    → (k : ℕ) (ks : List ℕ) → Survives s t d k ks
