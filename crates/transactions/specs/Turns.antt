-- A law for each answer of the calls, over plain values: what a test and the callees have shown is what the contract says. Assumes nothing.
use Rattle.std.specs.Prelude.{◌≡◌, refl, List, ℕ, ◌-◌, ◌≤◌, ◌<◌, min, length, get_or, Ok}
use Rattle.std.proofs.Common.{ap, ◌∙◌, arith}
use Rattle.base.specs.Bytes.{Bytes, bytes}
use Rattle.superblock.specs.declared.Super.{Super}
use Rattle.superblock.specs.Geometry.{Good, super_of}
use Rattle.bio.specs.Seen.{buffer_of}
use Rattle.card_log.specs.Journal.{held, GoodLog, Within, logged, recover, recover_due, commit, commit_due}
use Rattle.card_log.specs.Headers.{good_within}
use Rattle.card_log.proofs.Kept.{commit-same}
use Rattle.state.specs.declared.Volume.{Volume}
use Rattle.state.specs.Whole.{Whole}
use Rattle.transactions.specs.declared.Written.{Written}
use Rattle.transactions.specs.declared.Written.TheVariants.{All, Cut}
use Rattle.state.specs.declared.After.{After}
use Rattle.transactions.specs.Calls.{Left, no_volume, mounted, stopped, ended, recorded_tx, Recovered, Committed, Ended, with_ops}

-- a recovery
module _ (image : List ℕ) (sb : Super) (g : Good image) (same : sb ≡ super_of (bytes image)) (h : GoodLog sb (logged (bytes image))) where
  pub header_is : GoodLog (super_of (bytes image)) (logged (bytes image))
  header_is = rw same at h

  pub can_recover : Within (logged (bytes image)).count (logged (bytes image)).home (length image)
  can_recover = good_within (super_of (bytes image)) (bytes image) (length image) g.numbers.laid (omega (arith, g.whole)) header_is

  module _ (image' : List ℕ) (writes w n : ℕ) (long : length image' ≡ length image) (count : w ≡ min writes (recover_due (logged (bytes image)).count))
      (card : bytes image' ≡ recover writes (bytes image)) (length-is : n ≡ (logged (bytes image)).count) (v : Volume) where
    pub recover-cut : w < recover_due n → v ≡ no_volume → (a : After Written) → a ≡ record { volume = v; answer = Ok (Cut w) } → Recovered image writes (a, image')
    recover-cut l e a z =
        let d : recover_due n ≡ recover_due (logged (bytes image)).count = ap recover_due length-is in
        let q : w ≡ writes = omega arith in
        record {
          good = g;
          header = header_is;
          size = long;
          card = card;
          cut = λ c. rw (z, q) (refl, e);
          done = λ c. absurd (omega arith);
        }

    pub recover_done : recover_due n ≤ w → v ≡ mounted sb → (a : After Written) → a ≡ record { volume = v; answer = Ok (All w) } → Recovered image writes (a, image')
    recover_done l e a z =
        let d : recover_due n ≡ recover_due (logged (bytes image)).count = ap recover_due length-is in
        let q : w ≡ recover_due (logged (bytes image)).count = omega arith in
        record {
          good = g;
          header = header_is;
          size = long;
          card = card;
          cut = λ c. absurd (omega arith);
          done = λ c. rw (z, q) (refl, e ∙ ap mounted same);
        }

-- a commit
module _ (v : Volume) (image image' : List ℕ) (cache : Bytes) (bufs : ℕ → ℕ) (writes w n : ℕ) (long : length image' ≡ length image) (number : n ≡ v.recorded)
    (places : (i : ℕ) → i < n → bufs i ≡ buffer_of v.table.blocks v.table.counts (get_or v.homes i 0))
    (count : w ≡ min writes (commit_due n)) (card : bytes image' ≡ commit (held n (bytes v.homes) bufs cache) writes (bytes image)) (u : Volume) where
  card_is : bytes image' ≡ commit (recorded_tx v cache) writes (bytes image)
  card_is =
      card ∙ ap (λ (m : ℕ). commit (held m (bytes v.homes) bufs cache) writes (bytes image)) number
      ∙ commit-same v.recorded (bytes v.homes) bufs _ cache (λ i l. places i (omega arith)) writes (bytes image)

  pub commit-cut : w < commit_due n → u ≡ stopped v → (a : After Written) → a ≡ record { volume = u; answer = Ok (Cut w) } → Committed v image cache writes (a, image')
  commit-cut l e a z =
      let d : commit_due n ≡ commit_due v.recorded = ap commit_due number in
      let q : w ≡ writes = omega arith in
      record { size = long; card = card_is; cut = λ c. rw (z, q) (refl, e); done = λ c. absurd (omega arith) }

  pub commit_whole : commit_due n ≤ w → u ≡ ended v → (a : After Written) → a ≡ record { volume = u; answer = Ok (All w) } → Committed v image cache writes (a, image')
  commit_whole l e a z =
      let d : commit_due n ≡ commit_due v.recorded = ap commit_due number in
      let q : w ≡ commit_due v.recorded = omega arith in
      record { size = long; card = card_is; cut = λ c. absurd (omega arith); done = λ c. rw (z, q) (refl, e) }

-- an end that is not the last
pub closed : (v : Volume) (image : List ℕ) (cache : Bytes) (writes : ℕ) (u : Volume) → Whole v image → 1 < v.ops → u ≡ with_ops v (v.ops - 1)
    → (a : After Written) → a ≡ record { volume = u; answer = Ok (All 0) } → Ended v image cache writes (a, image)
closed v image cache writes u w l e a z =
    record { was = w; more = λ c. rw z (record { answer = refl; volume = e; same = refl }); last = λ c. absurd (omega arith) }

pub ended_last : (v : Volume) (image : List ℕ) (cache : Bytes) (writes : ℕ) (l : Left) → Whole v image → v.ops ≤ 1 → Committed v image cache writes l
    → Ended v image cache writes l
ended_last v image cache writes l w k r = record { was = w; more = λ c. absurd (omega arith); last = λ c. r }
