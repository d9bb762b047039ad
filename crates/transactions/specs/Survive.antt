-- The proof of PulledCalls.antt: the log's theorem, carried along the calls. A finished end leaves what was seen, in a whole state.
-- Assumes nothing.
use Rattle.std.specs.Prelude.{◌≡◌, refl, ◌⊎◌, Bool, List, ℕ, ◌+◌, ◌*◌, ◌/◌, ◌≤◌, ◌<◌, length, get_or}
use Rattle.std.proofs.Math.Path.{sym}
use Rattle.std.proofs.Common.{ap, ◌∙◌, subst, inl, inr, ⊎_elim}
use Rattle.std.proofs.Math.Bool.{true, false}
use native.Mathlib.Omega.{arith}
use Rattle.base.specs.Bytes.{Bytes, bytes}
use Rattle.base.specs.Decide.{le_or_lt, lt_or_le}
use Rattle.superblock.specs.declared.Super.{Super}
use Rattle.superblock.specs.Geometry.{Good, Laid, super_of}
use Rattle.bio.specs.Among.{among, among_where, among_no}
use Rattle.bio.specs.Seen.{buffer_of, seen, seen_in, seen_out, buffer_none, by_block}
use Rattle.card_log.specs.Journal.{held, GoodLog, Settled, logged, recover, recover_due, commit, replaced}
use Rattle.card_log.specs.Installing.{replaced_in, replaced_off}
use Rattle.card_log.specs.Headers.{recover_due_most}
use Rattle.card_log.specs.Crash.{Leads, recover_leads, recovered_done, recover_enough}
use Rattle.card_log.proofs.Crash.{commit-keeps, commit_turns}
use Rattle.card_log.specs.Kept.{recover-below}
use Rattle.card_log.proofs.Kept.{commit-below}
use Rattle.state.specs.declared.Volume.{Volume}
use Rattle.state.specs.Whole.{Whole}
use Rattle.transactions.specs.Calls.{Left, paper, EndGives, MountGives, Recovered, Committed, recorded_tx, mounted}
use Rattle.transactions.specs.Kept.{super_same, good_kept}
use Rattle.transactions.specs.Recorded.{numbers, recorded_good, buffer_below}
use Rattle.transactions.specs.Afterwards.{idle_whole}
use Rattle.transactions.specs.PulledCalls.{Mounts, none, next, Outcome, CallsSurvive}

module _ (v : Volume) (image : List ℕ) (w : Whole v image) (cache : Bytes) where
  -- the homes replaced by what is recorded is what is seen
  pub replaced-seen : replaced (recorded_tx v cache) (bytes image) ≡ seen v.table.blocks v.table.counts cache (bytes image)
  unfolding held
  replaced-seen = by_block _ _ (λ b i l. go b i l (among v.homes v.recorded b) refl)
    where
      go : (b i : ℕ) → i < 1024 → (s : Bool) → among v.homes v.recorded b ≡ s
          → replaced (recorded_tx v cache) (bytes image) (b * 1024 + i) ≡ seen v.table.blocks v.table.counts cache (bytes image) (b * 1024 + i)
      go b i l true e =
          let f = among_where v.homes v.recorded b e in
          let q = f.2 in
          rw (sym q)
          (replaced_in (recorded_tx v cache) (recorded_good v image w cache).distinct (bytes image) f.0 i f.1 l
          ∙ sym (seen_in v.table.blocks v.table.counts cache (bytes image) (get_or v.homes f.0 0) i l (buffer_below v image w f.0 f.1)))
      go b i l false e =
          let z : (b * 1024 + i) / 1024 ≡ b = omega arith in
          let n : buffer_of v.table.blocks v.table.counts b ≡ 30 =
          buffer_none v.table.blocks v.table.counts b
          (λ j m q c. omega (arith, w.buffered.buffers.others j m (ap (among v.homes v.recorded) q ∙ e))) in
          replaced_off (recorded_tx v cache) (bytes image) (b * 1024 + i) (λ k m q. among_no v.homes v.recorded b e k m (q ∙ z))
          ∙ sym (seen_out v.table.blocks v.table.counts cache (bytes image) b i l (omega arith))

  -- the homes are past the log
  pub recorded_high : (i : ℕ) → i < v.recorded → 2 ≤ get_or v.homes i 0
  recorded_high i l = omega (arith, w.buffered.list.low i l, (numbers v image w).laid.inodestart)

  -- a commit, cut or not, leaves the blocks before the log alone
  pub commit_super : (k x : ℕ) → x < 2048 → commit (recorded_tx v cache) k (bytes image) x ≡ bytes image x
  unfolding held
  commit_super k x l = commit-below (recorded_tx v cache) recorded_high x l k (bytes image)

-- ---- what a mount leaves, whatever it answers

-- the card still has its superblock, and its log still leads to e
pub record Holds (s : Super) (image card : List ℕ) (e : Bytes) : Type 0 where
  pub long : length card ≡ length image
  pub same : (x : ℕ) → x < 2048 → bytes card x ≡ bytes image x
  pub leads : Leads s (bytes card) e

module _ (s : Super) (laid : Laid s) (image : List ℕ) (e : Bytes) where
  recovery_holds : (card card' : List ℕ) (writes : ℕ) → Holds s image card e → length card' ≡ length card → bytes card' ≡ recover writes (bytes card)
      → Holds s image card' e
  recovery_holds card card' writes h l c =
      record {
        long = l ∙ h.long;
        same = λ x m.
            ap (λ (f : Bytes). f x) c
            ∙ recover-below (bytes card) (λ i k. omega (arith, h.leads.good.high i k, laid.inodestart)) writes x m ∙ h.same x m;
        leads = rw c (recover_leads s laid (bytes card) e writes h.leads);
      }

  mount_holds : (card : List ℕ) (cache writes : ℕ) (l : Left) → MountGives cache card writes l → Holds s image card e → Holds s image l.1 e
  mount_holds card cache writes l (inl g) h = rw (ap (λ (z : Left). z.1) g.1) h
  mount_holds card cache writes l (inr (a, inl g)) h = rw (ap (λ (z : Left). z.1) g.1) h
  mount_holds card cache writes l (inr (a, inr (b, inl g))) h = rw (ap (λ (z : Left). z.1) g.1) h
  mount_holds card cache writes l (inr (a, inr (b, inr (c, r)))) h = recovery_holds card l.1 writes h r.size r.card

  mounts_hold : (card last : List ℕ) → Mounts card last → Holds s image card e → Holds s image last e
  mounts_hold card last none h = h
  mounts_hold card last (next cache writes l g m) h = mounts_hold l.1 last m (mount_holds card cache writes l g h)

-- ---- the last mount

-- a mount that answers neither cut nor a refusal has a whole state
pub recovered_whole : (card : List ℕ) (writes : ℕ) (l : Left) → Recovered card writes l
    → (paper l.0.answer).0 ≡ 0 → Whole l.0.volume l.1
recovered_whole card writes l r z = go (lt_or_le writes (recover_due (logged (bytes card)).count))
  where
    same : (x : ℕ) → x < 2048 → bytes l.1 x ≡ bytes card x
    same x m =
        ap (λ (f : Bytes). f x) r.card
        ∙ recover-below (bytes card) (λ i k. omega (arith, r.header.high i k, r.good.numbers.laid.inodestart)) writes x m

    go : (writes < recover_due (logged (bytes card)).count) ⊎ (recover_due (logged (bytes card)).count ≤ writes) → Whole l.0.volume l.1
    go (inl c) = absurd (let q = ap (λ (p : ℕ × ℕ). p.0) (r.cut c).0 in omega arith)
    go (inr c) =
        rw ((r.done c).1 ∙ ap mounted (sym (super_same card l.1 r.size same)))
        (idle_whole l.1 (good_kept card l.1 r.size same r.good))

-- a finished mount gives a whole state, with a fresh table, nothing open, nothing recorded and no slot in use
pub mount_whole : (cache : ℕ) (image : List ℕ) (writes : ℕ) (l : Left) → MountGives cache image writes l → (paper l.0.answer).0 ≡ 0
    → Whole l.0.volume l.1
mount_whole cache image writes l (inl g) z = absurd (let q = ap (λ (m : Left). (paper m.0.answer).0) g.1 in omega arith)
mount_whole cache image writes l (inr (a, inl g)) z = absurd (let q = ap (λ (m : Left). (paper m.0.answer).0) g.1 in omega arith)
mount_whole cache image writes l (inr (a, inr (b, inl g))) z = absurd (let q = ap (λ (m : Left). (paper m.0.answer).0) g.1 in omega arith)
mount_whole cache image writes l (inr (a, inr (b, inr (c, r)))) z = recovered_whole image writes l r z

-- what the calls leave of the card, where the log on it leads to e
module _ (v : Volume) (image : List ℕ) (w : Whole v image) where
  -- the card is good, and so is its header
  holds_good : (card : List ℕ) (e : Bytes) → Holds v.sb image card e → Good card × GoodLog (super_of (bytes card)) (logged (bytes card))
  holds_good card e h =
      let q : super_of (bytes card) ≡ v.sb = super_same image card h.long h.same ∙ sym w.card.same in
      (good_kept image card h.long h.same w.card.good, rw q h.leads.good)

  -- so a mount with a cache of 30,720 bytes does not refuse
  holds_mount : (card : List ℕ) (e : Bytes) (writes : ℕ) (m : Left) → Holds v.sb image card e → MountGives 30720 card writes m → Recovered card writes m
  holds_mount card e writes m h (inl g) = absurd (g.0 refl)
  holds_mount card e writes m h (inr (a, inl g)) = absurd (g.0 (holds_good card e h).0)
  holds_mount card e writes m h (inr (a, inr (b, inl g))) = absurd (g.0 (holds_good card e h).1)
  holds_mount card e writes m h (inr (a, inr (b, inr (c, r)))) = r

  -- and where it is done the card has settled
  holds-settled : (card : List ℕ) (e : Bytes) (writes : ℕ) (m : Left) → Holds v.sb image card e → Recovered card writes m → (paper m.0.answer).0 ≡ 0
      → Settled v.sb (bytes m.1) e
  holds-settled card e writes m h r z = go (lt_or_le writes (recover_due (logged (bytes card)).count))
    where
      go : (writes < recover_due (logged (bytes card)).count) ⊎ (recover_due (logged (bytes card)).count ≤ writes) → Settled v.sb (bytes m.1) e
      go (inl c) = absurd (let q = ap (λ (p : ℕ × ℕ). p.0) (r.cut c).0 in omega arith)
      go (inr c) = rw (r.card, recover_enough (bytes card) writes c) (recovered_done v.sb (numbers v image w).laid (bytes card) e h.leads)

  module _ (cache : List ℕ) (one : v.ops ≡ 1) (memory : length cache ≡ 30720) (writes : ℕ) (l : Left) where
    end_committed : EndGives v image cache writes l → Committed v image (bytes cache) writes l
    end_committed (inl g) = absurd (g.0 w)
    end_committed (inr (a, inl g)) = absurd (g.0 memory)
    end_committed (inr (a, inr (b, inl g))) = absurd (omega (arith, g.0))
    end_committed (inr (a, inr (b, inr (c, r)))) = r.last one

    end_holds : (e : Bytes) → Committed v image (bytes cache) writes l → Leads v.sb (commit (recorded_tx v (bytes cache)) writes (bytes image)) e
        → Holds v.sb image l.1 e
    end_holds e r h =
        record {
          long = r.size;
          same = λ x m. ap (λ (f : Bytes). f x) r.card ∙ commit_super v image w (bytes cache) writes x m;
          leads = rw r.card h;
        }

    -- the log's theorem, at the last mount
    module _ (z : (logged (bytes image)).count ≡ 0) (g : EndGives v image cache writes l) (card : List ℕ) (ms : Mounts l.1 card) (given : ℕ) (m : Left) (h : MountGives 30720 card given m) where
      to : (e : Bytes) → Leads v.sb (commit (recorded_tx v (bytes cache)) writes (bytes image)) e → Holds v.sb image card e
      to e k = mounts_hold v.sb (numbers v image w).laid image e l.1 card ms (end_holds e (end_committed g) k)

      at_old : writes ≤ v.recorded → Holds v.sb image card (bytes image)
      unfolding held
      at_old k = to (bytes image) (commit-keeps v.sb (numbers v image w).laid (numbers v image w).size_most (recorded_tx v (bytes cache)) (recorded_good v image w (bytes cache)) (bytes image) writes z k)

      at_new : v.recorded + 1 ≤ writes → Holds v.sb image card (seen v.table.blocks v.table.counts (bytes cache) (bytes image))
      unfolding held
      at_new k =
          to _ (subst (λ (f : Bytes). Leads v.sb (commit (recorded_tx v (bytes cache)) writes (bytes image)) f) (replaced-seen v image w (bytes cache))
          (commit_turns v.sb (numbers v image w).laid (numbers v image w).size_most (recorded_tx v (bytes cache)) (recorded_good v image w (bytes cache)) (bytes image) writes z k))

      recovers : Recovered card given m
      recovers = ⊎_elim (λ k. holds_mount card _ given m (at_old k) h) (λ k. holds_mount card _ given m (at_new (omega arith)) h) (le_or_lt writes v.recorded)

      outcome : Outcome v image cache writes given m
      outcome =
          record {
            answers = ⊎_elim (λ c. inr (ap (λ (p : ℕ × ℕ). p.0) (recovers.cut c).0)) (λ c. inl (ap (λ (p : ℕ × ℕ). p.0) (recovers.done c).0))
                (lt_or_le given (recover_due (logged (bytes card)).count));
            enough = λ k. ap (λ (p : ℕ × ℕ). p.0) (recovers.done (omega (arith, recover_due_most (logged (bytes card)).count, recovers.header.few))).0;
            done = λ q. record {
              whole = recovered_whole card given m recovers q;
              empty = ⊎_elim (λ k. (holds-settled card _ given m (at_old k) recovers q).empty) (λ k. (holds-settled card _ given m (at_new (omega arith)) recovers q).empty)
                  (le_or_lt writes v.recorded);
              old = λ k x o. (holds-settled card _ given m (at_old k) recovers q).holds x o;
              new = λ k x o. (holds-settled card _ given m (at_new k) recovers q).holds x o;
            };
          }

-- THE THEOREM
pub calls_survive : CallsSurvive
calls_survive v image cache w one memory z writes l g card ms given m h = outcome v image w cache one memory writes l z g card ms given m h
