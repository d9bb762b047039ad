-- What the proof of the pulled card stands on (statement: PulledCard.antt; proof: proofs/Crash.antt). `Leads s d e` says: the header on d is good,
-- and installing what it says makes e of d outside the log. Every write of an installing keeps it, and so does every recovery, cut or not.
-- Assumes nothing.
use Rattle.std.specs.Prelude.{◌≡◌, ◌⊎◌}
use Rattle.std.proofs.Math.Path.{ap}
use Rattle.std.proofs.Common.{sym, ◌∙◌}
use Rattle.std.proofs.Math.Logic.{inl, inr}
use mathlib.Core.List.{List, [], ◌∷◌}
use Prim.Native.Nat.{ℕ, ◌+◌, ◌*◌, ◌≤◌, ◌<◌, min}
use native.Mathlib.Omega.{arith}
use Rattle.std.proofs.Math.Decide.{ℕ_discrete}
use Rattle.base.specs.Bytes.{Bytes}
use Rattle.base.specs.Decide.{le_or_lt}
use Rattle.base.specs.Run.{run, run_none}
use Rattle.superblock.specs.declared.Super.{Super}
use Rattle.superblock.specs.Geometry.{Laid}
use Rattle.card_log.specs.Journal.{Tx, home_write, emptied, install_write, commit_write, commit_due, recover_due}
use Rattle.card_log.specs.Journal.{commit, committed, logged, recover, recovered, recoveries, replaced, GoodLog, Outside, Settled}
use Rattle.card_log.specs.Installing.{Same, homes_below, homes_same, homes_again, install_part, install_all}
use Rattle.card_log.specs.Headers.{recover_due_none, recover_due_some, recover_due_most, empty_count, emptied_off, log_count, log_same, good_same, good_none}

-- d has a good header, and installing what it says makes e of it, outside the log area
pub record Leads (s : Super) (d e : Bytes) : Type 0 where
  pub good : GoodLog s (logged d)
  pub to : (x : ℕ) → Outside s x → replaced (logged d) d x ≡ e x

module _ (s : Super) (laid : Laid s) where
  -- two images that are the same below the inodes, and with the logged homes replaced
  leads_same : (d d' e : Bytes) → Leads s d e → ((x : ℕ) → x < s.inodestart * 1024 → d' x ≡ d x)
      → ((x : ℕ) → replaced (logged d) d' x ≡ replaced (logged d) d x) → Leads s d' e
  unfolding replaced
  leads_same d d' e l h k =
      let g = l.good in
      let n = (logged d).count in
      let c : (logged d').count ≡ n = log_count s.inodestart d' d (omega (arith, laid.inodestart, g.room)) h in
      let q : Same (logged d') (logged d) n = log_same s.inodestart d' d n g.few (omega (arith, laid.inodestart, g.room)) h in
      record {
        good = good_same s (logged d') (logged d) c q g;
        to = λ x o. ap (λ m. run (home_write (logged d')) m d' x) c ∙ homes_same (logged d') (logged d) n d' x q ∙ k x ∙ l.to x o;
      }

  -- an image whose header says 0
  pub leads_empty : (d e : Bytes) → 1 ≤ s.nlog → (logged d).count ≡ 0 → ((x : ℕ) → Outside s x → d x ≡ e x) → Leads s d e
  unfolding replaced run
  leads_empty d e r z h = record { good = good_none s (logged d) laid r z; to = λ x o. ap (λ m. run (home_write (logged d)) m d x) z ∙ h x o }

  -- EVERY WRITE OF AN INSTALLING KEEPS IT: stopped after k writes it still leads to e
  pub install_leads : (d e : Bytes) (k : ℕ) → k ≤ (logged d).count + 1 → Leads s d e → Leads s (run (install_write (logged d)) k d) e
  unfolding replaced
  install_leads d e k b l = go (le_or_lt k t.count)
    where
      t : Tx
      t = logged d

      go : (k ≤ t.count) ⊎ (t.count < k) → Leads s (run (install_write t) k d) e
      go (inl h) =
          rw (install_part t k d h)
          (leads_same d (run (home_write t) k d) e l
          (λ x b. homes_below s.inodestart t k d x (λ i m. l.good.high i (omega arith)) b)
          (λ x. homes_again t t.count k d x h))
      go (inr h) =
          let q : k ≡ t.count + 1 = omega arith in
          rw (q, install_all t d)
          (leads_empty (emptied (replaced t d)) e (omega (arith, l.good.room)) (empty_count (replaced t d))
          (λ x o. emptied_off s (replaced t d) x (omega (arith, laid.inodestart, l.good.room)) o ∙ l.to x o))

  pub recover_leads : (d e : Bytes) (k : ℕ) → Leads s d e → Leads s (recover k d) e
  unfolding recover
  recover_leads d e k l = install_leads d e (min k (recover_due (logged d).count)) (omega (arith, recover_due_most (logged d).count)) l

  pub recoveries_leads : (d e : Bytes) (ks : List ℕ) → Leads s d e → Leads s (recoveries ks d) e
  unfolding recoveries
  recoveries_leads d e [] l = l
  recoveries_leads d e (k ∷ ks) l = recoveries_leads (recover k d) e ks (recover_leads d e k l)

  -- a recovery that finishes
  pub recovered_done : (d e : Bytes) → Leads s d e → Settled s (recovered d) e
  unfolding recovered replaced
  recovered_done d e l = go (ℕ_discrete t.count 0)
    where
      t : Tx
      t = logged d

      go : Dec (t.count ≡ 0) → Settled s (run (install_write t) (recover_due t.count) d) e
      go (yes z) =
          rw (recover_due_none t.count z, run_none (install_write t) d)
          (record { empty = z; holds = λ x o. sym (ap (λ m. run (home_write t) m d x) z ∙ ap (λ (f : Bytes). f x) (run_none (home_write t) d)) ∙ l.to x o })
      go (no z) =
          rw (recover_due_some t.count z, install_all t d)
          (record {
            empty = empty_count (replaced t d);
            holds = λ x o. emptied_off s (replaced t d) x (omega (arith, laid.inodestart, l.good.room)) o ∙ l.to x o;
          })

-- a recovery with enough writes finishes
pub recover_enough : (d : Bytes) (k : ℕ) → recover_due (logged d).count ≤ k → recover k d ≡ recovered d
unfolding recover recovered
recover_enough d k h =
    let m : min k (recover_due (logged d).count) ≡ recover_due (logged d).count = omega arith in
    ap (λ z. run (install_write (logged d)) z d) m

pub commit_enough : (t : Tx) (d : Bytes) (k : ℕ) → commit_due t.count ≤ k → commit t k d ≡ committed t d
unfolding commit committed
commit_enough t d k h =
    let m : min k (commit_due t.count) ≡ commit_due t.count = omega arith in
    ap (λ z. run (commit_write t) z d) m
