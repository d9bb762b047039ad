-- The proof of the pulled card (statement: specs/PulledCard.antt): the writes of a commit, and what the card leads to after each of them. It stands here,
-- and not in specs/, so that an edit of `commit_write` is refused by these theorems. Assumes nothing.
use Rattle.std.specs.Prelude.{◌≡◌, ◌⊎◌, cond, leb}
use Rattle.std.proofs.Math.Path.{refl, ap}
use Rattle.std.proofs.Common.{sym, ◌∙◌, add-zero, add-suc, add-one}
use Rattle.std.proofs.Math.Logic.{inl, inr, ⊎_elim}
use mathlib.Core.List.{List}
use Prim.Native.Nat.{ℕ, zero, suc, ◌+◌, ◌-◌, ◌*◌, ◌%◌, ◌≤◌, ◌<◌, min}
use native.Mathlib.Omega.{arith}
use Rattle.std.proofs.Math.Decide.{ℕ_discrete}
use borrow.Author.Tests.{lt-ltb, le-ltb, le-leb, lt-leb, eq-eqb, ne_eqb}
use Rattle.base.specs.Bytes.{Bytes, block, put_block}
use Rattle.base.specs.Decide.{le_or_lt, lt_or_le}
use Rattle.base.specs.Run.{run, run_none}
use Rattle.superblock.specs.declared.Super.{Super}
use Rattle.superblock.specs.Geometry.{Laid}
use Rattle.card_log.specs.Words.{put_words, words_in, words-first, words_out, block_in, block_off}
use Rattle.card_log.specs.Journal.{Tx, held, header, log_block, words, home_write, install_write, commit_write, commit_due}
use Rattle.card_log.specs.Journal.{commit, committed, logged, replaced, GoodLog, Outside, Settled, after_crash}
use Rattle.card_log.specs.PulledCard.{Saved, PulledCard}
use Rattle.card_log.specs.Installing.{Same, homes_forget, homes_same, install_home, install_all, install_same, replaced_in, replaced_off}
use Rattle.card_log.specs.Headers.{commit_due_none, commit_due_some, recover_due_none, words_suc, empty_count, emptied_off, log_count, good_same}
use Rattle.card_log.specs.Crash.{Leads, leads_empty, install_leads, recoveries_leads, recovered_done}

-- the writes of a commit
module _ (t : Tx) (k : ℕ) (d : Bytes) where
  pub commit_log : k < t.count → commit_write t k d ≡ put_block d (log_block k) (t.content k)
  unfolding commit_write
  commit_log h = rw (lt-ltb k t.count h)

  pub commit-header : k ≡ t.count → commit_write t k d ≡ put_words d header (t.count + 1) (words t.count t.home)
  unfolding commit_write
  commit-header h = rw (le-ltb k t.count (omega arith), eq-eqb k t.count h)

  pub commit_install : (j : ℕ) → k ≡ t.count + 1 + j → commit_write t k d ≡ install_write t j d
  unfolding commit_write
  commit_install j h =
      let e : k - (t.count + 1) ≡ j = omega arith in
      rw (le-ltb k t.count (omega arith), ne_eqb k t.count (λ q. omega arith), e)

-- a write of a block by the number of the block and of its home, as code finds them: into the log before the header, home after it
pub commit-block : (n : ℕ) (h b : ℕ → ℕ) (m : Bytes) (k a i : ℕ) (d e : Bytes) → (k ≡ n → ⊥) → k ≤ 2 * n
    → (k < n → a ≡ log_block k) × (n < k → a ≡ h (k - (n + 1))) → (k < n → i ≡ k) × (n < k → i ≡ k - (n + 1))
    → e ≡ put_block d a (block m (b i)) → e ≡ commit_write (held n h b m) k d
unfolding held home_write
commit-block n h b m k a i d e u l p q r = r ∙ go (lt_or_le k n)
  where
    go : (k < n) ⊎ (n ≤ k) → put_block d a (block m (b i)) ≡ commit_write (held n h b m) k d
    go (inl w) = rw (p.0 w, q.0 w) (sym (commit_log (held n h b m) k d w))
    go (inr w) =
        rw (p.1 (omega arith), q.1 (omega arith))
        (sym (install_home (held n h b m) (k - (n + 1)) d (omega arith)) ∙ sym (commit_install (held n h b m) k d (k - (n + 1)) (omega arith)))

-- the log writes change nothing but the log blocks, which hold the contents then
log_off : (is : ℕ) (t : Tx) (k : ℕ) (d : Bytes) (x : ℕ) → k ≤ t.count → 3 + t.count ≤ is → (x < 3072) ⊎ (is * 1024 ≤ x)
    → run (commit_write t) k d x ≡ d x
unfolding run
log_off is t zero d x h r o = refl
log_off is t (suc k) d x h r o =
    rw (commit_log t k (run (commit_write t) k d) h)
    (block_off (run (commit_write t) k d) (log_block k) (t.content k) x (λ e. ⊎_elim (λ l. omega arith) (λ l. omega arith) o) ∙ log_off is t k d x (omega arith) r o)

log_in : (t : Tx) (k : ℕ) (d : Bytes) (i j : ℕ) → k ≤ t.count → i < k → j < 1024
    → run (commit_write t) k d (log_block i * 1024 + j) ≡ t.content i j
unfolding run
log_in t zero d i j h l m = absurd (omega arith)
log_in t (suc k) d i j h l m = rw (commit_log t k (run (commit_write t) k d) h) (go (log_in t k d i j (omega arith)) (ℕ_discrete i k))
  where
    go : (i < k → j < 1024 → run (commit_write t) k d (log_block i * 1024 + j) ≡ t.content i j) → Dec (i ≡ k)
        → put_block (run (commit_write t) k d) (log_block k) (t.content k) (log_block i * 1024 + j) ≡ t.content i j
    go ih (yes e) =
        let q : (log_block i * 1024 + j) % 1024 ≡ j = omega arith in
        block_in (run (commit_write t) k d) (log_block k) (t.content k) (log_block i * 1024 + j) (omega arith) ∙ rw (q, e)
    go ih (no e) = block_off (run (commit_write t) k d) (log_block k) (t.content k) (log_block i * 1024 + j) (λ q. e (omega arith)) ∙ ih (omega arith) m

-- the rest of a commit, from the header write on, is an installing
commit_split : (t : Tx) (j : ℕ) (d : Bytes) → run (commit_write t) (t.count + 1 + j) d ≡ run (install_write t) j (run (commit_write t) (t.count + 1) d)
unfolding run
commit_split t zero d = rw add-zero
commit_split t (suc j) d = rw (add-suc, commit_split t j d) (commit_install t (t.count + 1 + j) _ j refl)

module _ (s : Super) (laid : Laid s) (sz : s.size ≤ 8191) (t : Tx) (g : GoodLog s t) (d : Bytes) where
  -- the card once the header is written
  header-count : (logged (run (commit_write t) (t.count + 1) d)).count ≡ t.count
  unfolding run logged held words
  header-count =
      rw (add-one, commit-header t t.count (run (commit_write t) t.count d))
      (words-first (run (commit_write t) t.count d) header (t.count + 1) (words t.count t.home) (omega arith) (omega (arith, g.few)))

  header-same : Same (logged (run (commit_write t) (t.count + 1) d)) t t.count
  unfolding run logged held
  header-same =
      rw (add-one, commit-header t t.count (run (commit_write t) t.count d))
      (record {
        home = λ i l.
            words_in (run (commit_write t) t.count d) header (t.count + 1) (words t.count t.home) (i + 1) (omega arith)
            (rw (words_suc t.count t.home i) (omega (arith, g.low i l))) ∙ words_suc t.count t.home i;
        content = λ i j l m.
            words_out (run (commit_write t) t.count d) header (t.count + 1) (words t.count t.home) (log_block i * 1024 + j) (λ p q. omega (arith, g.few))
            ∙ log_in t t.count d i j (omega arith) l m;
      })

  fits : 3 + t.count ≤ s.inodestart
  fits = omega (arith, g.room, laid.inodestart)

  header_off : (x : ℕ) → Outside s x → run (commit_write t) (t.count + 1) d x ≡ d x
  unfolding run
  header_off x o =
      rw (add-one, commit-header t t.count (run (commit_write t) t.count d))
      (words_out (run (commit_write t) t.count d) header (t.count + 1) (words t.count t.home) x
      (λ p q. ⊎_elim (λ l. omega arith) (λ l. omega (arith, g.few, fits)) o)
      ∙ log_off s.inodestart t t.count d x (omega arith) fits (⊎_elim (λ l. inl (omega arith)) (λ l. inr l) o))

  header_leads : Leads s (run (commit_write t) (t.count + 1) d) (replaced t d)
  unfolding replaced
  header_leads =
      let d1 = run (commit_write t) (t.count + 1) d in
      let c : (logged d1).count ≡ t.count = header-count in
      let q : Same (logged d1) t t.count = header-same in
      record {
        good = good_same s (logged d1) t c q g;
        to = λ x o.
            ap (λ m. run (home_write (logged d1)) m d1 x) c ∙ homes_same (logged d1) t t.count d1 x q
            ∙ homes_forget t t.count d1 d x (inl (header_off x o));
      }

  -- a commit stopped before the header write leads to the old image, and one stopped after it to the new
  commit_old : (k : ℕ) → k ≤ t.count → (logged d).count ≡ 0 → Leads s (run (commit_write t) k d) d
  commit_old k h z =
      leads_empty s laid _ d (omega (arith, g.room))
      (log_count 3 _ d (omega arith) (λ x l. log_off s.inodestart t k d x h fits (inl l)) ∙ z)
      (λ x o. log_off s.inodestart t k d x h fits (⊎_elim (λ l. inl (omega arith)) (λ l. inr l) o))

  commit_new : (j : ℕ) → j ≤ t.count + 1 → Leads s (run (commit_write t) (t.count + 1 + j) d) (replaced t d)
  commit_new j h =
      let d1 = run (commit_write t) (t.count + 1) d in
      let c : (logged d1).count ≡ t.count = header-count in
      rw (commit_split t j d, install_same t (logged d1) j d1 c header-same h)
      (install_leads s laid d1 (replaced t d) j (omega arith) header_leads)

  -- nothing to save: nothing is replaced
  replaced-none : t.count ≡ 0 → replaced t d ≡ d
  unfolding replaced
  replaced-none z = ap (λ m. run (home_write t) m d) z ∙ run_none (home_write t) d

  -- up to n writes of a commit it leads to the old card, from n + 1 on to the new
  pub commit-keeps : (k : ℕ) → (logged d).count ≡ 0 → k ≤ t.count → Leads s (commit t k d) d
  unfolding commit
  commit-keeps k z h = go (ℕ_discrete t.count 0)
    where
      go : Dec (t.count ≡ 0) → Leads s (run (commit_write t) (min k (commit_due t.count)) d) d
      go (yes e) = commit_old _ (omega (arith, commit_due_none t.count e)) z
      go (no e) = commit_old _ (omega (arith, commit_due_some t.count e)) z

  pub commit_turns : (k : ℕ) → (logged d).count ≡ 0 → t.count + 1 ≤ k → Leads s (commit t k d) (replaced t d)
  unfolding commit
  commit_turns k z h = go (ℕ_discrete t.count 0)
    where
      go : Dec (t.count ≡ 0) → Leads s (run (commit_write t) (min k (commit_due t.count)) d) (replaced t d)
      go (yes e) = rw (replaced-none e) (commit_old _ (omega (arith, commit_due_none t.count e)) z)
      go (no e) =
          let m = min k (2 * t.count + 2) in
          let q : min k (2 * t.count + 2) ≡ t.count + 1 + (min k (2 * t.count + 2) - (t.count + 1)) = omega arith in
          rw (commit_due_some t.count e, q) (commit_new (m - (t.count + 1)) (omega arith))

  pub commit_leads : (k : ℕ) → (logged d).count ≡ 0 → Leads s (commit t k d) (cond (leb k t.count) d (replaced t d))
  commit_leads k z = go (le_or_lt k t.count)
    where
      go : (k ≤ t.count) ⊎ (t.count < k) → Leads s (commit t k d) (cond (leb k t.count) d (replaced t d))
      go (inl h) = rw (le-leb k t.count h) (commit-keeps k z h)
      go (inr h) = rw (lt-leb k t.count h) (commit_turns k z (omega arith))

  over : (x : ℕ) → Outside s x → replaced t (run (commit_write t) (t.count + 1) d) x ≡ replaced t d x
  unfolding replaced
  over x o = homes_forget t t.count _ d x (inl (header_off x o))

  -- a finished commit: outside the log the homes are replaced, and the log is empty where it was
  pub commit-holds : (x : ℕ) → Outside s x → committed t d x ≡ replaced t d x
  unfolding committed
  commit-holds x o = go (ℕ_discrete t.count 0)
    where
      go : Dec (t.count ≡ 0) → run (commit_write t) (commit_due t.count) d x ≡ replaced t d x
      go (yes e) = rw (commit_due_none t.count e, run_none (commit_write t) d, replaced-none e) refl
      go (no e) =
          let d1 = run (commit_write t) (t.count + 1) d in
          let q : 2 * t.count + 2 ≡ t.count + 1 + (t.count + 1) = omega arith in
          rw (commit_due_some t.count e, q, commit_split t (t.count + 1) d, install_all t d1)
          (emptied_off s (replaced t d1) x (omega (arith, fits)) o ∙ over x o)

  commit_empty : (logged d).count ≡ 0 → (logged (committed t d)).count ≡ 0
  unfolding committed
  commit_empty z = go (ℕ_discrete t.count 0)
    where
      go : Dec (t.count ≡ 0) → (logged (run (commit_write t) (commit_due t.count) d)).count ≡ 0
      go (yes e) = rw (commit_due_none t.count e, run_none (commit_write t) d) z
      go (no e) =
          let d1 = run (commit_write t) (t.count + 1) d in
          let q : 2 * t.count + 2 ≡ t.count + 1 + (t.count + 1) = omega arith in
          rw (commit_due_some t.count e, q, commit_split t (t.count + 1) d, install_all t d1) (empty_count (replaced t d1))

  pub commit_done : (logged d).count ≡ 0 → Settled s (committed t d) (replaced t d)
  commit_done z = record { empty = commit_empty z; holds = commit-holds }

  -- THE CRASH THEOREM, in one equation
  pub crash : (logged d).count ≡ 0 → (k : ℕ) (ks : List ℕ) → Settled s (after_crash t k ks d) (cond (leb k t.count) d (replaced t d))
  unfolding after_crash
  crash z k ks = recovered_done s laid _ _ (recoveries_leads s laid _ _ ks (commit_leads k z))

  pub saved : (logged d).count ≡ 0 → Saved s t d
  saved z =
      record {
        empty = (commit_done z).empty;
        homes = λ i j h m. (commit_done z).holds (t.home i * 1024 + j) (inr (omega (arith, g.high i h))) ∙ replaced_in t g.distinct d i j h m;
        rest = λ x o u. (commit_done z).holds x o ∙ replaced_off t d x u;
      }

-- THE THEOREM
pub pulled_card : PulledCard
unfolding after_crash
pulled_card s laid sz t g d z k ks =
    let l = commit_leads s laid sz t g d k z in
    let e = (recovered_done s laid _ _ (recoveries_leads s laid _ _ ks l)).empty in
    record {
      good = (recoveries_leads s laid _ _ ks l).good;
      empty = e;
      nothing_due = recover_due_none _ e;
      old = λ h x o. (recovered_done s laid _ _ (recoveries_leads s laid _ _ ks (commit-keeps s laid sz t g d k z h))).holds x o;
      new = λ h x o.
          (recovered_done s laid _ _ (recoveries_leads s laid _ _ ks (commit_turns s laid sz t g d k z h))).holds x o
          ∙ sym ((commit_done s laid sz t g d z).holds x o);
      saved = saved s laid sz t g d z;
    }
