-- Headers: what the log on a card says depends on its own bytes alone, and is good where what was read of it is good. The writes due.
-- Assumes nothing.
use Rattle.std.specs.Prelude.{◌≡◌, true, false, ◌⊎◌, ℕ, ◌+◌, ◌*◌, ◌≤◌, ◌<◌, eqb}
use Rattle.std.proofs.Math.Path.{refl, sym}
use Rattle.std.proofs.Common.{◌∙◌, ap, subst, inl, inr, ⊎_elim, arith, add-one, eq-eqb, ne_eqb, eqb-true}
use Rattle.std.proofs.Math.Decide.{ℕ_discrete}
use Rattle.base.specs.First.{first, first_before, first_holds}
use Rattle.base.specs.Bytes.{Bytes, put_out, put_block}
use Rattle.base.specs.Number.{get, digit, get-put, get_same_bytes}
use Rattle.base.specs.Decide.{lt_or_le}
use Rattle.base.specs.Run.{run, run_more}
use Rattle.superblock.specs.declared.Super.{Super}
use Rattle.superblock.specs.Geometry.{Laid}
use Rattle.card_log.specs.Words.{block_same}
use Rattle.card_log.specs.Journal.{Tx, held, header, log_block, words, home_write, emptied, install_write, logged, recover_due, commit_due, HomesIn, GoodLog, Outside, Within, Ready}
use Rattle.card_log.specs.Installing.{Same, homes_below, install_home, install_last, install_part}

-- the writes due
module _ (n : ℕ) where
  pub commit_due_none : n ≡ 0 → commit_due n ≡ 0
  unfolding commit_due
  commit_due_none h = rw (eq-eqb n 0 h)

  pub commit_due_some : (n ≡ 0 → ⊥) → commit_due n ≡ 2 * n + 2
  unfolding commit_due
  commit_due_some h = rw (ne_eqb n 0 h)

  pub recover_due_none : n ≡ 0 → recover_due n ≡ 0
  unfolding recover_due
  recover_due_none h = rw (eq-eqb n 0 h)

  pub recover_due_some : (n ≡ 0 → ⊥) → recover_due n ≡ n + 1
  unfolding recover_due
  recover_due_some h = rw (ne_eqb n 0 h)

  pub commit_due_under : (k : ℕ) → k < commit_due n → (0 < n) × (k < 2 * n + 2)
  commit_due_under k h = go (ℕ_discrete n 0)
    where
      go : Dec (n ≡ 0) → (0 < n) × (k < 2 * n + 2)
      go (yes e) = absurd (omega (arith, commit_due_none e))
      go (no e) = omega (arith, commit_due_some e)

  pub recover_due_under : (k : ℕ) → k < recover_due n → (0 < n) × (k < n + 1)
  recover_due_under k h = go (ℕ_discrete n 0)
    where
      go : Dec (n ≡ 0) → (0 < n) × (k < n + 1)
      go (yes e) = absurd (omega (arith, recover_due_none e))
      go (no e) = omega (arith, recover_due_some e)

  pub recover_due_most : recover_due n ≤ n + 1
  recover_due_most = elim (ℕ_discrete n 0) [ yes e ↦ omega (arith, recover_due_none e) | no e ↦ omega (arith, recover_due_some e) ]

-- the numbers of a header
pub words_suc : (n : ℕ) (h : ℕ → ℕ) (i : ℕ) → words n h (i + 1) ≡ h i
unfolding words
words_suc n h i = rw add-one

-- an emptied header
pub empty_count : (d : Bytes) → (logged (emptied d)).count ≡ 0
unfolding logged held emptied
empty_count d = get-put d header 4 0 (omega arith)

pub emptied_off : (s : Super) (d : Bytes) (x : ℕ) → 3 ≤ s.inodestart → Outside s x → emptied d x ≡ d x
unfolding emptied
emptied_off s d x h o = put_out d header 4 (digit 0) x (λ p q. ⊎_elim (λ l. omega arith) (λ l. omega arith) o)

-- the log reads the same where the bytes below block is are the same
pub log_count : (is : ℕ) (d e : Bytes) → 3 ≤ is → ((x : ℕ) → x < is * 1024 → d x ≡ e x) → (logged d).count ≡ (logged e).count
unfolding logged held
log_count is d e r h = get_same_bytes d e header 4 (λ k l. h (header + k) (omega arith))

pub log_same : (is : ℕ) (d e : Bytes) (n : ℕ) → n ≤ 29 → 3 + n ≤ is → ((x : ℕ) → x < is * 1024 → d x ≡ e x) → Same (logged d) (logged e) n
unfolding logged held
log_same is d e n f r h =
    record {
      home = λ i l. get_same_bytes d e (header + 4 * (i + 1)) 4 (λ k m. h (header + 4 * (i + 1) + k) (omega arith));
      content = λ i j l m. h (log_block i * 1024 + j) (omega arith);
    }

pub good_same : (s : Super) (t u : Tx) → t.count ≡ u.count → Same t u u.count → GoodLog s u → GoodLog s t
good_same s t u e q g =
    record {
      few = rw e g.few;
      room = rw e g.room;
      high = λ i h. rw (q.home i (omega arith)) (g.high i (omega arith));
      low = λ i h. rw (q.home i (omega arith)) (g.low i (omega arith));
      distinct = λ i j h k z. g.distinct i j (omega arith) (omega arith) (sym (q.home i (omega arith)) ∙ z ∙ q.home j (omega arith));
    }

pub good_none : (s : Super) (t : Tx) → Laid s → 1 ≤ s.nlog → t.count ≡ 0 → GoodLog s t
good_none s t l m z =
    record {
      few = omega arith;
      room = omega arith;
      high = λ i h. absurd (omega arith);
      low = λ i h. absurd (omega arith);
      distinct = λ i j h k q. absurd (omega arith);
    }

-- a header as code reads it into a number and an array
pub record Read (d : Bytes) (n : ℕ) (h : ℕ → ℕ) : Type 0 where
  pub count : n ≡ get d header 4
  pub homes : (i : ℕ) → i < n → h i ≡ get d (header + 4 * (i + 1)) 4

module _ (s : Super) (d : Bytes) (n : ℕ) (h : ℕ → ℕ) (r : Read d n h) where
  -- it is good exactly where the card's is
  pub read_good : GoodLog s (logged d) → GoodLog s (held n h log_block d)
  unfolding logged held
  read_good g =
      good_same s _ (logged d) r.count
      (record { home = λ i l. r.homes i (omega (arith, r.count)); content = λ i j l m. refl }) g

  pub good_read : GoodLog s (held n h log_block d) → GoodLog s (logged d)
  unfolding logged held
  good_read g =
      good_same s (logged d) _ (sym r.count)
      (record { home = λ i l. sym (r.homes i l); content = λ i j l m. refl }) g

-- a good header of a card that is laid out so can be installed
pub good_within : (s : Super) (d : Bytes) (image : ℕ) → Laid s → s.size * 1024 ≤ image → GoodLog s (logged d) → Within (logged d).count (logged d).home image
good_within s d image a m g =
    record {
      few = g.few;
      log = omega (arith, g.room, a.inodestart, a.bmapstart, a.nblocks);
      home = λ i l. omega (arith, g.low i l);
      past = λ i l. omega (arith, g.high i l, g.room, a.inodestart);
    }

-- a turn of a recovery: the log's blocks are still those that it began with
pub recover_turn : (d e : Bytes) (h : ℕ → ℕ) (k image : ℕ) → Within (logged d).count (logged d).home image → k ≤ (logged d).count
    → ((i : ℕ) → i < (logged d).count → h i ≡ (logged d).home i) → e ≡ run (install_write (logged d)) k d
    → install_write (held (logged d).count h log_block e) k e ≡ install_write (logged d) k e
unfolding logged held home_write
recover_turn d e h k image w b q r = go (lt_or_le k t.count)
  where
    t : Tx
    t = logged d

    u : Tx
    u = held t.count h log_block e

    go : (k < t.count) ⊎ (t.count ≤ k) → install_write u k e ≡ install_write t k e
    go (inl l) =
        install_home u k e l
        ∙ ap (λ b. put_block e b (u.content k)) (q k l)
        ∙ block_same e (t.home k) (u.content k) (t.content k)
        (λ j m. ap (λ (f : Bytes). f (log_block k * 1024 + j)) (r ∙ install_part t k d b)
        ∙ homes_below (3 + t.count) t k d (log_block k * 1024 + j) (λ i n. w.past i (omega arith)) (omega arith))
        ∙ sym (install_home t k e l)
    go (inr l) = install_last u k e l ∙ sym (install_last t k e l)

-- a test of the homes one by one: what each answer has shown
module _ (h : ℕ → ℕ) (low high i : ℕ) where
  pub homes_start : HomesIn h 0 low high
  homes_start = record { from = λ j l. absurd (omega arith); below = λ j l. absurd (omega arith); distinct = λ j k l m e. absurd (omega arith) }

  pub homes_more : HomesIn h i low high → low ≤ h i → h i < high → i ≤ first (λ k. eqb (h k) (h i)) i → HomesIn h (i + 1) low high
  homes_more g a b f =
      record {
        from = λ j l. elim (ℕ_discrete j i) [ yes z ↦ rw z a | no z ↦ g.from j (omega arith) ];
        below = λ j l. elim (ℕ_discrete j i) [ yes z ↦ rw z b | no z ↦ g.below j (omega arith) ];
        distinct = λ j k l m e. elim (ℕ_discrete j i) [
          | yes z ↦ elim (ℕ_discrete k i) [ yes y ↦ omega arith | no y ↦ absurd (other k (omega arith) (sym e ∙ ap h z)) ]
          | no z ↦ elim (ℕ_discrete k i) [ yes y ↦ absurd (other j (omega arith) (e ∙ ap h y)) | no y ↦ g.distinct j k (omega arith) (omega arith) e ]
        ];
      }
    where
      other : (k : ℕ) → k < i → h k ≡ h i → ⊥
      other k l e =
          let z : true ≡ false = sym (eq-eqb (h k) (h i) e) ∙ first_before (λ m. eqb (h m) (h i)) i k (omega arith) in
          let w : ◌≡◌ {A = ℕ} 0 1 = cc in omega arith

  module _ (n : ℕ) (l : i < n) where
    pub homes_low_not : h i < low → HomesIn h n low high → ⊥
    homes_low_not a g = omega (arith, g.from i l)

    pub homes_high_not : high ≤ h i → HomesIn h n low high → ⊥
    homes_high_not a g = omega (arith, g.below i l)

    pub homes_twice_not : first (λ k. eqb (h k) (h i)) i < i → HomesIn h n low high → ⊥
    homes_twice_not f g =
        let e = eqb-true (h (first (λ k. eqb (h k) (h i)) i)) (h i) (first_holds (λ k. eqb (h k) (h i)) i f) in
        omega (arith, g.distinct (first (λ k. eqb (h k) (h i)) i) i (omega arith) l e)

-- the header is good exactly where its length is and the homes that were read are
module _ (s : Super) (d : Bytes) (n : ℕ) (h : ℕ → ℕ) (r : Read d n h) where
  pub header_good : n ≤ 29 → n + 1 ≤ s.nlog → HomesIn h n s.inodestart s.size → GoodLog s (logged d)
  unfolding held
  header_good f m g = good_read s d n h r (record { few = f; room = m; high = g.from; low = g.below; distinct = g.distinct })

  pub header_homes : GoodLog s (logged d) → HomesIn h n s.inodestart s.size
  unfolding held
  header_homes g = let k = read_good s d n h r g in record { from = k.high; below = k.low; distinct = k.distinct }

pub log_length : (d : Bytes) → (logged d).count ≡ get d header 4
unfolding logged held
log_length d = refl

pub header_long_not : (s : Super) (d : Bytes) (n : ℕ) → n ≡ get d header 4 → (n ≤ 29 → n + 1 ≤ s.nlog → ⊥) → GoodLog s (logged d) → ⊥
header_long_not s d n e f g = f (omega (arith, g.few, log_length d)) (omega (arith, g.room, log_length d))

pub log_home : (d : Bytes) (i : ℕ) → (logged d).home i ≡ get d (header + 4 * (i + 1)) 4
unfolding logged held
log_home d i = refl

-- the turns of a recovery that has read the header into n and h
module _ (d : Bytes) (n : ℕ) (h : ℕ → ℕ) (r : Read d n h) (image : ℕ) (w : Within (logged d).count (logged d).home image) where
  pub read_few : n ≤ 29
  read_few = omega (arith, w.few, r.count, log_length d)

  pub read_within : (now : ℕ) → now ≡ image → Within n h now
  read_within now e =
      let c : (logged d).count ≡ n = log_length d ∙ sym r.count in
      record {
        few = read_few;
        log = omega (arith, w.log);
        home = λ i l. omega (arith, r.homes i l, log_home d i, w.home i (omega arith));
        past = λ i l. omega (arith, r.homes i l, log_home d i, w.past i (omega arith));
      }

  pub read_turn : {e' e : Bytes} (k : ℕ) → k ≤ n → e' ≡ install_write (held n h log_block e) k e → e ≡ run (install_write (logged d)) k d
      → e' ≡ run (install_write (logged d)) (k + 1) d
  read_turn {e'} {e} k l p q =
      let c : (logged d).count ≡ n = log_length d ∙ sym r.count in
      run_more (install_write (logged d)) k d
      (p ∙ ap (λ m. install_write (held m h log_block e) k e) (sym c)
      ∙ recover_turn d e h k image w (omega arith) (λ i m. r.homes i (omega arith) ∙ sym (log_home d i)) q)
      q

-- the image keeps its length
pub ready_as : {n : ℕ} {h b : ℕ → ℕ} {c m m' : ℕ} → m' ≡ m → Ready n h b c m → Ready n h b c m'
ready_as {n} {h} {b} {c} e r = subst (λ z. Ready n h b c z) (sym e) r
