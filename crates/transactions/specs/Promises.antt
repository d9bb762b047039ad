-- What follows from the contracts of mount, begin and end: the states that they leave are whole, a state that was cut is not, a finished end
-- leaves on the card what was seen, and each contract fixes its answer, the state and the image. Assumes nothing.
use Rattle.std.specs.Prelude.{◌≡◌, refl, ◌⊎◌, List, ℕ, ◌+◌, ◌*◌, ◌≤◌, ◌<◌, length, get_or, Result, Ok, Err}
use Rattle.std.proofs.Common.{sym, ◌∙◌, inl, inr, arith, ext_get_or}
use Rattle.std.proofs.Math.Path.{ap}
use Rattle.base.specs.Bytes.{Bytes, bytes}
use Rattle.base.specs.Decide.{lt_or_le}
use Rattle.base.specs.First.{first, tabulate, get_d_tabulate}
use Rattle.base.specs.Refusals.{number}
use Rattle.base.specs.Rows.{gives_one}
use Rattle.base.specs.declared.Refusal.{Refusal}
use Rattle.base.specs.declared.Refusal.TheVariants.{NotWhole, BadCall, NoTransaction, BadHandle, Unfit, NotDirectory, NoName, WrongKind, PastEnd, TooLarge, NoSlot, NoInode, NoBlock, NoLogRoom, Busy, NoBuffer, BadSuper, BadLog}
use Rattle.superblock.specs.declared.Super.{Super}
use Rattle.bio.specs.Fresh.{fresh_table}
use Rattle.bio.specs.Order.{least_recent, free_at}
use Rattle.bio.specs.Seen.{buffer_of, buffer_none, seen, seen_in, seen_out, by_block}
use Rattle.card_log.specs.Journal.{held, Outside, logged, recover_due, commit_due}
use Rattle.card_log.specs.Crash.{commit_enough}
use Rattle.card_log.proofs.Crash.{commit-holds}
use Rattle.state.specs.declared.Volume.{Volume}
use Rattle.state.specs.Whole.{Whole}
use Rattle.transactions.specs.declared.Written.{Written}
use Rattle.transactions.specs.declared.Written.TheVariants.{All, Cut}
use Rattle.state.specs.declared.After.{After}
use Rattle.transactions.specs.Calls.{Left, paper, refused, no_volume, idle, mounted, stopped, zeros, recorded_tx, mount_rows, begin_rows}
use Rattle.transactions.specs.Calls.{Recovered, Begun, Committed, MountGives, BeginGives, EndGives}
use Rattle.transactions.specs.Recorded.{numbers, recorded_good, buffer_below}
use Rattle.transactions.specs.Afterwards.{more_whole, less_whole, ended_whole}
use Rattle.transactions.specs.Survive.{replaced-seen, commit_super}

-- ---- the numbers tell the answers apart

refusal_number : (r : Refusal) → (0 < number r) × (number r < 19)
refusal_number NotWhole = omega arith
refusal_number BadCall = omega arith
refusal_number NoTransaction = omega arith
refusal_number BadHandle = omega arith
refusal_number Unfit = omega arith
refusal_number NotDirectory = omega arith
refusal_number NoName = omega arith
refusal_number WrongKind = omega arith
refusal_number PastEnd = omega arith
refusal_number TooLarge = omega arith
refusal_number NoSlot = omega arith
refusal_number NoInode = omega arith
refusal_number NoBlock = omega arith
refusal_number NoLogRoom = omega arith
refusal_number Busy = omega arith
refusal_number NoBuffer = omega arith
refusal_number BadSuper = omega arith
refusal_number BadLog = omega arith

pub is_done : (a : Result Written Refusal) (w : ℕ) → paper a ≡ (0, w) → a ≡ Ok (All w)
is_done (Ok (All x)) w e = ap (λ (y : ℕ). Ok (All y)) (ap (λ (q : ℕ × ℕ). q.1) e)
is_done (Ok (Cut x)) w e = absurd (let q = ap (λ (q : ℕ × ℕ). q.0) e in omega arith)
is_done (Err r) w e = absurd (let q = ap (λ (q : ℕ × ℕ). q.0) e in omega (arith, refusal_number r))

pub is_cut : (a : Result Written Refusal) (w : ℕ) → paper a ≡ (19, w) → a ≡ Ok (Cut w)
is_cut (Ok (All x)) w e = absurd (let q = ap (λ (q : ℕ × ℕ). q.0) e in omega arith)
is_cut (Ok (Cut x)) w e = ap (λ (y : ℕ). Ok (Cut y)) (ap (λ (q : ℕ × ℕ). q.1) e)
is_cut (Err r) w e = absurd (let q = ap (λ (q : ℕ × ℕ). q.0) e in omega (arith, refusal_number r))

-- ---- the state after a cut or a refusal to mount is not whole, on any image: it answers 1

pub stopped_not : (v : Volume) (image : List ℕ) → Whole (stopped v) image → ⊥
unfolding stopped
stopped_not v image w = omega (arith, w.live)

pub none_not : (image : List ℕ) → Whole no_volume image → ⊥
unfolding idle
none_not image w = omega (arith, w.live)

-- ---- the states that the calls leave are whole (of mount: `mount_whole` in Survive.antt)

pub begin_whole : (v : Volume) (image : List ℕ) (a : After Written) → BeginGives v image a → (paper a.answer).0 ≡ 0 → Whole a.volume image
begin_whole v image a (inl g) z = absurd (let q = ap (λ (m : After Written). (paper m.answer).0) g.1 in omega arith)
begin_whole v image a (inr (n, inl g)) z = absurd (let q = ap (λ (m : After Written). (paper m.answer).0) g.1 in omega arith)
begin_whole v image a (inr (n, inr (b, r))) z = rw r.volume (more_whole v image r.was b)

committed_whole : (v : Volume) (image : List ℕ) (cache : Bytes) (writes : ℕ) (l : Left) → Whole v image → Committed v image cache writes l
    → (paper l.0.answer).0 ≡ 0 → Whole l.0.volume l.1
committed_whole v image cache writes l w r z = go (lt_or_le writes (commit_due v.recorded))
  where
    go : (writes < commit_due v.recorded) ⊎ (commit_due v.recorded ≤ writes) → Whole l.0.volume l.1
    go (inl c) = absurd (let q = ap (λ (p : ℕ × ℕ). p.0) (r.cut c).0 in omega arith)
    go (inr c) = rw (r.done c).1 (ended_whole v image w l.1 r.size (λ x m. ap (λ (f : Bytes). f x) r.card ∙ commit_super v image w cache writes x m))

pub end_whole : (v : Volume) (image cache : List ℕ) (writes : ℕ) (l : Left) → EndGives v image cache writes l → (paper l.0.answer).0 ≡ 0
    → Whole l.0.volume l.1
end_whole v image cache writes l (inl g) z = absurd (let q = ap (λ (m : Left). (paper m.0.answer).0) g.1 in omega arith)
end_whole v image cache writes l (inr (a, inl g)) z = absurd (let q = ap (λ (m : Left). (paper m.0.answer).0) g.1 in omega arith)
end_whole v image cache writes l (inr (a, inr (b, inl g))) z = absurd (let q = ap (λ (m : Left). (paper m.0.answer).0) g.1 in omega arith)
end_whole v image cache writes l (inr (a, inr (b, inr (c, r)))) z = go (lt_or_le 1 v.ops)
  where
    go : (1 < v.ops) ⊎ (v.ops ≤ 1) → Whole l.0.volume l.1
    go (inl k) = rw ((r.more k).volume, (r.more k).same) (less_whole v image r.was k)
    go (inr k) = committed_whole v image (bytes cache) writes l r.was (r.last (omega (arith, c))) z

-- the first buffer taken on a volume that was mounted is 29
pub mount_first : (s : Super) → least_recent (mounted s).table.order (mounted s).table.counts ≡ 29
unfolding idle fresh_table tabulate least_recent free_at first
mount_first s = refl

-- ---- a finished commit: outside the log the card holds what was seen, and the buffers that were recorded hold what the card holds

module _ (v : Volume) (image cache : List ℕ) (writes : ℕ) (l : Left) (w : Whole v image) (r : Committed v image (bytes cache) writes l) (c : commit_due v.recorded ≤ writes) where
  pub end_seen : (x : ℕ) → Outside v.sb x → bytes l.1 x ≡ seen v.table.blocks v.table.counts (bytes cache) (bytes image) x
  unfolding held
  end_seen x o =
      ap (λ (f : Bytes). f x) (r.card ∙ commit_enough (recorded_tx v (bytes cache)) (bytes image) writes c)
      ∙ commit-holds v.sb (numbers v image w).laid (numbers v image w).size_most (recorded_tx v (bytes cache)) (recorded_good v image w (bytes cache)) (bytes image) x o
      ∙ ap (λ (f : Bytes). f x) (replaced-seen v image w (bytes cache))

  pub end_buffers : (i j : ℕ) → i < v.recorded → j < 1024
      → bytes l.1 (get_or v.homes i 0 * 1024 + j) ≡ bytes cache (buffer_of v.table.blocks v.table.counts (get_or v.homes i 0) * 1024 + j)
  end_buffers i j m k =
      end_seen (get_or v.homes i 0 * 1024 + j) (inr (omega (arith, w.buffered.list.low i m)))
      ∙ seen_in v.table.blocks v.table.counts (bytes cache) (bytes image) (get_or v.homes i 0) j k (buffer_below v image w i m)

-- with every count 0 what is seen is the image
pub clean_seen : (blocks : List ℕ) (cache image : Bytes) → seen blocks (zeros 30) cache image ≡ image
clean_seen blocks cache image = by_block _ _ (λ b i l. seen_out blocks (zeros 30) cache image b i l (omega (arith, none-held b)))
  where
    none-held : (b : ℕ) → buffer_of blocks (zeros 30) b ≡ 30
    none-held b = buffer_none blocks (zeros 30) b (λ j l e c. omega (arith, get_d_tabulate (λ k. 0) 30 j l))

-- ---- each contract fixes what the call leaves

after_as : (a b : After Written) → a.volume ≡ b.volume → a.answer ≡ b.answer → a ≡ b
after_as a b p q = λ i. record { volume = p i; answer = q i }

left_as : (l m : Left) → l.0 ≡ m.0 → length l.1 ≡ length m.1 → bytes l.1 ≡ bytes m.1 → l ≡ m
left_as l m p q r = let z : l.1 ≡ m.1 = ext_get_or 0 l.1 m.1 q (λ i h. ap (λ (f : Bytes). f i) r) in λ i. (p i, z i)

pub begin_one : (v : Volume) (image : List ℕ) (a b : After Written) → BeginGives v image a → BeginGives v image b → a ≡ b
begin_one v image a b =
    gives_one (refused v) (begin_rows v image) (Begun v image) (λ x y. x ≡ y) (λ n x y p q. p ∙ sym q)
    (λ x y p q. after_as x y (p.volume ∙ sym q.volume) (is_done x.answer 0 p.answer ∙ sym (is_done y.answer 0 q.answer))) a b

pub mount_one : (cache : ℕ) (image : List ℕ) (writes : ℕ) (l m : Left) → MountGives cache image writes l → MountGives cache image writes m → l ≡ m
mount_one cache image writes l m =
    gives_one (λ n. (refused no_volume n, image)) (mount_rows cache image) (Recovered image writes) (λ x y. x ≡ y) (λ n x y p q. p ∙ sym q)
    (λ x y p q. left_as x y (one x y p q (lt_or_le writes (recover_due (logged (bytes image)).count))) (p.size ∙ sym q.size) (p.card ∙ sym q.card)) l m
  where
    one : (x y : Left) → Recovered image writes x → Recovered image writes y
        → (writes < recover_due (logged (bytes image)).count) ⊎ (recover_due (logged (bytes image)).count ≤ writes) → x.0 ≡ y.0
    one x y p q (inl k) = after_as x.0 y.0 ((p.cut k).1 ∙ sym (q.cut k).1) (is_cut x.0.answer writes (p.cut k).0 ∙ sym (is_cut y.0.answer writes (q.cut k).0))
    one x y p q (inr k) = after_as x.0 y.0 ((p.done k).1 ∙ sym (q.done k).1) (is_done x.0.answer _ (p.done k).0 ∙ sym (is_done y.0.answer _ (q.done k).0))

pub end_one : (v : Volume) (image cache : List ℕ) (writes : ℕ) (l m : Left) → EndGives v image cache writes l → EndGives v image cache writes m → l ≡ m
end_one v image cache writes l m (inl g) (inl h) = g.1 ∙ sym h.1
end_one v image cache writes l m (inl g) (inr h) = absurd (h.0 g.0)
end_one v image cache writes l m (inr g) (inl h) = absurd (g.0 h.0)
end_one v image cache writes l m (inr (a, inl g)) (inr (d, inl h)) = g.1 ∙ sym h.1
end_one v image cache writes l m (inr (a, inl g)) (inr (d, inr h)) = absurd (h.0 g.0)
end_one v image cache writes l m (inr (a, inr g)) (inr (d, inl h)) = absurd (g.0 h.0)
end_one v image cache writes l m (inr (a, inr (b, inl g))) (inr (d, inr (e, inl h))) = g.1 ∙ sym h.1
end_one v image cache writes l m (inr (a, inr (b, inl g))) (inr (d, inr (e, inr h))) = absurd (h.0 g.0)
end_one v image cache writes l m (inr (a, inr (b, inr g))) (inr (d, inr (e, inl h))) = absurd (g.0 h.0)
end_one v image cache writes l m (inr (a, inr (b, inr (c, p)))) (inr (d, inr (e, inr (f, q)))) = go (lt_or_le 1 v.ops)
  where
    one : Committed v image (bytes cache) writes l → Committed v image (bytes cache) writes m
        → (writes < commit_due v.recorded) ⊎ (commit_due v.recorded ≤ writes) → l.0 ≡ m.0
    one x y (inl k) = after_as l.0 m.0 ((x.cut k).1 ∙ sym (y.cut k).1) (is_cut l.0.answer writes (x.cut k).0 ∙ sym (is_cut m.0.answer writes (y.cut k).0))
    one x y (inr k) = after_as l.0 m.0 ((x.done k).1 ∙ sym (y.done k).1) (is_done l.0.answer _ (x.done k).0 ∙ sym (is_done m.0.answer _ (y.done k).0))

    go : (1 < v.ops) ⊎ (v.ops ≤ 1) → l ≡ m
    go (inl k) =
        let x = p.more k in
        let y = q.more k in
        left_as l m (after_as l.0 m.0 (x.volume ∙ sym y.volume) (is_done l.0.answer 0 x.answer ∙ sym (is_done m.0.answer 0 y.answer)))
        (ap length (x.same ∙ sym y.same)) (ap bytes (x.same ∙ sym y.same))
    go (inr k) =
        let o : v.ops ≡ 1 = omega (arith, c) in
        let x = p.last o in
        let y = q.last o in
        left_as l m (one x y (lt_or_le writes (commit_due v.recorded))) (x.size ∙ sym y.size) (x.card ∙ sym y.card)
