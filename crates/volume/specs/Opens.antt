-- Where open answers, and that the state that it leaves is whole. Assumes nothing.
use Rattle.std.specs.Prelude.{Result, Ok, Err, ◌≡◌, refl, Bool, true, ◌⊎◌, List, ℕ, ◌+◌, ◌≤◌, ◌<◌, get_or, length, set}
use Rattle.std.proofs.Common.{sym, ap, ◌∙◌, inl, inr, arith, length-set, get_or-set_same, eq-eqb, ne_eqb}
use Rattle.std.proofs.Math.Decide.{ℕ_discrete, dec_lt}
use Rattle.base.specs.Bytes.{bytes}
use Rattle.base.specs.Decide.{Decides, so, alike}
use Rattle.base.specs.declared.Refusal.{Refusal}
use Rattle.base.specs.declared.Refusal.TheVariants.{NoSlot}
use Rattle.path.specs.Parts.{path_len}
use Rattle.walk.specs.Step.{From}
use Rattle.walk.specs.Walks.{walk_of}
use Rattle.walk.specs.Reached.{OfWalk, unfit, not_directory, no_name, walk_reached, walk_only}
use Rattle.state.specs.Whole.{Whole}
use Rattle.state.specs.declared.Volume.{Volume}
use Rattle.state.specs.declared.Handle.{Handle}
use Rattle.slots.specs.Handles.{GoodHandle, Room}
use Rattle.slots.specs.Keeps.{good_more}
use Rattle.volume.specs.Answers.{done, instead, Left, disk_of}
use Rattle.volume.specs.Close.{with_slots, slots_whole}
use Rattle.volume.specs.Inside.{numbers, handle_from}
use Rattle.volume.specs.Open.{Starts, rooted, handled, origin, walked, reached, slot_in, opened, open_to, OpenGives}
use Rattle.state.specs.declared.After.{After}
use Rattle.volume.specs.Answers.{left, declined}

-- ---- where a walk starts

module _ (path : List ℕ) (h : Handle) (x : ℕ) (e : x ≡ bytes path 0) where
  pub origin-root : x ≡ 47 → 1 ≡ origin path h
  unfolding origin
  origin-root z = rw (eq-eqb (bytes path 0) 47 (sym e ∙ z))

  pub origin_handle : (x ≡ 47 → ⊥) → h.inum ≡ origin path h
  unfolding origin
  origin_handle z = rw (ne_eqb (bytes path 0) 47 (λ y. z (e ∙ y)))

  -- the tests of a start
  pub starts_root : (inums refs : List ℕ) → x ≡ 47 → Decides true (Starts inums refs path h)
  starts_root inums refs z = so (rooted (sym e ∙ z))

  pub starts_handle : (inums refs : List ℕ) {b : Bool} → (x ≡ 47 → ⊥) → Decides b (GoodHandle inums refs h) → Decides b (Starts inums refs path h)
  starts_handle inums refs n d = alike handled only d
    where
      only : Starts inums refs path h → GoodHandle inums refs h
      only (rooted y) = absurd (n (e ∙ y))
      only (handled g) = g

module _ (v : Volume) (image : List ℕ) (w : Whole v image) (path : List ℕ) (h : Handle) where
  root_from : From v.sb 1
  root_from = record { some = omega arith; inside = omega (arith, (numbers v image w).inodes_least) }

  at-root : bytes path 0 ≡ 47 → From v.sb (origin path h)
  at-root y = rw (sym (origin-root path h (bytes path 0) refl y)) root_from

  -- a walk starts at one of the card's inodes, also where that it can start is only not denied
  pub not_denied : ((Starts v.slots.inums v.slots.refs path h → ⊥) → ⊥) → From v.sb (origin path h)
  not_denied nn = elim (ℕ_discrete (bytes path 0) 47) [
    | yes y ↦ at-root y
    | no n ↦ rw (sym (origin_handle path h (bytes path 0) refl n)) (record {
      some = elim (dec_lt 0 h.inum) [ yes l ↦ l | no l ↦ absurd (nn (λ s. l (from_of n s).some)) ];
      inside = elim (dec_lt h.inum v.sb.ninodes) [ yes l ↦ l | no l ↦ absurd (nn (λ s. l (from_of n s).inside)) ];
    })
  ]
    where
      from_of : (bytes path 0 ≡ 47 → ⊥) → Starts v.slots.inums v.slots.refs path h → From v.sb h.inum
      from_of n (rooted y) = absurd (n y)
      from_of n (handled g) = handle_from v image w h g

  pub start_from : Starts v.slots.inums v.slots.refs path h → From v.sb (origin path h)
  start_from s = not_denied (λ n. n s)

-- ---- the answers after the walk

-- a slot's count
pub count_most : (v : Volume) (image : List ℕ) → Whole v image → (k : ℕ) → k < 50 → get_or v.slots.refs k 0 ≤ 1000
count_most v image w k h = elim (dec_lt 0 (get_or v.slots.refs k 0)) [ yes l ↦ w.slots.count k h l | no l ↦ omega arith ]

-- what the code's walk answered
pub came : (v : Volume) (image cache path : List ℕ) (h : Handle) (i : ℕ) (t x : Result ℕ Refusal) → i ≡ origin path h → t ≡ walk_of v.sb (disk_of v cache image) i path → t ≡ x
    → walked v image cache path h ≡ x
came v image cache path h i t x e q z = ap (λ (j : ℕ). walk_of v.sb (disk_of v cache image) j path) (sym e) ∙ sym q ∙ z

module _ (v : Volume) (image cache path : List ℕ) (h : Handle) (w : Whole v image) (c : length cache ≡ 30720) (p : 128 < path_len path → ⊥) (s : Starts v.slots.inums v.slots.refs path h) where
  pub open_stopped : {r : After Handle} (x : Refusal) → walked v image cache path h ≡ Err x → r ≡ declined v x → OpenGives v image cache path h (left r)
  open_stopped {r} x e q = go x (walk_only v.sb (disk_of v cache image) (origin path h) path x e) e q
    where
      go : (x : Refusal) → OfWalk x → walked v image cache path h ≡ Err x → r ≡ declined v x → OpenGives v image cache path h (left r)
      go x unfit e q = inr (λ n. n w, inr (λ n. n c, inr (p, inr (λ n. n s, inl (e, ap left q)))))
      go x not_directory e q = inr (λ n. n w, inr (λ n. n c, inr (p, inr (λ n. n s, inr (λ y. let z : ◌≡◌ {A = ℕ} 0 1 = cc in absurd (omega arith), inl (e, ap left q))))))
      go x no_name e q = inr (λ n. n w, inr (λ n. n c, inr (p, inr (λ n. n s, inr (λ y. let z : ◌≡◌ {A = ℕ} 0 1 = cc in absurd (omega arith), inr (λ y. let z : ◌≡◌ {A = ℕ} 0 1 = cc in absurd (omega arith), inl (e, ap left q)))))))

  module _ (i : ℕ) (e : walked v image cache path h ≡ Ok i) where
    past_walk : {l : Left Handle} → ((Room v.slots.refs (slot_in v (reached (walked v image cache path h))) → ⊥) × (l ≡ (v, instead 11)))
        ⊎ (((Room v.slots.refs (slot_in v (reached (walked v image cache path h))) → ⊥) → ⊥) × (l ≡ open_to v (reached (walked v image cache path h))))
        → OpenGives v image cache path h l
    past_walk g =
        inr (
          λ n. n w,
          inr (
            λ n. n c,
            inr (
              p,
              inr (
                λ n. n s,
                inr (
                  λ y. let z : ◌≡◌ {A = ℕ} 0 1 = cc in absurd (omega arith),
                  inr (λ y. let z : ◌≡◌ {A = ℕ} 0 1 = cc in absurd (omega arith), inr (λ y. let z : ◌≡◌ {A = ℕ} 0 1 = cc in absurd (omega arith), g)),
                ),
              ),
            ),
          ),
        )

    is_i : reached (walked v image cache path h) ≡ i
    is_i = ap reached e

    pub open_full : {r : After Handle} (k : ℕ) → k ≡ slot_in v i → (Room v.slots.refs k → ⊥) → r ≡ declined v NoSlot → OpenGives v image cache path h (left r)
    open_full k z n q = past_walk (inl (λ m. n (rw (z ∙ ap (slot_in v) (sym is_i)) m), ap left q))

    pub open_told : (k n m : ℕ) (inums refs : List ℕ) → k ≡ slot_in v i → Room v.slots.refs k → n ≡ get_or v.slots.refs k 0 → inums ≡ set v.slots.inums k i → refs ≡ set v.slots.refs k (n + 1)
        → m ≡ k → OpenGives v image cache path h (with_slots v inums refs, done (record { slot = m; inum = i }))
    open_told k n m inums refs z room a b d y =
        past_walk (inr (λ x. x (rw (ap (slot_in v) is_i ∙ sym z) room), told ∙ ap (open_to v) (sym is_i)))
      where
        told : ◌≡◌ {A = Left Handle} (with_slots v inums refs, done (record { slot = m; inum = i })) (open_to v i)
        told =
            ap {B = Left Handle} (λ (l : List ℕ). (with_slots v l refs, done (record { slot = m; inum = i }))) b
            ∙ ap {B = Left Handle} (λ (l : List ℕ). (with_slots v (set v.slots.inums k i) l, done (record { slot = m; inum = i }))) d
            ∙ ap {B = Left Handle} (λ (x : ℕ). (with_slots v (set v.slots.inums k i) (set v.slots.refs k (x + 1)), done (record { slot = m; inum = i }))) a
            ∙ ap {B = Left Handle} (λ (x : ℕ). (opened v k i, done (record { slot = x; inum = i }))) y
            ∙ ap {B = Left Handle} (λ (x : ℕ). (opened v x i, done (record { slot = x; inum = i }))) z

-- ---- the next state is whole, and the handle that was given is good in it

module _ (v : Volume) (image cache path : List ℕ) (h : Handle) (w : Whole v image) where
  -- the inode that the path names, and its slot
  abbrev named : ℕ
  named = reached (walked v image cache path h)

  abbrev slot : ℕ
  slot = slot_in v (reached (walked v image cache path h))

  -- an open that is done: the inode is one of the card's, the slot has room, and this is what is left
  pub record Did (l : Left Handle) : Type 0 where
    pub from : From v.sb named
    pub below : slot < 50
    pub room : get_or v.slots.refs slot 0 < 1000
    pub is : l ≡ open_to v named

  -- an open gives a number and leaves all as it was, or is done
  pub open_cases : (l : Left Handle) → OpenGives v image cache path h l → ((n : ℕ) × (l ≡ (v, instead n))) ⊎ Did l
  open_cases l (inl g) = inl (_, g.1)
  open_cases l (inr (_, inl g)) = inl (_, g.1)
  open_cases l (inr (_, inr (_, inl g))) = inl (_, g.1)
  open_cases l (inr (_, inr (_, inr (_, inl g)))) = inl (_, g.1)
  open_cases l (inr (_, inr (_, inr (_, inr (_, inl g))))) = inl (_, g.1)
  open_cases l (inr (_, inr (_, inr (_, inr (_, inr (_, inl g)))))) = inl (_, g.1)
  open_cases l (inr (_, inr (_, inr (_, inr (_, inr (_, inr (_, inl g))))))) = inl (_, g.1)
  open_cases l (inr (_, inr (_, inr (_, inr (_, inr (_, inr (_, inr (_, inl g)))))))) = inl (_, g.1)
  open_cases l (inr (_, inr (_, inr (_, inr (s, inr (u, inr (d, inr (n, inr (m, g))))))))) = inr (record { from = arrived; below = below; room = room; is = g })
    where
      arrived : From v.sb named
      arrived = go (walked v image cache path h) refl
        where
          never : (x : Refusal) → OfWalk x → walked v image cache path h ≡ Err x → ⊥
          never x unfit e = u e
          never x not_directory e = d e
          never x no_name e = n e

          go : (t : Result ℕ Refusal) → walked v image cache path h ≡ t → From v.sb (reached t)
          go (Ok i) e = (walk_reached v.sb (disk_of v cache image) (origin path h) path i (not_denied v image w path h s) e).from
          go (Err x) e = absurd (never x (walk_only v.sb (disk_of v cache image) (origin path h) path x e) e)

      below : slot < 50
      below = elim (dec_lt slot 50) [ yes y ↦ y | no y ↦ absurd (m (λ r. y r.slot)) ]

      room : get_or v.slots.refs slot 0 < 1000
      room = elim (ℕ_discrete (get_or v.slots.refs slot 0) 1000) [
        | yes y ↦ absurd (m (λ r. r.below y))
        | no y ↦ omega (arith, count_most v image w slot below)
      ]

  did_whole : (l : Left Handle) → Did l → Whole l.0 image
  did_whole l d =
      rw d.is
      (slots_whole v image (set v.slots.inums slot named) (set v.slots.refs slot (get_or v.slots.refs slot 0 + 1)) w
      (length-set v.slots.inums slot named ∙ w.lengths.inums) (length-set v.slots.refs slot (get_or v.slots.refs slot 0 + 1) ∙ w.lengths.refs)
      (good_more v.slots.inums v.slots.refs v.sb.ninodes named w.lengths.inums w.lengths.refs w.slots d.from.some d.from.inside d.below d.room))

  pub open_whole : (l : Left Handle) → OpenGives v image cache path h l → Whole l.0 image
  open_whole l g = go (open_cases l g)
    where
      go : ((n : ℕ) × (l ≡ (v, instead n))) ⊎ Did l → Whole l.0 image
      go (inl r) = rw r.1 w
      go (inr d) = did_whole l d

  -- the handle of an open that is done
  taken : slot < 50
      → GoodHandle (set v.slots.inums slot named) (set v.slots.refs slot (get_or v.slots.refs slot 0 + 1)) (record { slot = slot; inum = named })
  taken b = record {
    slot = b;
    used = omega (arith, get_or-set_same v.slots.refs slot (get_or v.slots.refs slot 0 + 1) 0 (omega (arith, w.lengths.refs)));
    inode = get_or-set_same v.slots.inums slot named 0 (omega (arith, w.lengths.inums));
  }

  pub open_good : (l : Left Handle) (g : Handle) → OpenGives v image cache path h l → l.1 ≡ done g → GoodHandle l.0.slots.inums l.0.slots.refs g
  open_good l g o e = go (open_cases l o)
    where
      go : ((n : ℕ) × (l ≡ (v, instead n))) ⊎ Did l → GoodHandle l.0.slots.inums l.0.slots.refs g
      go (inl r) = let q : l.1 ≡ instead r.0 = ap (λ (x : Left Handle). x.1) r.1 in let z : ◌≡◌ {A = ℕ} 0 1 = cc in absurd (omega arith)
      go (inr d) =
          let q : l.1 ≡ done (record { slot = slot; inum = named }) = ap (λ (x : Left Handle). x.1) d.is in
          let z : ◌≡◌ {A = Handle} g (record { slot = slot; inum = named }) = cc in
          rw (d.is, z) (taken d.below)
