-- What is seen through a buffer table: a block in a buffer with a reference is read from that buffer, every other block from the image.
-- The two arrays of a table, its blocks and its counts, are all that this depends on. Assumes nothing.
use Rattle.std.proofs.Math.Path.{◌≡◌, refl, fun_ext}
use Rattle.std.proofs.Common.{sym, ap, ◌∙◌}
use Rattle.std.specs.Prelude.{Bool, List, ℕ, ◌+◌, ◌*◌, ◌/◌, ◌%◌, ◌≤◌, ◌<◌, ltb}
use Rattle.std.proofs.Math.Bool.{true, false, cond}
use native.Mathlib.Omega.{arith}
use Rattle.std.proofs.Math.Decide.{ℕ_discrete, dec_lt}
use Rattle.std.proofs.Math.ListN.{get_or}
use Rattle.std.proofs.Math.Dec.{eqb}
use borrow.Author.Tests.{eq-eqb, ne_eqb, eqb-true, lt-ltb, le-ltb, ltb-true}
use Rattle.base.specs.First.{first, first-at, first-none, first_before, first_holds}
use Rattle.base.specs.Bytes.{Bytes, put, put-at, put_out, Lies, inside, outside, lies}

-- buffer j holds block b, with a reference
unfoldable pub pinned : List ℕ → List ℕ → ℕ → ℕ → Bool
pinned blocks counts b j = cond (eqb (get_or blocks j 0) b) (ltb 0 (get_or counts j 0)) false

-- the buffer of a block that is held, 30 where none holds it
unfoldable pub buffer_of : List ℕ → List ℕ → ℕ → ℕ
buffer_of blocks counts b = first (pinned blocks counts b) 30

-- the memory that is seen
unfoldable pub seen : List ℕ → List ℕ → Bytes → Bytes → Bytes
seen blocks counts cache image x = cond (ltb (buffer_of blocks counts (x / 1024)) 30) (cache (buffer_of blocks counts (x / 1024) * 1024 + x % 1024)) (image x)

module _ (blocks counts : List ℕ) (b j : ℕ) where
  pub pinned_yes : get_or blocks j 0 ≡ b → 0 < get_or counts j 0 → pinned blocks counts b j ≡ true
  unfolding pinned
  pinned_yes h k = rw (eq-eqb _ _ h, lt-ltb _ _ k)

  pub pinned-other : (get_or blocks j 0 ≡ b → ⊥) → pinned blocks counts b j ≡ false
  unfolding pinned
  pinned-other h = rw (ne_eqb _ _ h)

  pub pinned_clean : (0 < get_or counts j 0 → ⊥) → pinned blocks counts b j ≡ false
  unfolding pinned
  pinned_clean h = go (eqb (get_or blocks j 0) b)
    where
      go : (s : Bool) → cond s (ltb 0 (get_or counts j 0)) false ≡ false
      go true = le-ltb 0 (get_or counts j 0) (omega (arith, h))
      go false = refl

  pub pinned_is : pinned blocks counts b j ≡ true → (get_or blocks j 0 ≡ b) × (0 < get_or counts j 0)
  unfolding pinned
  pinned_is h = go (eqb (get_or blocks j 0) b) refl h
    where
      go : (s : Bool) → eqb (get_or blocks j 0) b ≡ s → cond s (ltb 0 (get_or counts j 0)) false ≡ true → (get_or blocks j 0 ≡ b) × (0 < get_or counts j 0)
      go true e k = (eqb-true _ _ e, ltb-true _ _ k)
      go false e k = absurd (let z : ◌≡◌ {A = ℕ} 0 1 = cc in omega arith)

pub buffer_holds : (blocks counts : List ℕ) (b : ℕ) → buffer_of blocks counts b < 30 → (get_or blocks (buffer_of blocks counts b) 0 ≡ b) × (0 < get_or counts (buffer_of blocks counts b) 0)
unfolding buffer_of
buffer_holds blocks counts b h = pinned_is blocks counts b (first (pinned blocks counts b) 30) (first_holds (pinned blocks counts b) 30 h)

pub buffer_is : (blocks counts : List ℕ) (b j : ℕ) → j < 30 → get_or blocks j 0 ≡ b → 0 < get_or counts j 0 → ((i : ℕ) → i < 30 → get_or blocks i 0 ≡ b → i ≡ j) → buffer_of blocks counts b ≡ j
unfolding buffer_of
buffer_is blocks counts b j h e c u = first-at (pinned blocks counts b) 30 j h (λ k l. pinned-other blocks counts b k (λ z. let y : k ≡ j = u k (omega arith) z in omega arith)) (pinned_yes blocks counts b j e c)

pub buffer_none : (blocks counts : List ℕ) (b : ℕ) → ((j : ℕ) → j < 30 → get_or blocks j 0 ≡ b → 0 < get_or counts j 0 → ⊥) → buffer_of blocks counts b ≡ 30
unfolding buffer_of
buffer_none blocks counts b h = first-none (pinned blocks counts b) 30 (λ k l. elim (ℕ_discrete (get_or blocks k 0) b) [ yes e ↦ pinned_clean blocks counts b k (λ c. h k l e c) | no e ↦ pinned-other blocks counts b k e ])

pub held_below : (blocks counts : List ℕ) (b j : ℕ) → j < 30 → get_or blocks j 0 ≡ b → 0 < get_or counts j 0 → buffer_of blocks counts b < 30
unfolding buffer_of
held_below blocks counts b j h e c = elim (dec_lt (first (pinned blocks counts b) 30) 30) [
  | yes p ↦ p
  | no p ↦ absurd (let z : true ≡ false = sym (pinned_yes blocks counts b j e c) ∙ first_before (pinned blocks counts b) 30 j (omega arith) in let w : ◌≡◌ {A = ℕ} 0 1 = cc in omega arith)
]

module _ (blocks counts : List ℕ) (cache image : Bytes) (b i : ℕ) (l : i < 1024) where
  pub seen_in : buffer_of blocks counts b < 30 → seen blocks counts cache image (b * 1024 + i) ≡ cache (buffer_of blocks counts b * 1024 + i)
  unfolding seen
  seen_in h =
      let q : (b * 1024 + i) / 1024 ≡ b = omega arith in
      let m : (b * 1024 + i) % 1024 ≡ i = omega arith in
      rw (q, m, lt-ltb _ _ h)

  pub seen_out : 30 ≤ buffer_of blocks counts b → seen blocks counts cache image (b * 1024 + i) ≡ image (b * 1024 + i)
  unfolding seen
  seen_out h =
      let q : (b * 1024 + i) / 1024 ≡ b = omega arith in
      rw (q, le-ltb _ _ h)

-- every address is in a block
pub by_block : (d e : Bytes) → ((b i : ℕ) → i < 1024 → d (b * 1024 + i) ≡ e (b * 1024 + i)) → d ≡ e
by_block d e h = fun_ext λ x. let z : x / 1024 * 1024 + x % 1024 ≡ x = omega arith in rw z at (h (x / 1024) (x % 1024) (omega arith))

-- a change in a recorded block's buffer is that change of the block
pub seen-put : (blocks counts : List ℕ) (cache image : Bytes) (b off n : ℕ) (f : Bytes) → buffer_of blocks counts b < 30 → off + n ≤ 1024
    → seen blocks counts (put cache (buffer_of blocks counts b * 1024 + off) n f) image ≡ put (seen blocks counts cache image) (b * 1024 + off) n f
seen-put blocks counts cache image b off n f h l = by_block _ _ (λ c i m. elim (ℕ_discrete c b) [ yes z ↦ rw z (same i m) | no z ↦ other c i m z ])
  where
    j : ℕ
    j = buffer_of blocks counts b

    same : (i : ℕ) → i < 1024 → seen blocks counts (put cache (buffer_of blocks counts b * 1024 + off) n f) image (b * 1024 + i) ≡ put (seen blocks counts cache image) (b * 1024 + off) n f (b * 1024 + i)
    same i m = seen_in blocks counts (put cache (buffer_of blocks counts b * 1024 + off) n f) image b i m h ∙ go (lies off n i)
      where
        go : Lies off n i → put cache (buffer_of blocks counts b * 1024 + off) n f (buffer_of blocks counts b * 1024 + i) ≡ put (seen blocks counts cache image) (b * 1024 + off) n f (b * 1024 + i)
        go (inside k p e) =
            let x : buffer_of blocks counts b * 1024 + i ≡ buffer_of blocks counts b * 1024 + off + k = omega arith in
            let y : b * 1024 + i ≡ b * 1024 + off + k = omega arith in
            rw (x, y) (put-at cache (buffer_of blocks counts b * 1024 + off) n f k p ∙ sym (put-at (seen blocks counts cache image) (b * 1024 + off) n f k p))
        go (outside o) =
            put_out cache (buffer_of blocks counts b * 1024 + off) n f (buffer_of blocks counts b * 1024 + i) (λ p q. o (omega arith) (omega arith))
            ∙ sym (seen_in blocks counts cache image b i m h)
            ∙ sym (put_out (seen blocks counts cache image) (b * 1024 + off) n f (b * 1024 + i) (λ p q. o (omega arith) (omega arith)))

    other : (c i : ℕ) → i < 1024 → (c ≡ b → ⊥) → seen blocks counts (put cache (buffer_of blocks counts b * 1024 + off) n f) image (c * 1024 + i) ≡ put (seen blocks counts cache image) (b * 1024 + off) n f (c * 1024 + i)
    other c i m z = go (dec_lt (buffer_of blocks counts c) 30) ∙ sym (put_out (seen blocks counts cache image) (b * 1024 + off) n f (c * 1024 + i) (λ p q. z (omega arith)))
      where
        go : Dec (buffer_of blocks counts c < 30) → seen blocks counts (put cache (buffer_of blocks counts b * 1024 + off) n f) image (c * 1024 + i) ≡ seen blocks counts cache image (c * 1024 + i)
        go (yes p) =
            let apart : buffer_of blocks counts c ≡ buffer_of blocks counts b → ⊥ = λ e. z (sym (buffer_holds blocks counts c p).0 ∙ ap (λ (x : ℕ). get_or blocks x 0) e ∙ (buffer_holds blocks counts b h).0) in
            seen_in blocks counts (put cache (buffer_of blocks counts b * 1024 + off) n f) image c i m p
            ∙ put_out cache (buffer_of blocks counts b * 1024 + off) n f (buffer_of blocks counts c * 1024 + i) (λ q r. apart (omega arith))
            ∙ sym (seen_in blocks counts cache image c i m p)
        go (no p) = seen_out blocks counts (put cache (buffer_of blocks counts b * 1024 + off) n f) image c i m (omega arith) ∙ sym (seen_out blocks counts cache image c i m (omega arith))
