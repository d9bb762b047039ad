-- A buffer that nobody holds is taken for a block and filled from the image: what is seen stays as it was. A buffer whose references change
-- and do not fall to none changes nothing either; and with no references at all the image is seen. Assumes nothing.
use Rattle.std.specs.Prelude.{◌≡◌, refl, ◌≢◌, List, ℕ, ◌+◌, ◌*◌, ◌/◌, ◌≤◌, ◌<◌}
use Rattle.std.proofs.Math.Path.{sym, ap, fun_ext}
use Rattle.std.proofs.Common.{◌∙◌, arith}
use Rattle.std.proofs.Math.Decide.{ℕ_discrete, dec_lt}
use Rattle.std.proofs.Math.ListN.{get_or}
use Rattle.base.specs.First.{first-same, first-at, first_before}
use Rattle.base.specs.Bytes.{Bytes, bytes, put, put-at, put_out, block}
use Rattle.base.specs.Update.{upd, upd_same, upd_other}
use Rattle.bio.specs.Seen.{pinned, pinned_yes, pinned-other, pinned_clean, buffer_of, buffer_holds, buffer_none, seen, seen_in, seen_out, by_block}

-- buffer k, held by nobody, now holds block b, which nobody held, with n references
pub record Taken (blocks counts blocks' counts' : List ℕ) (k b n : ℕ) : Type 0 where
  pub below : k < 30
  pub free : get_or counts k 0 ≡ 0
  pub new : 30 ≤ buffer_of blocks counts b
  pub some : 0 < n
  pub block_is : bytes blocks' ≡ upd (bytes blocks) k b
  pub count_is : bytes counts' ≡ upd (bytes counts) k n

-- the block that was taken is in that buffer, and every other block is where it was
module _ (blocks counts blocks' counts' : List ℕ) (k b n : ℕ) (t : Taken blocks counts blocks' counts' k b n) where
  here : (j : ℕ) → j ≡ k → (get_or blocks' j 0 ≡ b) × (get_or counts' j 0 ≡ n)
  here j z = (
    ap (λ (f : Bytes). f j) t.block_is ∙ ap (upd (bytes blocks) k b) z ∙ upd_same (bytes blocks) k b,
    ap (λ (f : Bytes). f j) t.count_is ∙ ap (upd (bytes counts) k n) z ∙ upd_same (bytes counts) k n,
  )

  there : (j : ℕ) → j ≢ k → (get_or blocks' j 0 ≡ get_or blocks j 0) × (get_or counts' j 0 ≡ get_or counts j 0)
  there j z = (
    ap (λ (f : Bytes). f j) t.block_is ∙ upd_other (bytes blocks) k b j z,
    ap (λ (f : Bytes). f j) t.count_is ∙ upd_other (bytes counts) k n j z,
  )

  pinned_there : (c j : ℕ) → j ≢ k → pinned blocks' counts' c j ≡ pinned blocks counts c j
  unfolding pinned
  pinned_there c j z = rw ((there j z).0, (there j z).1)

  pub taken_here : buffer_of blocks' counts' b ≡ k
  unfolding buffer_of
  taken_here =
      first-at (pinned blocks' counts' b) 30 k t.below
      (λ j l. pinned_there b j (omega arith) ∙ first_before (pinned blocks counts b) 30 j (omega (arith, t.new, t.below)))
      (pinned_yes blocks' counts' b k (here k refl).0 (omega (arith, (here k refl).1, t.some)))

  pub taken_there : (c : ℕ) → c ≢ b → buffer_of blocks' counts' c ≡ buffer_of blocks counts c
  unfolding buffer_of
  taken_there c n = first-same (pinned blocks' counts' c) (pinned blocks counts c) 30 (λ j l. elim (ℕ_discrete j k) [
    | yes z ↦
        pinned-other blocks' counts' c j (λ e. n (sym e ∙ (here j z).0))
        ∙ sym (pinned_clean blocks counts c j (λ h. omega (arith, t.free, ap (λ (x : ℕ). get_or counts x 0) z)))
    | no z ↦ pinned_there c j z
  ])

  -- what is seen does not change
  pub seen-taken : (cache image : Bytes) → seen blocks' counts' (put cache (k * 1024) 1024 (block image b)) image ≡ seen blocks counts cache image
  seen-taken cache image = by_block _ _ (λ c i m. elim (ℕ_discrete c b) [ yes z ↦ rw z (same i m) | no z ↦ other c i m z (dec_lt (buffer_of blocks counts c) 30) ])
    where
      next : Bytes
      next = put cache (k * 1024) 1024 (block image b)

      same : (i : ℕ) → i < 1024 → seen blocks' counts' next image (b * 1024 + i) ≡ seen blocks counts cache image (b * 1024 + i)
      same i m =
          seen_in blocks' counts' next image b i m (omega (arith, taken_here, t.below))
          ∙ ap (λ (x : ℕ). next (x * 1024 + i)) taken_here
          ∙ put-at cache (k * 1024) 1024 (block image b) i m
          ∙ sym (seen_out blocks counts cache image b i m t.new)

      other : (c i : ℕ) → i < 1024 → c ≢ b → Dec (buffer_of blocks counts c < 30) → seen blocks' counts' next image (c * 1024 + i) ≡ seen blocks counts cache image (c * 1024 + i)
      other c i m z (yes l) =
          let e = taken_there c z in
          let h = buffer_holds blocks counts c l in
          let q : buffer_of blocks counts c ≢ k = λ y. omega (arith, t.free, h.1, ap (λ (x : ℕ). get_or counts x 0) y) in
          seen_in blocks' counts' next image c i m (omega (arith, e))
          ∙ ap (λ (x : ℕ). next (x * 1024 + i)) e
          ∙ put_out cache (k * 1024) 1024 (block image b) (buffer_of blocks counts c * 1024 + i) (λ x y. q (omega arith))
          ∙ sym (seen_in blocks counts cache image c i m l)
      other c i m z (no l) =
          seen_out blocks' counts' next image c i m (omega (arith, taken_there c z))
          ∙ sym (seen_out blocks counts cache image c i m (omega arith))

-- a reference more or less on a buffer that is held before and after: nothing else is seen
module _ (blocks counts counts' : List ℕ) (k n : ℕ) (had : 0 < get_or counts k 0) (some : 0 < n) (e : bytes counts' ≡ upd (bytes counts) k n) where
  pinned_counted : (b j : ℕ) → pinned blocks counts' b j ≡ pinned blocks counts b j
  unfolding pinned
  pinned_counted b j = elim (ℕ_discrete j k) [
    | yes z ↦
        let new : get_or counts' j 0 ≡ n = ap (λ (f : Bytes). f j) e ∙ ap (upd (bytes counts) k n) z ∙ upd_same (bytes counts) k n in
        let old : get_or counts j 0 ≡ get_or counts k 0 = ap (λ (x : ℕ). get_or counts x 0) z in
        elim (ℕ_discrete (get_or blocks j 0) b) [
          | yes y ↦ pinned_yes blocks counts' b j y (omega arith) ∙ sym (pinned_yes blocks counts b j y (omega arith))
          | no y ↦ pinned-other blocks counts' b j y ∙ sym (pinned-other blocks counts b j y)
        ]
    | no z ↦ same j (ap (λ (f : Bytes). f j) e ∙ upd_other (bytes counts) k n j z)
  ]
    where
      same : (j : ℕ) → get_or counts' j 0 ≡ get_or counts j 0 → pinned blocks counts' b j ≡ pinned blocks counts b j
      same j q = rw q

  pub counted_buffer : (b : ℕ) → buffer_of blocks counts' b ≡ buffer_of blocks counts b
  unfolding buffer_of
  counted_buffer b = first-same (pinned blocks counts' b) (pinned blocks counts b) 30 (λ j l. pinned_counted b j)

  pub seen_counted : (cache image : Bytes) → seen blocks counts' cache image ≡ seen blocks counts cache image
  unfolding seen
  seen_counted cache image = fun_ext λ x. rw (counted_buffer (x / 1024))

-- where nothing is held, the image is seen
pub seen-idle : (blocks counts : List ℕ) (cache image : Bytes) → ((j : ℕ) → j < 30 → get_or counts j 0 ≡ 0) → seen blocks counts cache image ≡ image
seen-idle blocks counts cache image h = by_block _ _ (λ c i m. seen_out blocks counts cache image c i m (omega (arith, buffer_none blocks counts c (λ j l e o. omega (arith, h j l)))))
