-- Blocks, and numbers of four bytes in a row, over base's `put`: what a header is made of. Assumes nothing.
use Rattle.std.specs.Prelude.{◌≡◌, refl, List, ℕ, ◌+◌, ◌-◌, ◌*◌, ◌/◌, ◌%◌, ◌^◌, ◌≤◌, ◌<◌, get_or, take, drop}
use Rattle.std.proofs.Common.{◌∙◌, ap, get_or-take, get_or-drop}
use native.Mathlib.Omega.{arith}
use Rattle.std.proofs.Math.Decide.{dec_lt}
use Rattle.base.specs.Bytes.{Bytes, put, put_in, put_out, put-at, put-none, put_same, put_more, is_put, put_block}
use Rattle.base.specs.Number.{get, digit, le_cong, le-digit}

-- m numbers of four bytes from address a on become w
unfoldable pub put_words : Bytes → ℕ → ℕ → (ℕ → ℕ) → Bytes
put_words d a m w = put d a (4 * m) (λ j. digit (w (j / 4)) (j % 4))

module _ (d : Bytes) (a m : ℕ) (w : ℕ → ℕ) where
  -- byte t of number i
  pub words_byte : (i t : ℕ) {x : ℕ} → x ≡ a + 4 * i + t → i < m → t < 4 → put_words d a m w x ≡ digit (w i) t
  unfolding put_words
  words_byte i t {x} e h k =
      let q : (x - a) / 4 ≡ i = omega arith in
      let r : (x - a) % 4 ≡ t = omega arith in
      put_in d a (4 * m) (λ j. digit (w (j / 4)) (j % 4)) x (omega arith) (omega arith) ∙ rw (q, r)

  -- number i, read back
  pub words_in : (i : ℕ) → i < m → w i < 256 ^ 4 → get (put_words d a m w) (a + 4 * i) 4 ≡ w i
  words_in i h k =
      le_cong 4 (λ t. put_words d a m w (a + 4 * i + t)) (digit (w i)) (λ t l. words_byte i t refl h l)
      ∙ le-digit 4 (w i) k

  -- the first, which stands at a itself
  pub words-first : 0 < m → w 0 < 256 ^ 4 → get (put_words d a m w) a 4 ≡ w 0
  words-first h k =
      let e : a ≡ a + 4 * 0 = omega arith in
      ap (λ (z : ℕ). get (put_words d a m w) z 4) e ∙ words_in 0 h k

  pub words_out : (x : ℕ) → (a ≤ x → x < a + 4 * m → ⊥) → put_words d a m w x ≡ d x
  unfolding put_words
  words_out x h = put_out d a (4 * m) (λ j. digit (w (j / 4)) (j % 4)) x h

pub words-none : (d : Bytes) (a : ℕ) (w : ℕ → ℕ) → put_words d a 0 w ≡ d
unfolding put_words
words-none d a w = put-none d a (λ j. digit (w (j / 4)) (j % 4))

-- a number put after numbers, and one before them
pub words_more : (d : Bytes) (a i : ℕ) (w : ℕ → ℕ) → put (put_words d a i w) (a + 4 * i) 4 (digit (w i)) ≡ put_words d a (i + 1) w
unfolding put_words
words_more d a i w =
    put_more d a (4 * i) (a + 4 * i) 4 (λ j. digit (w (j / 4)) (j % 4)) (digit (w i)) refl
    (λ j l.
    let q : (4 * i + j) / 4 ≡ i = omega arith in
    let r : (4 * i + j) % 4 ≡ j = omega arith in
    rw (q, r))
    ∙ ap (λ m. put d a m (λ j. digit (w (j / 4)) (j % 4))) (omega arith)

pub words_cons : (d : Bytes) (a b n v : ℕ) (h w : ℕ → ℕ) → b ≡ a + 4 → w 0 ≡ v → ((i : ℕ) → w (i + 1) ≡ h i)
    → put (put_words d b n h) a 4 (digit v) ≡ put_words d a (n + 1) w
unfolding put_words
words_cons d a b n v h w e z s =
    is_put (put (put_words d b n h) a 4 (digit v)) d a (4 * (n + 1)) (λ j. digit (w (j / 4)) (j % 4)) within outer
  where
    within : (j : ℕ) → j < 4 * (n + 1) → put (put_words d b n h) a 4 (digit v) (a + j) ≡ digit (w (j / 4)) (j % 4)
    within j l = elim (dec_lt j 4) [
      | yes k ↦
          let q : j / 4 ≡ 0 = omega arith in
          let r : j % 4 ≡ j = omega arith in
          put-at (put_words d b n h) a 4 (digit v) j k ∙ rw (q, r, z)
      | no k ↦
          let q : j / 4 ≡ (j - 4) / 4 + 1 = omega arith in
          put_out (put_words d b n h) a 4 (digit v) (a + j) (λ p o. omega arith)
          ∙ words_byte d b n h ((j - 4) / 4) (j % 4) {x = a + j} (omega arith) (omega arith) (omega arith)
          ∙ rw (q, s)
    ]

    outer : (x : ℕ) → (a ≤ x → x < a + 4 * (n + 1) → ⊥) → put (put_words d b n h) a 4 (digit v) x ≡ d x
    outer x o =
        put_out (put_words d b n h) a 4 (digit v) x (λ p q. o p (omega arith))
        ∙ words_out d b n h x (λ p q. o (omega arith) (omega arith))

-- a block, by the number of the block that x lies in
module _ (d : Bytes) (b : ℕ) (f : Bytes) (x : ℕ) where
  pub block_in : b ≡ x / 1024 → put_block d b f x ≡ f (x % 1024)
  block_in h =
      let e : x - b * 1024 ≡ x % 1024 = omega arith in
      put_in d (b * 1024) 1024 f x (omega arith) (omega arith) ∙ ap f e

  pub block_off : (b ≡ x / 1024 → ⊥) → put_block d b f x ≡ d x
  block_off h = put_out d (b * 1024) 1024 f x (λ p q. h (omega arith))

-- only a block's 1,024 bytes count
pub block_same : (d : Bytes) (b : ℕ) (f g : Bytes) → ((j : ℕ) → j < 1024 → f j ≡ g j) → put_block d b f ≡ put_block d b g
block_same d b f g h = put_same d (b * 1024) 1024 f g h

-- a part of a slice that is read
pub part_read : (l : List ℕ) (a k j : ℕ) → j < k → get_or (take k (drop a l)) j 0 ≡ get_or l (a + j) 0
part_read l a k j h = get_or-take k (drop a l) j 0 h ∙ get_or-drop a l j 0
