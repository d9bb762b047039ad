-- One bit of a byte, as 0 or 1: `bit_at` reads it, `with_bit` changes it and leaves every other as it was. The code's shifts and masks are these.
-- Assumes nothing.
use Rattle.std.specs.Prelude.{◌≡◌, refl, ◌≢◌, ℕ, zero, suc, ◌+◌, ◌-◌, ◌*◌, ◌/◌, ◌%◌, ◌^◌, ◌<◌}
use Rattle.std.proofs.Common.{sym, ap, ◌∙◌, arith, pow-suc, mod-eq_of_lt, pow_pos}
use Rattle.std.proofs.Math.Nat.{div-div-eq-div-mul}
use Rattle.std.proofs.Math.Pow.{pow-lt}
use Rattle.std.specs.Int.Bits.{bit_or, bit_and, or_step, and_step, or_zero_r}
use Rattle.std.proofs.lemmas.Nat.{and_mask}

-- bit k of a number, 0 or 1
unfoldable pub bit_at : ℕ → ℕ → ℕ
bit_at v zero = v % 2
bit_at v (suc k) = bit_at (v / 2) k

-- v with bit k made t (0 or 1)
unfoldable pub with_bit : ℕ → ℕ → ℕ → ℕ
with_bit v zero t = v / 2 * 2 + t
with_bit v (suc k) t = with_bit (v / 2) k t * 2 + v % 2

pub bit_same : (v k t : ℕ) → t < 2 → bit_at (with_bit v k t) k ≡ t
unfolding bit_at with_bit
bit_same v zero t h = omega arith
bit_same v (suc k) t h =
    let e : (with_bit (v / 2) k t * 2 + v % 2) / 2 ≡ with_bit (v / 2) k t = omega arith in
    rw e (bit_same (v / 2) k t h)

pub bit_other : (v k t j : ℕ) → t < 2 → j ≢ k → bit_at (with_bit v k t) j ≡ bit_at v j
unfolding bit_at with_bit
bit_other v zero t zero h n = absurd (n refl)
bit_other v zero t (suc j) h n = let e : (v / 2 * 2 + t) / 2 ≡ v / 2 = omega arith in rw e
bit_other v (suc k) t zero h n = omega arith
bit_other v (suc k) t (suc j) h n =
    let e : (with_bit (v / 2) k t * 2 + v % 2) / 2 ≡ with_bit (v / 2) k t = omega arith in
    rw e (bit_other (v / 2) k t j h (omega arith))

pub with_bit_byte : (v k t : ℕ) (n : ℕ) → t < 2 → k < n → v < 2 ^ n → with_bit v k t < 2 ^ n
unfolding with_bit
with_bit_byte v zero t (suc n) h l b = omega (arith, pow-suc 2 n)
with_bit_byte v (suc k) t (suc n) h l b = omega (arith, pow-suc 2 n, with_bit_byte (v / 2) k t n h (omega arith) (omega (arith, pow-suc 2 n)))
with_bit_byte v k t zero h l b = omega arith

pub bit_at_lt : (v k : ℕ) → bit_at v k < 2
unfolding bit_at
bit_at_lt v zero = omega arith
bit_at_lt v (suc k) = bit_at_lt (v / 2) k

-- ---- the code's shifts and masks

pub bit_shift : (v k : ℕ) → bit_at v k ≡ v / 2 ^ k % 2
unfolding bit_at
bit_shift v zero = omega arith
bit_shift v (suc k) = bit_shift (v / 2) k ∙ ap (λ (x : ℕ). x % 2) (div-div-eq-div-mul v 2 (2 ^ k) ∙ ap (λ (x : ℕ). v / x) (omega (arith, pow-suc 2 k)))

pub set-or : (v k : ℕ) → bit_or v (2 ^ k) ≡ with_bit v k 1
unfolding with_bit
set-or v zero = or_step v 1 ∙ omega (arith, or_zero_r (v / 2))
set-or v (suc k) =
    let h : 2 ^ suc k / 2 ≡ 2 ^ k = omega (arith, pow-suc 2 k) in
    let l : 2 ^ suc k % 2 ≡ 0 = omega (arith, pow-suc 2 k) in
    or_step v (2 ^ suc k) ∙ rw (h, l) (omega (arith, set-or (v / 2) k))

-- `v & !(1 << k)`, of v with n bits
pub clear-and : (n v k : ℕ) → v < 2 ^ n → k < n → bit_and v (2 ^ n - 1 - 2 ^ k) ≡ with_bit v k 0
unfolding with_bit
clear-and zero v k h l = omega arith
clear-and (suc n) v zero h l =
    let e : (2 ^ suc n - 1 - 1) / 2 ≡ 2 ^ n - 1 = omega (arith, pow-suc 2 n) in
    let z : (2 ^ suc n - 1 - 1) % 2 ≡ 0 = omega (arith, pow-suc 2 n, pow_pos n) in
    let b : v / 2 < 2 ^ n = omega (arith, pow-suc 2 n) in
    and_step v (2 ^ suc n - 1 - 1) ∙ rw (e, z) (omega (arith, and_mask (v / 2) n, mod-eq_of_lt b))
clear-and (suc n) v (suc k) h l =
    let p : 2 ^ k < 2 ^ n = pow-lt (omega arith) in
    let e : (2 ^ suc n - 1 - 2 ^ suc k) / 2 ≡ 2 ^ n - 1 - 2 ^ k = omega (arith, pow-suc 2 n, pow-suc 2 k) in
    let z : (2 ^ suc n - 1 - 2 ^ suc k) % 2 ≡ 1 = omega (arith, pow-suc 2 n, pow-suc 2 k) in
    and_step v (2 ^ suc n - 1 - 2 ^ suc k) ∙ rw (e, z) (omega (arith, clear-and n (v / 2) k (omega (arith, pow-suc 2 n)) (omega arith)))

-- ---- as the code's facts read, of a byte

one_shl : (k : ℕ) → k < 8 → (1 * 2 ^ k) % 256 ≡ 2 ^ k
one_shl k h = let l : 2 ^ k < 256 = pow-lt h in omega arith

pub code_bit : (v k : ℕ) → bit_and (v / 2 ^ k) 1 ≡ bit_at v k
code_bit v k = and_mask (v / 2 ^ k) 1 ∙ sym (bit_shift v k)

pub code_set : (v k : ℕ) → k < 8 → bit_or v ((1 * 2 ^ k) % 256) ≡ with_bit v k 1
code_set v k h = rw (one_shl k h) (set-or v k)

pub code_clear : (v k : ℕ) → v < 256 → k < 8 → bit_and v (255 - (1 * 2 ^ k) % 256) ≡ with_bit v k 0
code_clear v k l h = rw (one_shl k h) (clear-and 8 v k l h)
