-- Numbers in memory, little-endian: one recursion serves u16 and u32. `le` makes a number of bytes, `digit` the bytes of a number, `get` reads
-- one at an address; what a `put` does to a `get` is said by `get-same`, `get_part` and `get_other`. Assumes nothing.
use Rattle.std.specs.Prelude.{◌≡◌, refl, ℕ, zero, suc, ◌+◌, ◌*◌, ◌/◌, ◌%◌, ◌^◌, ◌≤◌, ◌<◌, [], ◌∷◌}
use Rattle.std.proofs.Common.{ap, ◌∙◌, arith, pow-suc}
use Rattle.base.specs.Bytes.{Bytes, bytes, put, put_in, put_out}

-- the number that f 0, f 1, .., f (n - 1) are, the lowest byte first
unfoldable pub le : ℕ → Bytes → ℕ
le zero f = 0
le (suc n) f = f 0 + 256 * le n (λ k. f (suc k))

-- byte k of a number
unfoldable pub digit : ℕ → ℕ → ℕ
digit x zero = x % 256
digit x (suc k) = digit (x / 256) k

pub le_cong : (n : ℕ) (f g : Bytes) → ((k : ℕ) → k < n → f k ≡ g k) → le n f ≡ le n g
unfolding le
le_cong zero f g h = refl
le_cong (suc n) f g h =
    omega (arith, h 0 (omega arith), le_cong n (λ k. f (suc k)) (λ k. g (suc k)) (λ k l. h (suc k) (omega arith)))

pub le-digit : (n x : ℕ) → x < 256 ^ n → le n (digit x) ≡ x
unfolding le digit
le-digit zero x h = omega arith
le-digit (suc n) x h = omega (arith, le-digit n (x / 256) (omega (arith, pow-suc 256 n)))

-- the n bytes at address a as a number
abbrev pub get : Bytes → ℕ → ℕ → ℕ
get d a n = le n (λ k. d (a + k))

-- a number read where a number was put, and where nothing was
pub get-same : (d : Bytes) (a n : ℕ) (f : Bytes) → get (put d a n f) a n ≡ le n f
get-same d a n f = le_cong n (λ k. put d a n f (a + k)) f λ k h. put_in d a n f (a + k) (omega arith) (omega arith) ∙ ap f (omega arith)

pub get_part : (d : Bytes) (a n : ℕ) (f : Bytes) (k m : ℕ) → k + m ≤ n → get (put d a n f) (a + k) m ≡ get f k m
get_part d a n f k m l = le_cong m (λ j. put d a n f (a + k + j)) (λ j. f (k + j)) λ j h. put_in d a n f (a + k + j) (omega arith) (omega arith) ∙ ap f (omega arith)

pub get_other : (d : Bytes) (a n : ℕ) (f : Bytes) (b m : ℕ) → (a < b + m → b < a + n → ⊥) → get (put d a n f) b m ≡ get d b m
get_other d a n f b m h = le_cong m (λ k. put d a n f (b + k)) (λ k. d (b + k)) λ k l. put_out d a n f (b + k) (λ p q. h (omega arith) (omega arith))

-- the two widths, written out as the code sums them
pub get_two : (d : Bytes) (a : ℕ) → get d a 2 ≡ d (a + 0) + 256 * d (a + 1)
unfolding le
get_two d a = omega arith

pub get_four : (d : Bytes) (a : ℕ) → get d a 4 ≡ d (a + 0) + 256 * d (a + 1) + 65536 * d (a + 2) + 16777216 * d (a + 3)
unfolding le
get_four d a = omega arith

-- numbers of memories that agree, one moved by o
pub get_moved : (d e : Bytes) (o m : ℕ) → ((i : ℕ) → i < m → d i ≡ e (o + i)) → (a n : ℕ) → a + n ≤ m → get d a n ≡ get e (o + a) n
get_moved d e o m same a n l = le_cong n (λ k. d (a + k)) (λ k. e (o + a + k)) λ k h. same (a + k) (omega arith) ∙ ap e (omega arith)

pub get_same_bytes : (d e : Bytes) (a n : ℕ) → ((k : ℕ) → k < n → d (a + k) ≡ e (a + k)) → get d a n ≡ get e a n
get_same_bytes d e a n h = le_cong n (λ k. d (a + k)) (λ k. e (a + k)) h

-- bytes make a number that fits
pub le_lt : (n : ℕ) (f : Bytes) → ((k : ℕ) → f k < 256) → le n f < 256 ^ n
unfolding le
le_lt zero f h = omega arith
le_lt (suc n) f h = omega (arith, h 0, le_lt n (λ k. f (suc k)) (λ k. h (suc k)), pow-suc 256 n)

pub digit_lt : (x k : ℕ) → digit x k < 256
unfolding digit
digit_lt x zero = omega arith
digit_lt x (suc k) = digit_lt (x / 256) k

-- a number that was put is read back
pub get-put : (d : Bytes) (a n x : ℕ) → x < 256 ^ n → get (put d a n (digit x)) a n ≡ x
get-put d a n x h = get-same d a n (digit x) ∙ le-digit n x h

-- as the library joins bytes
pub from_two : (d : Bytes) (a r x y : ℕ) → x ≡ d (a + 0) → y ≡ d (a + 1) → r ≡ x + y * 256 → r ≡ get d a 2
from_two d a r x y hx hy h = omega (arith, get_two d a)

pub from_four : (d : Bytes) (a r x y z w : ℕ) → x ≡ d (a + 0) → y ≡ d (a + 1) → z ≡ d (a + 2) → w ≡ d (a + 3)
    → r ≡ x + y * 256 + z * 65536 + w * 16777216 → r ≡ get d a 4
from_four d a r x y z w hx hy hz hw h = omega (arith, get_four d a)

-- the bytes that the library makes of a number
pub digit_two : (x i : ℕ) → i < 2 → bytes (x % 256 ∷ x / 256 % 256 ∷ []) i ≡ digit x i
unfolding digit
digit_two x zero h = refl
digit_two x (suc zero) h = refl
digit_two x (suc (suc i)) h = absurd (omega arith)

pub digit_four : (x i : ℕ) → i < 4 → bytes (x % 256 ∷ x / 256 % 256 ∷ x / 65536 % 256 ∷ x / 16777216 % 256 ∷ []) i ≡ digit x i
unfolding digit
digit_four x zero h = refl
digit_four x (suc zero) h = refl
digit_four x (suc (suc zero)) h = omega arith
digit_four x (suc (suc (suc zero))) h = omega arith
digit_four x (suc (suc (suc (suc i)))) h = absurd (omega arith)

pub here : (d : Bytes) (a : ℕ) → d a ≡ d (a + 0)
here d a = ap d (omega arith)
