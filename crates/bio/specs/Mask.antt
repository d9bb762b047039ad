-- Which buffers an order names, as the bits of one number: the test that it misses none. Assumes nothing.
use Rattle.std.specs.Prelude.{◌≡◌, refl, ◌≢◌, Bool, true, false, cond, List, ℕ, zero, suc, ◌+◌, ◌-◌, ◌*◌, ◌/◌, ◌%◌, ◌^◌, ◌≤◌, ◌<◌, get_or, eqb}
use Rattle.std.proofs.Common.{sym, ap, ◌∙◌, arith, pow-suc, pow_pos, eqb-true}
use Rattle.std.proofs.Math.Decide.{ℕ_discrete}
use Rattle.std.proofs.Math.Pow.{pow-lt}
use Rattle.std.specs.Int.Bits.{bit_or}
use Rattle.std.proofs.lemmas.Bool.{eqb-false}
use Rattle.base.specs.Bit.{bit_at, bit_same, bit_other, with_bit_byte, set-or}
use Rattle.base.specs.Decide.{Decides}
use Rattle.bio.specs.Among.{among, among_where, among_yes, among_no, among_none}
use Rattle.bio.specs.Order.{Named}

-- bit j of m says whether buffer j is among the first n of the order
pub record Marks (m : ℕ) (order : List ℕ) (n : ℕ) : Type 0 where
  pub fits : m < 2 ^ 30
  pub bits : (j : ℕ) → j < 30 → bit_at m j ≡ cond (among order n j) 1 0

bit_zero : (k : ℕ) → bit_at 0 k ≡ 0
unfolding bit_at
bit_zero zero = refl
bit_zero (suc k) = bit_zero k

module _ (l : List ℕ) (n b : ℕ) where
  among_hit : get_or l n 0 ≡ b → among l (n + 1) b ≡ true
  among_hit e = among_yes l (n + 1) b n (omega arith) e

  among_miss : get_or l n 0 ≢ b → among l (n + 1) b ≡ among l n b
  among_miss h = go (among l n b) refl
    where
      go : (t : Bool) → among l n b ≡ t → among l (n + 1) b ≡ t
      go true e = let w = among_where l n b e in among_yes l (n + 1) b w.0 (omega (arith, w.1)) w.2
      go false e = among_none l (n + 1) b (λ i m z. elim (ℕ_discrete i n) [
        | yes y ↦ h (ap (λ (x : ℕ). get_or l x 0) (sym y) ∙ z)
        | no y ↦ among_no l n b e i (omega arith) z
      ])

module _ (order : List ℕ) where
  pub marks_none : Marks 0 order 0
  marks_none = record {
    fits = pow_pos 30;
    bits = λ j l. bit_zero j ∙ ap (λ (t : Bool). cond t 1 0) (sym (among_none order 0 j (λ i m z. absurd (omega arith))));
  }

  -- a number that is no buffer's marks nothing
  pub marks_skip : (m m' i : ℕ) → Marks m order i → 30 ≤ get_or order i 0 → m' ≡ m → Marks m' order (i + 1)
  marks_skip m m' i k h e = record {
    fits = rw e k.fits;
    bits = λ j l. ap (λ (x : ℕ). bit_at x j) e ∙ k.bits j l ∙ ap (λ (t : Bool). cond t 1 0) (sym (among_miss order i j (λ e. omega arith)));
  }

  -- as the code reads: the bit is set
  pub marks_set : (m m' i : ℕ) → Marks m order i → get_or order i 0 < 30 → m' ≡ bit_or m ((1 * 2 ^ get_or order i 0) % 4294967296) → Marks m' order (i + 1)
  marks_set m m' i k h q =
      let p : 2 ^ get_or order i 0 < 4294967296 = pow-lt {j = 32} (omega arith) in
      let e : (1 * 2 ^ get_or order i 0) % 4294967296 ≡ 2 ^ get_or order i 0 = omega arith in
      rw (q, e, set-or m (get_or order i 0)) (record {
        fits = with_bit_byte m (get_or order i 0) 1 30 (omega arith) h k.fits;
        bits = λ j l. elim (ℕ_discrete j (get_or order i 0)) [
          | yes z ↦ rw (z, among_hit order i (get_or order i 0) refl) (bit_same m (get_or order i 0) 1 (omega arith))
          | no z ↦
              bit_other m (get_or order i 0) 1 j (omega arith) z ∙ k.bits j l
              ∙ ap (λ (t : Bool). cond t 1 0) (sym (among_miss order i j (λ e. z (sym e))))
        ];
      })

-- all n bits
full-bits : (n j : ℕ) → j < n → bit_at (2 ^ n - 1) j ≡ 1
unfolding bit_at
full-bits zero j h = absurd (omega arith)
full-bits (suc n) zero h = omega (arith, pow-suc 2 n, pow_pos n)
full-bits (suc n) (suc j) h =
    let e : (2 ^ suc n - 1) / 2 ≡ 2 ^ n - 1 = omega (arith, pow-suc 2 n, pow_pos n) in
    rw e (full-bits n j (omega arith))

bits_full : (n m : ℕ) → m < 2 ^ n → ((j : ℕ) → j < n → bit_at m j ≡ 1) → m ≡ 2 ^ n - 1
unfolding bit_at
bits_full zero m h b = omega arith
bits_full (suc n) m h b =
    let e : m / 2 ≡ 2 ^ n - 1 = bits_full n (m / 2) (omega (arith, pow-suc 2 n)) (λ j l. b (suc j) (omega arith)) in
    let z : m % 2 ≡ 1 = b zero (omega arith) in
    omega (arith, pow-suc 2 n, pow_pos n)

-- the order misses no buffer exactly where all 30 bits are set
pub marks_decide : (m : ℕ) (order : List ℕ) → Marks m order 30 → Decides (eqb m 1073741823) (Named order)
marks_decide m order k = record {
  true_is = λ e. record {
    each = λ j l. yes_is (among order 30 j) (sym (k.bits j l) ∙ ap (λ (x : ℕ). bit_at x j) (eqb-true m 1073741823 e) ∙ full-bits 30 j l);
  };
  false_is = λ e n. eqb-false m 1073741823 e (bits_full 30 m k.fits (λ j l. k.bits j l ∙ ap (λ (t : Bool). cond t 1 0) (n.each j l)));
}
  where
    yes_is : (t : Bool) → ◌≡◌ {A = ℕ} (cond t 1 0) 1 → t ≡ true
    yes_is true e = refl
    yes_is false e = absurd (omega arith)
