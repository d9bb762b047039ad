-- 16 bits read as a signed number, and how the code reads them. Assumes nothing.
use Rattle.std.specs.Prelude.{◌≡◌, refl, cond, ℕ, zero, suc, ◌-◌, ◌≤◌, ◌<◌, ltb, ℤ, pos, negsuc, ◌-ℤ◌}
use Rattle.std.proofs.Common.{ap, ◌∙◌, arith, lt-ltb, le-ltb}
use mir.Syntax.{w16}
use mir.Val.{to_z, of_z, SFits}
use mir.ValLaws.{to_z_pos, to_z-of_z, to_z-Fits}

-- 16 bits as a signed number, -32,768 to 32,767: `negsuc k` is -(k + 1)
unfoldable pub signed : ℕ → ℤ
signed n = cond (ltb n 32768) (pos n) (negsuc (65535 - n))

-- z is that number, and 16 bits hold it
pub record IsSigned (n : ℕ) (z : ℤ) : Type 0 where
  pub is : z ≡ signed n
  pub fits : SFits w16 z

-- ---- laws

pub signed_pos : (n : ℕ) → n < 32768 → IsSigned n (to_z w16 n)
unfolding signed
signed_pos n h = record { is = to_z_pos w16 n h ∙ rw (lt-ltb n 32768 h); fits = to_z-Fits w16 n (record { fits = omega arith }) }

below : (m : ℕ) → negsuc 0 -ℤ pos m ≡ negsuc m
below zero = refl
below (suc m) = ap negsuc (omega arith)

module _ (n : ℕ) (h : 32768 ≤ n) where
  value : negsuc 0 -ℤ to_z w16 (65535 - n) ≡ negsuc (65535 - n)
  value = ap (λ (z : ℤ). negsuc 0 -ℤ z) (to_z_pos w16 (65535 - n) (omega arith)) ∙ below (65535 - n)

  pub signed_fits : SFits w16 (negsuc 0 -ℤ to_z w16 (65535 - n))
  signed_fits = rw value (record { sfits = omega arith })

  pub signed_neg : IsSigned n (to_z w16 (of_z w16 (negsuc 0 -ℤ to_z w16 (65535 - n))))
  unfolding signed
  signed_neg =
      let e = to_z-of_z w16 (negsuc 0 -ℤ to_z w16 (65535 - n)) signed_fits in
      record { is = e ∙ value ∙ rw (le-ltb n 32768 h); fits = rw e signed_fits }

-- a number that 16 bits hold is what they are read as
pub stored : (n : ℕ) (z : ℤ) → IsSigned n z → to_z w16 (of_z w16 z) ≡ signed n
stored n z i = to_z-of_z w16 z i.fits ∙ i.is
