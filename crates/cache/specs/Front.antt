-- The places up to a buffer's own turned by one: that buffer at the front of the order. Assumes nothing.
use Rattle.std.specs.Prelude.{◌≡◌, List, ◌++◌, ℕ, zero, suc, ◌+◌, ◌-◌, ◌<◌, get_or, length, take, drop, eqb}
use Rattle.std.specs.List.{RotatedRight}
use Rattle.std.proofs.Common.{sym, ap, ◌∙◌, arith, eqb-true, length-append, length-drop, length-take-le, get_or-take, get_or-drop, get_or-append-add}
use Rattle.std.proofs.Math.Decide.{dec_lt}
use Rattle.std.proofs.Math.ListN.{get_or-append}
use Rattle.base.specs.First.{first_holds}
use Rattle.bio.specs.Order.{front, front_is, front_before, front_after, place_of}

pub turned : (j p : ℕ) (l ys : List ℕ) → length l ≡ 30 → p ≡ place_of j l 30 → p < 30
    → RotatedRight (take (p + 1) l) ys (length (take (p + 1) l)) 1 → length ys ≡ length (take (p + 1) l) → ys ++ drop (p + 1) l ≡ front j l
turned j p l ys s e h r m = front_is j l s (ys ++ drop (p + 1) l) (omega (arith, length-append ys (drop (p + 1) l), length-drop (p + 1) l, m, long)) (omega arith) each
  where
    long : length (take (p + 1) l) ≡ p + 1
    long = length-take-le (p + 1) l (omega arith)

    own : get_or l p 0 ≡ j
    own = rw e (eqb-true (get_or l (place_of j l 30) 0) j (first_holds (λ i. eqb (get_or l i 0) j) 30 (rw e at h)))

    low : (i : ℕ) → i < p + 1 → get_or ys i 0 ≡ get_or (front j l) i 0
    low zero q =
        let i : length (take (p + 1) l) - 1 + 0 ≡ p = omega (arith, long) in
        r.0 0 0 (omega arith) ∙ rw i (get_or-take (p + 1) l p 0 (omega arith) ∙ own)
    low (suc i) q = r.1 (suc i) 0 (omega arith) (omega (arith, long)) ∙ get_or-take (p + 1) l (suc i - 1) 0 (omega arith) ∙ sym (front_before j l s (suc i) (omega arith) (omega arith))

    each : (i : ℕ) → i < 30 → get_or (ys ++ drop (p + 1) l) i 0 ≡ get_or (front j l) i 0
    each i k = elim (dec_lt i (p + 1)) [
      | yes q ↦ get_or-append ys (drop (p + 1) l) 0 i (omega (arith, m, long)) ∙ low i q
      | no q ↦
          let x : i ≡ length ys + (i - (p + 1)) = omega (arith, m, long) in
          let y : p + 1 + (i - (p + 1)) ≡ i = omega arith in
          ap (λ (z : ℕ). get_or (ys ++ drop (p + 1) l) z 0) x ∙ get_or-append-add ys (drop (p + 1) l) (i - (p + 1)) 0
          ∙ get_or-drop (p + 1) l (i - (p + 1)) 0 ∙ ap (λ (z : ℕ). get_or l z 0) y ∙ sym (front_after j l s i (omega arith))
    ]
